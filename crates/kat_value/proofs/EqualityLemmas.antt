-- What the test of equality says.
use Rattle.std.proofs.Common.{◌≡◌, ◌≢◌, ◌↔◌, ◌∙◌, IsTrue, false, true, Bool, List, [], ◌∷◌, length, map, refl, suc, ap, sym, subst}
use Rattle.std.proofs.lemmas.Bool.{and_parts, and_from, and_right, eqb-true, eq-eqb}
use Rattle.kat_value.specs.declared.value.Value.{Value, out-Value, roll-Value, out-roll-Value, roll-out-Value, map-Value, fold-roll-Value, ind-Value}
use Rattle.kat_value.specs.declared.value.Value.TheOpen.{Value-F, Unit as Unit', Bool as Truth, Bits, Member, Made, Rec}
use Rattle.kat_value.specs.Equality.{same_layer, value_eq, values_eq}

-- lists of two lengths are not equal
pub values_eq-lengths : (vs ws : List Value) → length vs ≢ length ws → values_eq vs ws ≡ false
values_eq-lengths [] [] ne = absurd (ne refl)
values_eq-lengths [] (w ∷ ws) ne = refl
values_eq-lengths (v ∷ vs) [] ne = refl
values_eq-lengths (v ∷ vs) (w ∷ ws) ne =
    and_right (value_eq v w) (values_eq vs ws) (values_eq-lengths vs ws (λ e. ne (ap suc e)))

-- equality at one layer, and below
pub value_eq-roll : (x y : Value-F Value) → value_eq (roll-Value x) (roll-Value y) ≡ same_layer (map-Value Value (Value → Bool) value_eq x) y
value_eq-roll x y =
    ap (λ (test : Value → Bool). test (roll-Value y)) (fold-roll-Value (Value → Bool) (λ layer v. same_layer layer (out-Value v)) x)
    ∙ ap (same_layer (map-Value Value (Value → Bool) value_eq x)) (out-roll-Value y)

-- a value that is equal to itself by the test
abbrev IsSelfEqual : Value → Type 0
IsSelfEqual v = value_eq v v ≡ true

self_equal_all : (vs : List ((v : Value) × IsSelfEqual v)) → values_eq (map (λ e. e.0) vs) (map (λ e. e.0) vs) ≡ true
self_equal_all [] = refl
self_equal_all (e ∷ vs) = and_from _ _ e.1 (self_equal_all vs)

abbrev first : Value-F ((v : Value) × IsSelfEqual v) → Value-F Value
first = map-Value ((v : Value) × IsSelfEqual v) Value (λ e. e.0)

beq_self : (p : Bool) → same_layer (Truth p) (Truth p) ≡ true
beq_self true = refl
beq_self false = refl

self_equal_layer : (y : Value-F ((v : Value) × IsSelfEqual v)) → same_layer (map-Value Value (Value → Bool) value_eq (first y)) (first y) ≡ true
self_equal_layer Unit' = refl
self_equal_layer (Truth p) = beq_self p
self_equal_layer (Bits w n) = and_from _ _ (eq-eqb w w refl) (eq-eqb n n refl)
self_equal_layer (Member t i) = and_from _ _ (eq-eqb t t refl) (eq-eqb i i refl)
self_equal_layer (Made t k inner) = and_from _ _ (eq-eqb t t refl) (and_from _ _ (eq-eqb k k refl) inner.1)
self_equal_layer (Rec t fields) = and_from _ _ (eq-eqb t t refl) (self_equal_all fields)

pub value_eq-self : (v : Value) → value_eq v v ≡ true
value_eq-self = ind-Value IsSelfEqual (λ x y is.
    value_eq-roll x x ∙ subst (λ z. same_layer (map-Value Value (Value → Bool) value_eq z) z ≡ true) is (self_equal_layer y))

-- a value that equals whatever the test finds equal to it
abbrev IsTold : Value → Type 0
IsTold v = (w : Value) → value_eq v w ≡ true → v ≡ w

abbrev told : Value-F ((v : Value) × IsTold v) → Value-F Value
told = map-Value ((v : Value) × IsTold v) Value (λ e. e.0)

told_all : (vs : List ((v : Value) × IsTold v)) (ws : List Value) → values_eq (map (λ e. e.0) vs) ws ≡ true → map (λ e. e.0) vs ≡ ws
told_all [] [] h = refl
told_all [] (w ∷ ws) h = cc
told_all (e ∷ vs) [] h = cc
told_all (e ∷ vs) (w ∷ ws) h =
    let parts = and_parts _ _ h in
    let head : e.0 ≡ w = e.1 w parts.0 in
    let tail : map (λ e. e.0) vs ≡ ws = told_all vs ws parts.1 in
    cc

same_truth : (p q : Bool) → same_layer (Truth p) (Truth q) ≡ true → p ≡ q
same_truth true true h = refl
same_truth true false h = cc
same_truth false true h = cc
same_truth false false h = refl

told_layer : (y : Value-F ((v : Value) × IsTold v)) (z : Value-F Value) → same_layer (map-Value Value (Value → Bool) value_eq (told y)) z ≡ true → told y ≡ z
told_layer Unit' Unit' h = refl
told_layer (Truth p) (Truth q) h = ap Truth (same_truth p q h)
told_layer (Bits w m) (Bits v n) h =
    let parts = and_parts _ _ h in
    let width : w ≡ v = eqb-true w v parts.0 in
    let number : m ≡ n = eqb-true m n parts.1 in
    cc
told_layer (Member t i) (Member u j) h =
    let parts = and_parts _ _ h in
    let of : t ≡ u = eqb-true t u parts.0 in
    let index : i ≡ j = eqb-true i j parts.1 in
    cc
told_layer (Made t k e) (Made u l w) h =
    let parts = and_parts _ _ h in
    let rest = and_parts _ _ parts.1 in
    let of : t ≡ u = eqb-true t u parts.0 in
    let ctor : k ≡ l = eqb-true k l rest.0 in
    let inner : e.0 ≡ w = e.1 w rest.1 in
    cc
told_layer (Rec t fields) (Rec u ws) h =
    let parts = and_parts _ _ h in
    let of : t ≡ u = eqb-true t u parts.0 in
    let all : map (λ e. e.0) fields ≡ ws = told_all fields ws parts.1 in
    cc
told_layer _ _ h = cc

pub value_eq-told : (v w : Value) → value_eq v w ≡ true → v ≡ w
value_eq-told = ind-Value IsTold (λ x y is w h.
    let of_layer : (z : Value-F Value) → same_layer (map-Value Value (Value → Bool) value_eq x) z ≡ true → x ≡ z =
    subst (λ u. (z : Value-F Value) → same_layer (map-Value Value (Value → Bool) value_eq u) z ≡ true → u ≡ z) is (told_layer y) in
    let at_layer : value_eq (roll-Value x) (roll-Value (out-Value w)) ≡ true = ap (value_eq (roll-Value x)) (roll-out-Value w) ∙ h in
    ap roll-Value (of_layer (out-Value w) (sym (value_eq-roll x (out-Value w)) ∙ at_layer)) ∙ roll-out-Value w)

-- the test holds exactly of equal values
pub value_eq_is : (v w : Value) → IsTrue (value_eq v w) ↔ (v ≡ w)
value_eq_is v w = (value_eq-told v w, λ e. subst (λ u. value_eq v u ≡ true) e (value_eq-self v))
