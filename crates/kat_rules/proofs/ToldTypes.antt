-- The type that a term tells is that of its value.
use Rattle.std.proofs.Common.{◌≡◌, ◌∙◌, ℕ, zero, suc, ◌+◌, ◌-◌, Bool, true, false, List, [], ◌∷◌, map, Option, Some, None, refl, ap, sym, subst, if◌then◌else◌, nat_le, nat_lt}
use Rattle.std.specs.Prelude.{not, ◌==◌, ◌&&◌, ◌||◌, slice_get, option_and_then}
use Rattle.std.specs.Option.{option_map}
use Rattle.std.proofs.lemmas.Bool.{and_parts, eqb-true}
use Rattle.kat_value.specs.declared.op.Op.{Op}
use Rattle.kat_value.specs.declared.op.Op.TheVariants.{Not, And, Or, Eq, Ult, Ule, Slt, Sle, Add, Sub, Mul, Band, Bor, Bxor, Bnot, Shl, Shr, Sar, Slice, Cat, Zext, Sext, Ite, Get}
use Rattle.kat_value.specs.declared.types.Ty.{Ty}
use Rattle.kat_value.specs.declared.types.Ty.TheVariants as ty
use Rattle.kat_value.specs.declared.types.TypeDecl.{TypeDecl}
use Rattle.kat_value.specs.declared.value.Value.{Value, out-Value}
use Rattle.kat_value.specs.declared.value.Value.TheVariants.{Bool as Truth, Bits}
use Rattle.kat_value.specs.declared.value.Value.TheOpen.{Value-F, Bool as TruthLayer, Bits as BitsLayer}
use Rattle.kat_value.specs.Equality.{value_eq}
use Rattle.kat_value.specs.Numbers.{truth_of_op, number_of_op}
use Rattle.kat_value.specs.Widths.{is_number}
use Rattle.kat_value.specs.Signatures.{same_type, bits_of}
use Rattle.kat_value.specs.TypeLaws.{BoolIsTruths, BitsAreNumbers}
use Rattle.kat_value.specs.Typing.{HasType}
use Rattle.kat_value.specs.Widths.{widest, is_width}
use Rattle.kat_term.specs.declared.term.Term.{Term}
use Rattle.kat_term.specs.declared.term.Term.TheOpen.{Term-F, Var, Lit, Apply, Make, Rec}
use Rattle.kat_term.specs.declared.term.Term.TheViews.{roll-Term}
use Rattle.kat_term.specs.declared.term.Term.TheVariants.{Apply as ApplyTerm, rolls-Apply}
use Rattle.kat_term.specs.declared.term.Term.TheFolds.{map-Term, fold-roll-Term, ind-Term}
use Rattle.kat_value.specs.Operations.{of_truth, of_truths, of_number, of_numbers, of_parts, of_equals, can_be_chosen, of_choice, value_of_one, value_of_two, value_of_three, value_of_op}
use Rattle.kat_value.specs.Shown.{type_of_layer, type_of_value, one_type}
use Rattle.kat_term.specs.Types.{IsValuation}
use Rattle.kat_value.specs.Making.{all_there}
use Rattle.kat_term.specs.Values.{Valuation, is_literal, literal_value, value_layer, value_of}
use Rattle.kat_rules.specs.Widths.{told, joined, told_by_op, told_layer, told_type, width_of_type, width_of, is_bool_type, is_bool}
use Rattle.kat_rules.proofs.Meaning.{out-Truth, out-Bits, value_of-Apply, one_parts, two_parts, three_parts}

pub shown-Truth : (b : Bool) → type_of_value (Truth b) ≡ ty.Bool
shown-Truth b = ap type_of_layer (out-Truth b)

pub shown-Bits : (w n : ℕ) → type_of_value (Bits w n) ≡ ty.Bits w
shown-Bits w n = ap type_of_layer (out-Bits w n)

pub same_told : (t u : Ty) → same_type t u ≡ true → t ≡ u
same_told ty.Unit ty.Unit h = refl
same_told ty.Bool ty.Bool h = refl
same_told (ty.Bits v) (ty.Bits w) h = ap ty.Bits (eqb-true v w h)
same_told (ty.Enum i) (ty.Enum j) h = ap ty.Enum (eqb-true i j h)
same_told (ty.Union i) (ty.Union j) h = ap ty.Union (eqb-true i j h)
same_told (ty.Rec i) (ty.Rec j) h = ap ty.Rec (eqb-true i j h)
same_told _ _ h = cc

bits_of_is : (w : ℕ) (t : Ty) → bits_of w ≡ Some t → ty.Bits w ≡ t
bits_of_is w t e = by (is_width w) e where
  by : (b : Bool) → (if b then Some (ty.Bits w) else None) ≡ Some t → ty.Bits w ≡ t
  by true h = cc
  by false h = cc

some_type : (t u : Ty) → Some t ≡ Some u → t ≡ u
some_type t u e = cc

-- what an operation gives shows the type of its kind
of_truth_shows : (f : Bool → Bool) (y : Value-F Value) (x : Value) → of_truth f y ≡ Some x → type_of_value x ≡ ty.Bool
of_truth_shows f (TruthLayer p) x e = ap type_of_value (let s : x ≡ Truth (f p) = cc in s) ∙ shown-Truth (f p)
of_truth_shows f _ x e = cc

of_truths_shows : (f : Bool → Bool → Bool) (y z : Value-F Value) (x : Value) → of_truths f y z ≡ Some x → type_of_value x ≡ ty.Bool
of_truths_shows f (TruthLayer p) (TruthLayer q) x e = ap type_of_value (let s : x ≡ Truth (f p q) = cc in s) ∙ shown-Truth (f p q)
of_truths_shows f _ _ x e = cc

numbers_give : (f : ℕ → ℕ → ℕ → Value) (y z : Value-F Value) (x : Value) (C : Value → Type 0) → of_numbers f y z ≡ Some x →
    ((w m n : ℕ) → y ≡ BitsLayer w m → C (f w m n)) → C x
numbers_give f (BitsLayer w m) (BitsLayer u n) x C e c = by ((w == u) && (is_number w m && is_number w n)) e where
  by : (b : Bool) → (if b then Some (f w m n) else None) ≡ Some x → C x
  by true h = subst C (let s : f w m n ≡ x = cc in s) (c w m n refl)
  by false h = cc
numbers_give f _ _ x C e c = cc

number_gives : (takes : ℕ → Bool) (f : ℕ → ℕ → Value) (y : Value-F Value) (x : Value) (C : Value → Type 0) → of_number takes f y ≡ Some x →
    ((w n : ℕ) → y ≡ BitsLayer w n → C (f w n)) → C x
number_gives takes f (BitsLayer w n) x C e c = by (is_number w n && takes w) e where
  by : (b : Bool) → (if b then Some (f w n) else None) ≡ Some x → C x
  by true h = subst C (let s : f w n ≡ x = cc in s) (c w n refl)
  by false h = cc
number_gives takes f _ x C e c = cc

equals_show : (y z x : Value) → of_equals y z ≡ Some x → type_of_value x ≡ ty.Bool
equals_show y z x e = by (one_type y z) e where
  by : (b : Bool) → (if b then Some (Truth (value_eq y z)) else None) ≡ Some x → type_of_value x ≡ ty.Bool
  by true h = ap type_of_value (let s : x ≡ Truth (value_eq y z) = cc in s) ∙ shown-Truth (value_eq y z)
  by false h = cc

-- what is told of a value
abbrev IsTold : Option Ty → Value → Type 0
IsTold o y = (t : Ty) → o ≡ Some t → type_of_value y ≡ t

arithmetic_told : (f : ℕ → ℕ → ℕ → ℕ) (o : Option Ty) (y z x : Value) → IsTold o y → of_numbers (λ w m n. Bits w (f w m n)) (out-Value y) (out-Value z) ≡ Some x → IsTold o x
arithmetic_told f o y z x is e t told =
    numbers_give (λ w m n. Bits w (f w m n)) (out-Value y) (out-Value z) x (λ u. type_of_value u ≡ t) e
    (λ w m n layer. shown-Bits w (f w m n) ∙ sym (ap type_of_layer layer) ∙ is t told)

comparison_told : (f : ℕ → ℕ → ℕ → Bool) (y z x : Value) → of_numbers (λ w m n. Truth (f w m n)) (out-Value y) (out-Value z) ≡ Some x → type_of_value x ≡ ty.Bool
comparison_told f y z x e =
    numbers_give (λ w m n. Truth (f w m n)) (out-Value y) (out-Value z) x (λ u. type_of_value u ≡ ty.Bool) e (λ w m n layer. shown-Truth (f w m n))

one_told : (op : Op) (o : Option Ty) (y x : Value) → IsTold o y → value_of_one op (out-Value y) ≡ Some x → IsTold (told_by_op op (o ∷ [])) x
one_told Not o y x is e t told = of_truth_shows not (out-Value y) x e ∙ some_type ty.Bool t told
one_told Bnot o y x is e t told =
    number_gives (λ w. true) (λ w m. Bits w (number_of_op Bnot w m 0)) (out-Value y) x (λ u. type_of_value u ≡ t) e
    (λ w n layer. shown-Bits w (number_of_op Bnot w n 0) ∙ sym (ap type_of_layer layer) ∙ is t told)
one_told (Slice hi lo) o y x is e t told = by (nat_le lo hi) told where
  by : (b : Bool) → (if b then bits_of (hi - lo + 1) else None) ≡ Some t → type_of_value x ≡ t
  by true h =
      number_gives (λ w. nat_le lo hi && nat_lt hi w) (λ w m. Bits (hi - lo + 1) (number_of_op (Slice hi lo) w m 0)) (out-Value y) x (λ u. type_of_value u ≡ t) e
      (λ w n layer. shown-Bits (hi - lo + 1) (number_of_op (Slice hi lo) w n 0) ∙ bits_of_is (hi - lo + 1) t h)
  by false h = cc
one_told (Zext v) o y x is e t told =
    number_gives (λ w. nat_le w v && nat_le v widest) (λ w m. Bits v (number_of_op (Zext v) w m 0)) (out-Value y) x (λ u. type_of_value u ≡ t) e
    (λ w n layer. shown-Bits v (number_of_op (Zext v) w n 0) ∙ bits_of_is v t told)
one_told (Sext v) o y x is e t told =
    number_gives (λ w. nat_le w v && nat_le v widest) (λ w m. Bits v (number_of_op (Sext v) w m 0)) (out-Value y) x (λ u. type_of_value u ≡ t) e
    (λ w n layer. shown-Bits v (number_of_op (Sext v) w n 0) ∙ bits_of_is v t told)
one_told (Get of field) o y x is e t told = cc
one_told _ o y x is e t told = cc

-- the widths of two parts
joined_told : (o p : Option Ty) (y z : Value) (v a w b : ℕ) (t : Ty) → IsTold o y → IsTold p z → out-Value y ≡ BitsLayer v a → out-Value z ≡ BitsLayer w b → joined o p ≡ Some t → ty.Bits (v + w) ≡ t
joined_told (Some (ty.Bits i)) (Some (ty.Bits j)) y z v a w b t first second high low told =
    let left : ty.Bits v ≡ ty.Bits i = sym (ap type_of_layer high) ∙ first (ty.Bits i) refl in
    let right : ty.Bits w ≡ ty.Bits j = sym (ap type_of_layer low) ∙ second (ty.Bits j) refl in
    let p : v ≡ i = cc in
    let q : w ≡ j = cc in
    ap (λ k. ty.Bits (k + w)) p ∙ ap (λ k. ty.Bits (i + k)) q ∙ bits_of_is (i + j) t told
joined_told _ _ y z v a w b t first second high low told = cc

cat_told : (o p : Option Ty) (y z x : Value) → IsTold o y → IsTold p z → of_parts (out-Value y) (out-Value z) ≡ Some x → (t : Ty) → joined o p ≡ Some t → type_of_value x ≡ t
cat_told o p y z x first second e t told = by (out-Value y) (out-Value z) refl refl e where
  by : (k l : Value-F Value) → out-Value y ≡ k → out-Value z ≡ l → of_parts k l ≡ Some x → type_of_value x ≡ t
  by (BitsLayer v a) (BitsLayer w b) high low h = at ((is_number v a && is_number w b) && nat_le (v + w) widest) h where
    at : (c : Bool) → (if c then Some (Bits (v + w) (number_of_op Cat w a b)) else None) ≡ Some x → type_of_value x ≡ t
    at true g =
        ap type_of_value (let s : x ≡ Bits (v + w) (number_of_op Cat w a b) = cc in s) ∙ shown-Bits (v + w) (number_of_op Cat w a b)
        ∙ joined_told o p y z v a w b t first second high low told
    at false g = cc
  by _ _ high low h = cc

two_told : (op : Op) (o p : Option Ty) (y z x : Value) → IsTold o y → IsTold p z → value_of_two op y z ≡ Some x → IsTold (told_by_op op (o ∷ p ∷ [])) x
two_told And o p y z x first second e t told = of_truths_shows (λ p q. p && q) (out-Value y) (out-Value z) x e ∙ some_type ty.Bool t told
two_told Or o p y z x first second e t told = of_truths_shows (λ p q. p || q) (out-Value y) (out-Value z) x e ∙ some_type ty.Bool t told
two_told Eq o p y z x first second e t told = equals_show y z x e ∙ some_type ty.Bool t told
two_told Ult o p y z x first second e t told = comparison_told (truth_of_op Ult) y z x e ∙ some_type ty.Bool t told
two_told Ule o p y z x first second e t told = comparison_told (truth_of_op Ule) y z x e ∙ some_type ty.Bool t told
two_told Slt o p y z x first second e t told = comparison_told (truth_of_op Slt) y z x e ∙ some_type ty.Bool t told
two_told Sle o p y z x first second e t told = comparison_told (truth_of_op Sle) y z x e ∙ some_type ty.Bool t told
two_told Add o p y z x first second e t told = arithmetic_told (number_of_op Add) o y z x first e t told
two_told Sub o p y z x first second e t told = arithmetic_told (number_of_op Sub) o y z x first e t told
two_told Mul o p y z x first second e t told = arithmetic_told (number_of_op Mul) o y z x first e t told
two_told Band o p y z x first second e t told = arithmetic_told (number_of_op Band) o y z x first e t told
two_told Bor o p y z x first second e t told = arithmetic_told (number_of_op Bor) o y z x first e t told
two_told Bxor o p y z x first second e t told = arithmetic_told (number_of_op Bxor) o y z x first e t told
two_told Shl o p y z x first second e t told = arithmetic_told (number_of_op Shl) o y z x first e t told
two_told Shr o p y z x first second e t told = arithmetic_told (number_of_op Shr) o y z x first e t told
two_told Sar o p y z x first second e t told = arithmetic_told (number_of_op Sar) o y z x first e t told
two_told Cat o p y z x first second e t told = cat_told o p y z x first second e t told
two_told _ o p y z x first second e t told = cc

three_told : (op : Op) (o p q : Option Ty) (y z u x : Value) → IsTold p z → value_of_three op y z u ≡ Some x → IsTold (told_by_op op (o ∷ p ∷ q ∷ [])) x
three_told Ite o p q y z u x second e t told = by (out-Value y) e where
  pick : (c b : Bool) → (can_be_chosen (type_of_value z) && one_type z u) ≡ b → (if b then Some (if c then z else u) else None) ≡ Some x → type_of_value x ≡ t
  pick true true is h = ap type_of_value (let s : x ≡ z = cc in s) ∙ second t told
  pick false true is h =
      ap type_of_value (let s : x ≡ u = cc in s)
      ∙ sym (same_told (type_of_value z) (type_of_value u) (and_parts (can_be_chosen (type_of_value z)) (one_type z u) is).1) ∙ second t told
  pick c false is h = cc

  by : (l : Value-F Value) → of_choice l z u ≡ Some x → type_of_value x ≡ t
  by (TruthLayer c) h = pick c (can_be_chosen (type_of_value z) && one_type z u) refl h
  by _ h = cc
three_told _ o p q y z u x second e t told = cc

-- no operation is on four or more
many : (op : Op) (x : Value) (a b c d : Option Value) (more : List (Option Value)) → option_and_then (value_of_op op) (all_there (a ∷ b ∷ c ∷ d ∷ more)) ≡ Some x → ⊥
many op x None b c d more e = cc
many op x (Some y) None c d more e = cc
many op x (Some y) (Some z) None d more e = cc
many op x (Some y) (Some z) (Some u) None more e = cc
many op x (Some y) (Some z) (Some u) (Some s) more e = by (all_there more) e where
  by : (o : Option (List Value)) →
      option_and_then (value_of_op op) (option_and_then (λ x. option_map (λ xs. x ∷ xs) (option_and_then (λ x. option_map (λ xs. x ∷ xs) (option_and_then (λ x. option_map (λ xs. x ∷ xs) (option_and_then (λ x. option_map (λ xs. x ∷ xs) o) (Some s))) (Some u))) (Some z))) (Some y)) ≡ Some x → ⊥
  by None h = cc
  by (Some xs) h = cc

module _ (bools : BoolIsTruths) (numbers : BitsAreNumbers) (types : List TypeDecl) (vars : List Ty) (v : Valuation) (fits : IsValuation types vars v) where
  abbrev HasToldType : Term → Type 0
  HasToldType a = (x : Value) → value_of types v a ≡ Some x → IsTold (told_type vars a) x

  abbrev Told : Type 0
  Told = (a : Term) × HasToldType a

  abbrev terms : List Told → List Term
  terms ts = map (λ (e : Told). e.0) ts

  told_roll : (y : Term-F Term) → told_type vars (roll-Term y) ≡ told_layer vars (map-Term Term (Option Ty) (told_type vars) y)
  told_roll y = fold-roll-Term (Option Ty) (told_layer vars) y

  value_roll : (y : Term-F Term) → value_of types v (roll-Term y) ≡ value_layer types v (map-Term Term (Option Value) (value_of types v) y)
  value_roll y = fold-roll-Term (Option Value) (value_layer types v) y

  told_is : (t u : Ty) (x : Value) → HasType types t x → told t ≡ Some u → type_of_value x ≡ u
  told_is ty.Bool u x is e = let p = (bools types x).0 is in ap type_of_value p.1 ∙ shown-Truth p.0 ∙ some_type ty.Bool u e
  told_is (ty.Bits w) u x is e = let p = (numbers types w x).0 is in ap type_of_value p.1 ∙ shown-Bits w p.0 ∙ bits_of_is w u e
  told_is _ u x is e = cc

  var_told : (vars : List Ty) (v : Valuation) → IsValuation types vars v → (i : ℕ) (x : Value) → slice_get v i ≡ Some x → IsTold (option_and_then told (slice_get vars i)) x
  var_told [] [] fits i x has = λ t e. cc
  var_told [] (y ∷ v) fits i x has = absurd fits
  var_told (u ∷ vars) [] fits i x has = absurd fits
  var_told (u ∷ vars) (y ∷ v) fits zero x has = λ t e. told_is u t x (subst (HasType types u) (let s : y ≡ x = cc in s) fits.0) e
  var_told (u ∷ vars) (y ∷ v) fits (suc i) x has = var_told vars v fits.1 i x has

  told_shown : (s t : Ty) → told s ≡ Some t → s ≡ t
  told_shown ty.Bool t e = some_type ty.Bool t e
  told_shown (ty.Bits w) t e = bits_of_is w t e
  told_shown _ t e = cc

  literal_same : (l x : Value) → literal_value types l ≡ Some x → l ≡ x
  literal_same l x e = by (is_literal types (out-Value l)) e where
    by : (b : Bool) → (if b then Some l else None) ≡ Some x → l ≡ x
    by true h = cc
    by false h = cc

  apply_told : (op : Op) (ts : List Told) → HasToldType (ApplyTerm op (terms ts))
  apply_told op ts x has t e = by ts has (sym (ap (told_type vars) (sym (rolls-Apply op (terms ts))) ∙ told_roll (Apply op (terms ts))) ∙ e) where
    by : (ts : List Told) → value_of types v (ApplyTerm op (terms ts)) ≡ Some x → told_by_op op (map (told_type vars) (terms ts)) ≡ Some t → type_of_value x ≡ t
    by [] h k = let g : None ≡ Some x = sym (value_of-Apply types v op []) ∙ h in cc
    by (a ∷ []) h k = let p = one_parts types v op a.0 x h in one_told op (told_type vars a.0) p.y x (a.1 p.y p.at) p.is t k
    by (a ∷ b ∷ []) h k =
        let p = two_parts types v op a.0 b.0 x h in
        two_told op (told_type vars a.0) (told_type vars b.0) p.y p.z x (a.1 p.y p.first) (b.1 p.z p.second) p.is t k
    by (a ∷ b ∷ c ∷ []) h k =
        let p = three_parts types v op a.0 b.0 c.0 x h in
        three_told op (told_type vars a.0) (told_type vars b.0) (told_type vars c.0) p.y p.z p.u x (b.1 p.z p.second) p.is t k
    by (a ∷ b ∷ c ∷ d ∷ more) h k =
        absurd (many op x (value_of types v a.0) (value_of types v b.0) (value_of types v c.0) (value_of types v d.0) (map (value_of types v) (terms more)) (sym (value_of-Apply types v op (terms (a ∷ b ∷ c ∷ d ∷ more))) ∙ h))

  layer_told : (y : Term-F Told) → HasToldType (roll-Term (map-Term Told Term (λ e. e.0) y))
  layer_told (Var i) = λ x has t e. var_told vars v fits i x (sym (value_roll (Var i)) ∙ has) t (sym (told_roll (Var i)) ∙ e)
  layer_told (Lit l) = λ x has t e.
      sym (ap type_of_value (literal_same l x (sym (value_roll (Lit l)) ∙ has))) ∙ told_shown (type_of_value l) t (sym (told_roll (Lit l)) ∙ e)
  layer_told (Apply op ts) = subst HasToldType (sym (rolls-Apply op (terms ts))) (apply_told op ts)
  layer_told (Make of ctor a) = λ x has t e. let g : None ≡ Some t = sym (told_roll (Make of ctor a.0)) ∙ e in cc
  layer_told (Rec of ts) = λ x has t e. let g : None ≡ Some t = sym (told_roll (Rec of (terms ts))) ∙ e in cc

  pub type_is : (a : Term) (x : Value) → value_of types v a ≡ Some x → (t : Ty) → told_type vars a ≡ Some t → type_of_value x ≡ t
  type_is = ind-Term HasToldType (λ x y is. subst (λ z. HasToldType (roll-Term z)) is (layer_told y))

  -- a number is of the width that its term tells
  pub width_is : (a : Term) (u n w : ℕ) → value_of types v a ≡ Some (Bits u n) → width_of vars a ≡ Some w → u ≡ w
  width_is a u n w has e = by (told_type vars a) refl e where
    by : (o : Option Ty) → told_type vars a ≡ o → option_and_then width_of_type o ≡ Some w → u ≡ w
    by (Some (ty.Bits i)) is h =
        let same : ty.Bits u ≡ ty.Bits i = sym (shown-Bits u n) ∙ type_is a (Bits u n) has (ty.Bits i) is in
        let width : i ≡ w = cc in
        cc
    by None is h = cc
    by (Some _) is h = cc

  -- a term that tells that it is of type bool has a truth
  pub bool_is : (a : Term) (x : Value) → value_of types v a ≡ Some x → is_bool vars a ≡ true → type_of_value x ≡ ty.Bool
  bool_is a x has e = by (told_type vars a) refl e where
    by : (o : Option Ty) → told_type vars a ≡ o → is_bool_type o ≡ true → type_of_value x ≡ ty.Bool
    by (Some ty.Bool) is h = type_is a x has ty.Bool is
    by None is h = cc
    by (Some _) is h = cc
