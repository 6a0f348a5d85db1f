-- What the tests of equality say.
use Rattle.std.proofs.Common.{◌≡◌, ◌≢◌, ◌∙◌, false, true, Bool, ℕ, zero, List, [], ◌∷◌, length, map, refl, suc, ap, sym, subst}
use Rattle.std.proofs.lemmas.Bool.{and_parts, and_from, and_right, eqb-true, eq-eqb}
use Rattle.kat_value.specs.declared.op.Op.{Op}
use Rattle.kat_value.specs.declared.op.Op.TheVariants.{Not, And, Or, Eq, Ult, Ule, Slt, Sle, Add, Sub, Mul, Band, Bor, Bxor, Bnot, Shl, Shr, Sar, Slice, Cat, Zext, Sext, Ite, Get}
use Rattle.kat_value.specs.Equality.{TestsEquality}
use Rattle.kat_term.specs.declared.term.Term.{Term}
use Rattle.kat_term.specs.declared.term.Term.TheOpen.{Term-F, Var, Lit, Apply, Make, Rec}
use Rattle.kat_term.specs.declared.term.Term.TheViews.{out-Term, roll-Term, out-roll-Term, roll-out-Term}
use Rattle.kat_term.specs.declared.term.Term.TheFolds.{map-Term, fold-roll-Term, ind-Term}
use Rattle.kat_term.specs.Equality.{Key, key_of_op, op_eq, same_layer, term_eq, terms_eq, TestsOperations, TestsTerms}

-- lists of two lengths are not equal
pub terms_eq-lengths : (ts us : List Term) → length ts ≢ length us → terms_eq ts us ≡ false
terms_eq-lengths [] [] ne = absurd (ne refl)
terms_eq-lengths [] (u ∷ us) ne = refl
terms_eq-lengths (t ∷ ts) [] ne = refl
terms_eq-lengths (t ∷ ts) (u ∷ us) ne =
    and_right (term_eq t u) (terms_eq ts us) (terms_eq-lengths ts us (λ e. ne (ap suc e)))

-- the operation at a place of a list
op_at : List Op → ℕ → Op
op_at [] n = Not
op_at (op ∷ ops) zero = op
op_at (op ∷ ops) (suc n) = op_at ops n

-- the operation of a key
op_of_key : Key → Op
op_of_key k =
    op_at (Not ∷ Not ∷ And ∷ Or ∷ Eq ∷ Ult ∷ Ule ∷ Slt ∷ Sle ∷ Add ∷ Sub ∷ Mul ∷ Band ∷ Bor ∷ Bxor ∷ Bnot ∷ Shl ∷ Shr ∷ Sar
    ∷ Slice k.high k.low ∷ Cat ∷ Zext k.high ∷ Sext k.high ∷ Ite ∷ Get k.high k.low ∷ []) k.place

key_tells : (op : Op) → op_of_key (key_of_op op) ≡ op
unfolding op_of_key op_at
key_tells Not = refl
key_tells And = refl
key_tells Or = refl
key_tells Eq = refl
key_tells Ult = refl
key_tells Ule = refl
key_tells Slt = refl
key_tells Sle = refl
key_tells Add = refl
key_tells Sub = refl
key_tells Mul = refl
key_tells Band = refl
key_tells Bor = refl
key_tells Bxor = refl
key_tells Bnot = refl
key_tells Shl = refl
key_tells Shr = refl
key_tells Sar = refl
key_tells (Slice a b) = refl
key_tells Cat = refl
key_tells (Zext a) = refl
key_tells (Sext a) = refl
key_tells Ite = refl
key_tells (Get a b) = refl

same_op : (a b : Key) → a.place ≡ b.place → a.high ≡ b.high → a.low ≡ b.low → op_of_key a ≡ op_of_key b
unfolding op_of_key
same_op a b place high low = cc

-- operations that the test finds equal are equal
op_eq-told : (o p : Op) → op_eq o p ≡ true → o ≡ p
op_eq-told o p h =
    let parts = and_parts _ _ h in
    let rest = and_parts _ _ parts.1 in
    let place : (key_of_op o).place ≡ (key_of_op p).place = eqb-true (key_of_op o).place (key_of_op p).place parts.0 in
    let high : (key_of_op o).high ≡ (key_of_op p).high = eqb-true (key_of_op o).high (key_of_op p).high rest.0 in
    let low : (key_of_op o).low ≡ (key_of_op p).low = eqb-true (key_of_op o).low (key_of_op p).low rest.1 in
    sym (key_tells o) ∙ same_op (key_of_op o) (key_of_op p) place high low ∙ key_tells p

op_eq-self : (o : Op) → op_eq o o ≡ true
op_eq-self o =
    let k = key_of_op o in
    and_from _ _ (eq-eqb k.place k.place refl) (and_from _ _ (eq-eqb k.high k.high refl) (eq-eqb k.low k.low refl))

pub op_eq-is : TestsOperations
op_eq-is o p = (op_eq-told o p, λ e. subst (λ q. op_eq o q ≡ true) e (op_eq-self o))

-- equality at one layer, and below
term_eq-roll : (x y : Term-F Term) → term_eq (roll-Term x) (roll-Term y) ≡ same_layer (map-Term Term (Term → Bool) term_eq x) y
term_eq-roll x y =
    ap (λ (test : Term → Bool). test (roll-Term y)) (fold-roll-Term (Term → Bool) (λ layer t. same_layer layer (out-Term t)) x)
    ∙ ap (same_layer (map-Term Term (Term → Bool) term_eq x)) (out-roll-Term y)

-- a term that equals whatever the test finds equal to it
abbrev IsTold : Term → Type 0
IsTold t = (u : Term) → term_eq t u ≡ true → t ≡ u

abbrev told : Term-F ((t : Term) × IsTold t) → Term-F Term
told = map-Term ((t : Term) × IsTold t) Term (λ e. e.0)

told_all : (ts : List ((t : Term) × IsTold t)) (us : List Term) → terms_eq (map (λ e. e.0) ts) us ≡ true → map (λ e. e.0) ts ≡ us
told_all [] [] h = refl
told_all [] (u ∷ us) h = cc
told_all (e ∷ ts) [] h = cc
told_all (e ∷ ts) (u ∷ us) h =
    let parts = and_parts _ _ h in
    let head : e.0 ≡ u = e.1 u parts.0 in
    let tail : map (λ e. e.0) ts ≡ us = told_all ts us parts.1 in
    cc

-- a term that the test finds equal to itself
abbrev IsSelfEqual : Term → Type 0
IsSelfEqual t = term_eq t t ≡ true

self_equal_all : (ts : List ((t : Term) × IsSelfEqual t)) → terms_eq (map (λ e. e.0) ts) (map (λ e. e.0) ts) ≡ true
self_equal_all [] = refl
self_equal_all (e ∷ ts) = and_from _ _ e.1 (self_equal_all ts)

abbrev first : Term-F ((t : Term) × IsSelfEqual t) → Term-F Term
first = map-Term ((t : Term) × IsSelfEqual t) Term (λ e. e.0)

module _ (values : TestsEquality) where
  told_layer : (y : Term-F ((t : Term) × IsTold t)) (z : Term-F Term) → same_layer (map-Term Term (Term → Bool) term_eq (told y)) z ≡ true → told y ≡ z
  told_layer (Var i) (Var j) h = let e : i ≡ j = eqb-true i j h in cc
  told_layer (Lit x) (Lit y) h = let e : x ≡ y = (values x y).0 h in cc
  told_layer (Apply o ts) (Apply p us) h =
      let parts = and_parts _ _ h in
      let op : o ≡ p = op_eq-told o p parts.0 in
      let all : map (λ e. e.0) ts ≡ us = told_all ts us parts.1 in
      cc
  told_layer (Make t k e) (Make u l w) h =
      let parts = and_parts _ _ h in
      let rest = and_parts _ _ parts.1 in
      let of : t ≡ u = eqb-true t u parts.0 in
      let ctor : k ≡ l = eqb-true k l rest.0 in
      let inner : e.0 ≡ w = e.1 w rest.1 in
      cc
  told_layer (Rec t fields) (Rec u ws) h =
      let parts = and_parts _ _ h in
      let of : t ≡ u = eqb-true t u parts.0 in
      let all : map (λ e. e.0) fields ≡ ws = told_all fields ws parts.1 in
      cc
  told_layer _ _ h = cc

  term_eq-told : (t u : Term) → term_eq t u ≡ true → t ≡ u
  term_eq-told = ind-Term IsTold (λ x y is u h.
      let of_layer : (z : Term-F Term) → same_layer (map-Term Term (Term → Bool) term_eq x) z ≡ true → x ≡ z =
      subst (λ w. (z : Term-F Term) → same_layer (map-Term Term (Term → Bool) term_eq w) z ≡ true → w ≡ z) is (told_layer y) in
      let at_layer : term_eq (roll-Term x) (roll-Term (out-Term u)) ≡ true = ap (term_eq (roll-Term x)) (roll-out-Term u) ∙ h in
      ap roll-Term (of_layer (out-Term u) (sym (term_eq-roll x (out-Term u)) ∙ at_layer)) ∙ roll-out-Term u)

  self_equal_layer : (y : Term-F ((t : Term) × IsSelfEqual t)) → same_layer (map-Term Term (Term → Bool) term_eq (first y)) (first y) ≡ true
  self_equal_layer (Var i) = eq-eqb i i refl
  self_equal_layer (Lit x) = (values x x).1 refl
  self_equal_layer (Apply o ts) = and_from _ _ (op_eq-self o) (self_equal_all ts)
  self_equal_layer (Make t k inner) = and_from _ _ (eq-eqb t t refl) (and_from _ _ (eq-eqb k k refl) inner.1)
  self_equal_layer (Rec t fields) = and_from _ _ (eq-eqb t t refl) (self_equal_all fields)

  term_eq-self : (t : Term) → term_eq t t ≡ true
  term_eq-self = ind-Term IsSelfEqual (λ x y is.
      term_eq-roll x x ∙ subst (λ z. same_layer (map-Term Term (Term → Bool) term_eq z) z ≡ true) is (self_equal_layer y))

  -- the test holds exactly of equal terms
  pub term_eq-is : TestsTerms
  term_eq-is t u = (term_eq-told t u, λ e. subst (λ w. term_eq t w ≡ true) e (term_eq-self t))
