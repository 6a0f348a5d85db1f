-- The truths of terms under a valuation.
use Rattle.std.proofs.Common.{◌≡◌, ◌∙◌, ℕ, Bool, true, false, List, [], ◌∷◌, Option, Some, None, refl, ap, sym}
use Rattle.std.specs.Prelude.{not, ◌&&◌, ◌||◌, option_and_then, slice_get}
use Rattle.std.proofs.lemmas.Bool.{and_parts}
use Rattle.kat_value.specs.declared.op.Op.{Op}
use Rattle.kat_value.specs.declared.op.Op.TheVariants.{Not, And, Or, Eq}
use Rattle.kat_value.specs.declared.types.TypeDecl.{TypeDecl}
use Rattle.kat_value.specs.declared.value.Value.{Value}
use Rattle.kat_value.specs.declared.value.Value.TheVariants.{Bool as Truth}
use Rattle.kat_value.specs.Equality.{value_eq, TestsEquality}
use Rattle.kat_term.specs.declared.term.Term.{Term}
use Rattle.kat_value.specs.Operations.{value_of_op}
use Rattle.kat_term.specs.Parts.{ValuesByParts}
use Rattle.kat_value.specs.Making.{all_there}
use Rattle.kat_term.specs.Values.{Valuation, value_of}
use Rattle.kat_term.specs.Views.{one, two, three, var_of, truth_of}
use Rattle.kat_term.specs.Worlds.{IsTrueUnder}
use Rattle.kat_rules.specs.Values.{OperationValues}
use Rattle.kat_known.specs.Kept.{IsAtMost}
use Rattle.kat_solver.proofs.ViewLaws.{var_there, truth_there}

pub truth_told : (p q : Bool) → Truth p ≡ Truth q → p ≡ q
truth_told p q e = cc

pub some_truth_told : (p q : Bool) → Some (Truth p) ≡ Some (Truth q) → p ≡ q
some_truth_told p q e = cc

module _ (types : List TypeDecl) (v : Valuation) (parts : ValuesByParts types v)
    (values : OperationValues types v) where
  abbrev value : Term → Option Value
  value = value_of types v

  pub var_value : (t : Term) (i : ℕ) → var_of t ≡ Some i → slice_get v i ≡ value t
  var_value t i e = sym (parts.variable i) ∙ ap value (sym (var_there t i e))

  -- the first of three terms has a value where an operation on them has one
  pub first_of_three : (op : Op) (a b c : Term) (z : Value) → value (three op a b c) ≡ Some z →
      (x : Value) × (value a ≡ Some x)
  first_of_three op a b c z has =
      by (value a) refl (sym (parts.application op (a ∷ b ∷ c ∷ [])) ∙ has) where
        by : (o : Option Value) → value a ≡ o →
            option_and_then (value_of_op op) (all_there (o ∷ value b ∷ value c ∷ [])) ≡ Some z →
            (x : Value) × (value a ≡ Some x)
        by None at h = cc
        by (Some x) at h = (x, at)

  twice : (p : Bool) → not (not p) ≡ p
  twice true = refl
  twice false = refl

  pub negated_value : (a : Term) (q : Bool) → value (one Not a) ≡ Some (Truth q) →
      value a ≡ Some (Truth (not q))
  negated_value a q has =
      let o = values.negation a (Truth q) has in
      let is : not o.p ≡ q = truth_told (not o.p) q (sym o.is) in
      o.has ∙ ap (λ p. Some (Truth p)) (sym (twice o.p) ∙ ap not is)

  pub and_true : (a b : Term) → IsTrueUnder types v (two And a b) →
      IsTrueUnder types v a × IsTrueUnder types v b
  and_true a b has =
      let o = values.conjunction a b (Truth true) has in
      let both = and_parts o.p o.q (truth_told (o.p && o.q) true (sym o.is)) in
      (o.first ∙ ap (λ p. Some (Truth p)) both.0, o.second ∙ ap (λ p. Some (Truth p)) both.1)

  -- a truth that is at most this one
  at_most : (t : Term) (p q : Bool) → value t ≡ Some (Truth p) → IsAtMost types v t q → p ≡ q
  at_most t p q at most = some_truth_told p q (sym (most (Truth p) at))

  both_hold : (p q : Bool) → p ≡ true → q ≡ true → (p && q) ≡ true
  both_hold true q first second = second
  both_hold false q first second = first

  -- an `and` holds where both sides do
  pub and_holds : (a b : Term) → IsAtMost types v a true → IsAtMost types v b true →
      IsAtMost types v (two And a b) true
  and_holds a b first second x has =
      let o = values.conjunction a b x has in
      ap (λ p. Some (Truth p)) (sym (both_hold o.p o.q (at_most a o.p true o.first first)
      (at_most b o.q true o.second second))) ∙ ap Some (sym o.is)

  -- an `or` holds where the second side does if the first is false
  pub or_holds : (a b : Term) → (IsTrueUnder types v (one Not a) → IsAtMost types v b true) →
      IsAtMost types v (two Or a b) true
  or_holds a b other x has =
      let o = values.disjunction a b x has in
      ap (λ p. Some (Truth p)) (sym (by o.p o.q o.first o.second)) ∙ ap Some (sym o.is) where
        by : (p q : Bool) → value a ≡ Some (Truth p) → value b ≡ Some (Truth q) → (p || q) ≡ true
        by true q first second = refl
        by false q first second = at_most b q true second (other (values.negated a false first))

  pub truth_holds : (g : Term) → truth_of g ≡ Some true → IsAtMost types v g true
  truth_holds g e x has = sym (values.truth true) ∙ sym (ap value (truth_there g true e)) ∙ has

  -- the sides of a true equation have one value
  pub equation_sides : TestsEquality → (a b : Term) → IsTrueUnder types v (two Eq a b) →
      value a ≡ value b
  equation_sides tests a b has =
      let o = values.equation a b (Truth true) has in
      o.first ∙ ap Some ((tests o.y o.z).0 (truth_told (value_eq o.y o.z) true (sym o.is)))
      ∙ sym o.second
