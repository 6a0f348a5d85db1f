-- The rules on choices keep values.
use Rattle.std.proofs.Common.{◌≡◌, ◌∙◌, Bool, true, false, List, Some, refl, ap, sym, if◌then◌else◌}
use Rattle.std.specs.Prelude.{not, ◌&&◌, ◌||◌}
use Rattle.std.proofs.lemmas.Bool.{and_parts, and_from}
use Rattle.kat_value.specs.declared.op.Op.TheVariants.{Not, And, Or, Ite}
use Rattle.kat_value.specs.declared.types.Ty.{Ty}
use Rattle.kat_value.specs.declared.types.TypeDecl.{TypeDecl}
use Rattle.kat_value.specs.declared.value.Value.{Value}
use Rattle.kat_value.specs.declared.value.Value.TheVariants.{Bool as Truth}
use Rattle.kat_term.specs.declared.term.Term.{Term}
use Rattle.kat_value.specs.Operations.{can_be_chosen}
use Rattle.kat_value.specs.Shown.{type_of_value, one_type}
use Rattle.kat_term.specs.Types.{IsValuation}
use Rattle.kat_term.specs.Values.{Valuation, IsKept, value_of}
use Rattle.kat_term.specs.Views.{one, two, three}
use Rattle.kat_rules.specs.Keeps.{Keeps}
use Rattle.kat_rules.specs.Truths.{ite_of_not, ite_of_truths}
use Rattle.kat_rules.specs.Widths.{is_bool}
use Rattle.kat_rules.proofs.Equals.{truth_shown, one_type_is, one_type_turned}
use Rattle.kat_rules.proofs.Meaning.{not_in, not_from, and_from_truths, or_from_truths, choice_in, choice_from}
use Rattle.kat_rules.proofs.Patterns.{some_is, only_is, in_one, in_three}
use Rattle.kat_rules.proofs.TermLaws.{TermLaws}
use Rattle.kat_rules.proofs.ToldTypes.{bool_is}

or_false : (p : Bool) → (p || false) ≡ p
or_false true = refl
or_false false = refl

module _ (laws : TermLaws) (types : List TypeDecl) (vars : List Ty) (v : Valuation) (given : IsValuation types vars v) where
  abbrev Kept : Term → Term → Type 0
  Kept l r = IsKept (value_of types v l) (value_of types v r)

  -- ite(not c,a,b) is ite(c,b,a)
  not-law : (c a b : Term) → Kept (three Ite (one Not c) a b) (three Ite c b a)
  not-law c a b x has =
      let i = choice_in types v (one Not c) a b x has in
      let n = not_in types v c (Truth i.p) i.is in
      let parts = and_parts (can_be_chosen (type_of_value i.y)) (one_type i.y i.z) i.one in
      let same = one_type_is i.y i.z parts.1 in
      choice_from types v c b a n.p i.z i.y n.is i.second i.first
      (and_from (can_be_chosen (type_of_value i.z)) (one_type i.z i.y) (ap can_be_chosen (sym same) ∙ parts.0) (one_type_turned i.y i.z parts.1))
      ∙ by n.p i.y i.z i.first i.second (i.chosen_by (not n.p) (not_from types v c n.p n.is)) where
        by : (p : Bool) (y z : Value) → value_of types v a ≡ Some y → value_of types v b ≡ Some z → value_of types v (if not p then a else b) ≡ Some x → Some (if p then z else y) ≡ Some x
        by true y z first second h = sym second ∙ h
        by false y z first second h = sym first ∙ h

  -- a choice of truths
  truths-law : (c a b : Term) → is_bool vars a ≡ true → Kept (three Ite c a b) (two Or (two And c a) (two And (one Not c) b))
  truths-law c a b test x has =
      let i = choice_in types v c a b x has in
      let parts = and_parts (can_be_chosen (type_of_value i.y)) (one_type i.y i.z) i.one in
      let bool = bool_is laws.truths laws.numbers types vars v given a i.y i.first test in
      let s = truth_shown i.y bool in
      let t = truth_shown i.z (sym (one_type_is i.y i.z parts.1) ∙ bool) in
      let first = i.first ∙ ap Some s.is in
      let second = i.second ∙ ap Some t.is in
      or_from_truths types v (two And c a) (two And (one Not c) b) (i.p && s.p) (not i.p && t.p)
      (and_from_truths types v c a i.p s.p i.is first)
      (and_from_truths types v (one Not c) b (not i.p) t.p (not_from types v c i.p i.is) second)
      ∙ by i.p s.p t.p first second (i.chosen_by i.p i.is) where
        by : (p q r : Bool) → value_of types v a ≡ Some (Truth q) → value_of types v b ≡ Some (Truth r) → value_of types v (if p then a else b) ≡ Some x → Some (Truth ((p && q) || (not p && r))) ≡ Some x
        by true q r first second h = ap (λ k. Some (Truth k)) (or_false q) ∙ sym first ∙ h
        by false q r first second h = sym second ∙ h

pub ite_of_not_keeps : TermLaws → Keeps ite_of_not
ite_of_not_keeps laws types vars v given t r e =
    in_three laws.operations Ite t _ r (λ u. IsKept (value_of types v u) (value_of types v r)) e
    (λ n a b g. in_one laws.operations Not n _ r (λ u. IsKept (value_of types v (three Ite u a b)) (value_of types v r)) g
    (λ c h. some_is (λ u. IsKept (value_of types v (three Ite (one Not c) a b)) (value_of types v u)) _ r h (not-law laws types vars v given c a b)))

pub ite_of_truths_keeps : TermLaws → Keeps ite_of_truths
ite_of_truths_keeps laws types vars v given t r e =
    in_three laws.operations Ite t _ r (λ u. IsKept (value_of types v u) (value_of types v r)) e
    (λ c a b g. only_is (λ u. IsKept (value_of types v (three Ite c a b)) (value_of types v u)) (is_bool vars a) _ r g
    (λ test. truths-law laws types vars v given c a b test))
