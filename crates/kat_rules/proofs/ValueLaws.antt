-- What the values of operations and the types that terms tell say.
use Rattle.std.proofs.Common.{◌≡◌, ◌∙◌, ℕ, Bool, true, false, List, Option, Some, None, refl, ap, sym, if◌then◌else◌, nat_lt, nat_le}
use Rattle.std.specs.Prelude.{not, ◌&&◌, ◌||◌, option_and_then}
use Rattle.kat_value.specs.declared.op.Op.{Op}
use Rattle.kat_value.specs.declared.op.Op.TheVariants.{And, Or, Eq, Ult, Ule}
use Rattle.kat_value.specs.declared.types.Ty.{Ty}
use Rattle.kat_value.specs.declared.types.Ty.TheVariants as ty
use Rattle.kat_value.specs.declared.types.TypeDecl.{TypeDecl}
use Rattle.kat_value.specs.declared.value.Value.{Value, out-Value}
use Rattle.kat_value.specs.declared.value.Value.TheVariants.{Bool as Truth, Bits}
use Rattle.kat_value.specs.Equality.{value_eq}
use Rattle.kat_value.specs.TypeLaws.{BoolIsTruths, BitsAreNumbers}
use Rattle.kat_term.specs.declared.term.Term.{Term}
use Rattle.kat_value.specs.Operations.{value_of_two}
use Rattle.kat_value.specs.Shown.{one_type}
use Rattle.kat_term.specs.Types.{IsValuation}
use Rattle.kat_term.specs.Values.{Valuation, is_literal, value_of}
use Rattle.kat_term.specs.Views.{one, two, bits}
use Rattle.kat_rules.specs.Values.{IsTruth, AreTruths, AreCompared, AreEquated, IsExtended, ValuesOfOperations, ToldTruths, ToldNumbers}
use Rattle.kat_rules.specs.Widths.{told_type, width_of_type, width_of, is_bool_type, is_bool}
use Rattle.kat_rules.proofs.Equals.{truth_shown, number_shown, some_told, equals_from}
use Rattle.kat_rules.proofs.Meaning.{value_of-Lit, truth_value, two_parts, IsOnNumbers, numbers_of_two, numbers_from, TruthsOf, and_in, or_in, and_from_truths, or_from_truths, not_in, not_from, zext_of}
use Rattle.kat_rules.proofs.ToldTypes.{type_is}

module _ (types : List TypeDecl) (v : Valuation) where
  literal_told : (w n : ℕ) (x : Value) → value_of types v (bits w n) ≡ Some x → x ≡ Bits w n
  literal_told w n x has = by (is_literal types (out-Value (Bits w n))) (sym (value_of-Lit types v (Bits w n)) ∙ has) where
    by : (b : Bool) → (if b then Some (Bits w n) else None) ≡ Some x → x ≡ Bits w n
    by true h = some_told x (Bits w n) (sym h)
    by false h = cc

  truths_told : (gives : Bool → Bool → Bool) (op : Op) (a b : Term) (x : Value) (o : TruthsOf types v a b) →
      value_of types v (two op a b) ≡ Some (Truth (gives o.p o.q)) → value_of types v (two op a b) ≡ Some x → AreTruths types v gives a b x
  truths_told gives op a b x o forward has =
      record { p = o.p; q = o.q; first = o.first; second = o.second; is = some_told x (Truth (gives o.p o.q)) (sym has ∙ forward) }

  compared_told : (op : Op) (gives : ℕ → ℕ → Bool) → IsOnNumbers types v op (λ w m n. Truth (gives m n)) → (a b : Term) (x : Value) →
      value_of types v (two op a b) ≡ Some x → AreCompared types v gives a b x
  compared_told op gives is a b x has =
      let o = numbers_of_two types v op (λ w m n. Truth (gives m n)) is a b x has in
      record {
        w = o.w;
        m = o.m;
        n = o.n;
        first = o.first;
        second = o.second;
        is = some_told x (Truth (gives o.m o.n))
            (sym has ∙ numbers_from types v op (λ w m n. Truth (gives m n)) is a b o.w o.m o.n o.first o.second o.first_fits o.second_fits);
      }

  equated_told : (a b : Term) (x : Value) → value_of types v (two Eq a b) ≡ Some x → AreEquated types v a b x
  equated_told a b x has = let o = two_parts types v Eq a b x has in by o.y o.z o.first o.second (one_type o.y o.z) refl o.is where
    by : (y z : Value) → value_of types v a ≡ Some y → value_of types v b ≡ Some z → (t : Bool) → one_type y z ≡ t →
        (if t then Some (Truth (value_eq y z)) else None) ≡ Some x → AreEquated types v a b x
    by y z first second true alike h =
        record { y = y; z = z; first = first; second = second; alike = alike; is = some_told x (Truth (value_eq y z)) (sym h) }
    by y z first second false alike h = cc

pub values_of_operations : ValuesOfOperations
values_of_operations types v = record {
  truth = truth_value types v;
  literal = literal_told types v;
  negation = λ a x has. let o = not_in types v a x has in
      record { p = o.p; has = o.is; is = some_told x (Truth (not o.p)) (sym has ∙ not_from types v a o.p o.is) };
  negated = not_from types v;
  conjunction = λ a b x has. let o = and_in types v a b x has in
      truths_told types v (λ p q. p && q) And a b x o (and_from_truths types v a b o.p o.q o.first o.second) has;
  disjunction = λ a b x has. let o = or_in types v a b x has in
      truths_told types v (λ p q. p || q) Or a b x o (or_from_truths types v a b o.p o.q o.first o.second) has;
  less = compared_told types v Ult nat_lt (λ y z. refl);
  at_most = compared_told types v Ule nat_le (λ y z. refl);
  equation = equated_told types v;
  equated = equals_from types v;
  extension = λ width a x has. let o = zext_of types v width a x has in record { w = o.u; n = o.n; has = o.is; is = sym o.gives };
}

pub told_truths : BoolIsTruths → BitsAreNumbers → ToldTruths
told_truths bools numbers types vars v fits t x has is = by (told_type vars t) refl is where
  by : (o : Option Ty) → told_type vars t ≡ o → is_bool_type o ≡ true → (p : Bool) × (x ≡ Truth p)
  by (Some ty.Bool) told h = let s = truth_shown x (type_is bools numbers types vars v fits t x has ty.Bool told) in (s.p, s.is)
  by None told h = cc
  by (Some _) told h = cc

pub told_numbers : BoolIsTruths → BitsAreNumbers → ToldNumbers
told_numbers bools numbers types vars v fits t x has w is = by (told_type vars t) refl is where
  by : (o : Option Ty) → told_type vars t ≡ o → option_and_then width_of_type o ≡ Some w → (n : ℕ) × (x ≡ Bits w n)
  by (Some (ty.Bits u)) told h =
      let same : u ≡ w = cc in
      let s = number_shown w x (type_is bools numbers types vars v fits t x has (ty.Bits u) told ∙ ap ty.Bits same) in (s.n, s.is)
  by None told h = cc
  by (Some _) told h = cc
