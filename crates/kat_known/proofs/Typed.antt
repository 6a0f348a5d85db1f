-- A term that has a value is of a type, and the number that it has fits its width.
use Rattle.std.proofs.Common.{◌≡◌, ◌∙◌, ℕ, Bool, true, List, [], ◌∷◌, Option, Some, None, refl, ap, sym}
use Rattle.std.specs.Prelude.{◌==◌, option_and_then}
use Rattle.std.proofs.lemmas.Bool.{and_parts, eq-eqb}
use Rattle.kat_value.specs.declared.op.Op.TheVariants.{Eq}
use Rattle.kat_value.specs.declared.types.Ty.{Ty}
use Rattle.kat_value.specs.declared.types.Ty.TheVariants as ty
use Rattle.kat_value.specs.declared.types.TypeDecl.{TypeDecl}
use Rattle.kat_value.specs.declared.value.Value.{out-Value, out-roll-Value, fold-roll-Value}
use Rattle.kat_value.specs.declared.value.Value.TheOpen.{Bool as TruthLayer, Bits as BitsLayer}
use Rattle.kat_value.specs.declared.value.Value.TheVariants.{Bool as Truth, Bits, rolls-Bool, rolls-Bits}
use Rattle.kat_value.specs.Equality.{value_eq}
use Rattle.kat_value.specs.Widths.{is_number}
use Rattle.kat_value.specs.Signatures.{same_type}
use Rattle.kat_value.specs.Typing.{has_type, layer_has_type}
use Rattle.kat_term.specs.declared.term.Term.{Term}
use Rattle.kat_value.specs.Shown.{type_of_layer, type_of_value, one_type}
use Rattle.kat_value.specs.OperationTypes.{type_of_application}
use Rattle.kat_term.specs.Types.{IsTermOf, IsValuation, type_of}
use Rattle.kat_value.specs.Making.{all_there}
use Rattle.kat_term.specs.Values.{Valuation, value_of}
use Rattle.kat_term.specs.Views.{two}
use Rattle.kat_known.proofs.LawsBelow.{LawsBelow}

out-Bits : (w n : ℕ) → out-Value (Bits w n) ≡ BitsLayer w n
out-Bits w n = ap out-Value (sym (rolls-Bits w n)) ∙ out-roll-Value (BitsLayer w n)

one_width : (w n : ℕ) → one_type (Bits w n) (Bits w n) ≡ true
one_width w n =
    ap (λ y. same_type (type_of_layer y) (type_of_value (Bits w n))) (out-Bits w n)
    ∙ ap (λ y. same_type (ty.Bits w) (type_of_layer y)) (out-Bits w n)
    ∙ eq-eqb w w refl

-- which types a number and a truth are of
pub number_types : (types : List TypeDecl) (w n : ℕ) (t : Ty) →
    has_type types (Bits w n) t ≡ layer_has_type types (BitsLayer w n) t
number_types types w n t =
    ap (λ v. has_type types v t) (sym (rolls-Bits w n))
    ∙ ap (λ (test : Ty → Bool). test t)
    (fold-roll-Value (Ty → Bool) (layer_has_type types) (BitsLayer w n))

pub truth_types : (types : List TypeDecl) (p : Bool) (t : Ty) →
    has_type types (Truth p) t ≡ layer_has_type types (TruthLayer p) t
truth_types types p t =
    ap (λ v. has_type types v t) (sym (rolls-Bool p))
    ∙ ap (λ (test : Ty → Bool). test t)
    (fold-roll-Value (Ty → Bool) (layer_has_type types) (TruthLayer p))

fits_by_type : (types : List TypeDecl) (w n : ℕ) (t : Ty) →
    layer_has_type types (BitsLayer w n) t ≡ true → is_number w n ≡ true
fits_by_type types w n (ty.Bits u) h = (and_parts (w == u) (is_number w n) h).1
fits_by_type types w n _ h = cc

module _ (laws : LawsBelow) (types : List TypeDecl) (vars : List Ty) (v : Valuation)
    (fits : IsValuation types vars v) where
  -- its equation with itself is of type bool, so that it is of some type
  typed : (t : Term) (w n : ℕ) → value_of types v t ≡ Some (Bits w n) →
      (of : Ty) × IsTermOf types vars of t
  typed t w n has =
      by (type_of types vars t) refl
      (sym ((laws.parts.1 types vars).application Eq (t ∷ t ∷ []))
      ∙ (laws.types types vars v fits ty.Bool (two Eq t t)).1 (
        Truth (value_eq (Bits w n) (Bits w n)),
        (laws.meanings types v).equated t t (Bits w n) (Bits w n) has has (one_width w n),
        (laws.truths types (Truth (value_eq (Bits w n) (Bits w n)))).1
            (value_eq (Bits w n) (Bits w n), refl),
      )) where
        by : (o : Option Ty) → type_of types vars t ≡ o →
            option_and_then (type_of_application types Eq) (all_there (o ∷ o ∷ [])) ≡ Some ty.Bool →
            (of : Ty) × IsTermOf types vars of t
        by None is h = cc
        by (Some of) is h = (of, is)

  pub number_fits : (t : Term) (w n : ℕ) → value_of types v t ≡ Some (Bits w n) →
      is_number w n ≡ true
  number_fits t w n has =
      let p = typed t w n has in
      let o = (laws.types types vars v fits p.0 t).0 p.1 in
      let same : Some o.0 ≡ Some (Bits w n) = sym o.1 ∙ has in
      let x_is : o.0 ≡ Bits w n = cc in
      fits_by_type types w n p.0 (sym (number_types types w n p.0)
      ∙ ap (λ x. has_type types x p.0) (sym x_is) ∙ o.2)
