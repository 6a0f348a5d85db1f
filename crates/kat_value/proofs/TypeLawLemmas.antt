-- Which values are of the types without parts.
use Rattle.std.proofs.Common.{◌≡◌, ◌∙◌, ◌↔◌, ℕ, ◌==◌, Bool, true, false, IsTrue, List, refl, sym, ap, subst}
use Rattle.std.proofs.lemmas.Bool.{and_parts, and_from, eqb-true, eq-eqb, false≢true}
use Rattle.kat_value.specs.declared.types.Ty.{Ty}
use Rattle.kat_value.specs.declared.types.Ty.TheVariants.{Unit as unit, Bool as bool, Bits as bits}
use Rattle.kat_value.specs.declared.types.TypeDecl.{TypeDecl}
use Rattle.kat_value.specs.declared.value.Value.{Value, out-Value, roll-Value, roll-out-Value, map-Value, fold_out-Value, fold-roll-Value}
use Rattle.kat_value.specs.declared.value.Value.TheVariants.{Unit as UnitValue, Bool as Truth, Bits as Number, rolls-Unit, rolls-Bool, rolls-Bits}
use Rattle.kat_value.specs.declared.value.Value.TheOpen.{Value-F, Unit as UnitLayer, Bool as TruthLayer, Bits as NumberLayer}
use Rattle.kat_value.specs.Widths.{is_number}
use Rattle.kat_value.specs.Typing.{HasType, has_type, layer_has_type}
use Rattle.kat_value.specs.TypeLaws.{UnitIsUnit, BoolIsTruths, BitsAreNumbers}

-- the test of types at one layer
abbrev layer_is : List TypeDecl → Value-F Value → Ty → Type 0
layer_is types layer type = layer_has_type types (map-Value Value (Ty → Bool) (has_type types) layer) type ≡ true

has_layer : (types : List TypeDecl) (type : Ty) (v : Value) → HasType types type v → layer_is types (out-Value v) type
has_layer types type v h = sym (ap (λ (test : Ty → Bool). test type) (fold_out-Value (Ty → Bool) (layer_has_type types) v)) ∙ h

unit_layer : (types : List TypeDecl) (layer : Value-F Value) → layer_is types layer unit → layer ≡ UnitLayer
unit_layer types UnitLayer h = refl
unit_layer types _ h = absurd (false≢true h)

truth_layer : (types : List TypeDecl) (layer : Value-F Value) → layer_is types layer bool → (b : Bool) × (layer ≡ TruthLayer b)
truth_layer types (TruthLayer b) h = (b, refl)
truth_layer types _ h = absurd (false≢true h)

number_layer : (types : List TypeDecl) (w : ℕ) (layer : Value-F Value) → layer_is types layer (bits w) → (n : ℕ) × (layer ≡ NumberLayer w n) × IsTrue (is_number w n)
number_layer types w (NumberLayer u n) h =
    let parts = and_parts _ _ h in
    let width : u ≡ w = eqb-true u w parts.0 in
    (n, ap (λ k. NumberLayer k n) width, subst (λ k. IsTrue (is_number k n)) width parts.1)
number_layer types w _ h = absurd (false≢true h)

-- a value of each type
unit_has_type : (types : List TypeDecl) → HasType types unit UnitValue
unit_has_type types =
    ap (λ (v : Value). has_type types v unit) (sym rolls-Unit)
    ∙ ap (λ (test : Ty → Bool). test unit) (fold-roll-Value (Ty → Bool) (layer_has_type types) UnitLayer)

truth_has_type : (types : List TypeDecl) (b : Bool) → HasType types bool (Truth b)
truth_has_type types b =
    ap (λ (v : Value). has_type types v bool) (sym (rolls-Bool b))
    ∙ ap (λ (test : Ty → Bool). test bool) (fold-roll-Value (Ty → Bool) (layer_has_type types) (TruthLayer b))

number_has_type : (types : List TypeDecl) (w n : ℕ) → IsTrue (is_number w n) → HasType types (bits w) (Number w n)
number_has_type types w n is =
    ap (λ (v : Value). has_type types v (bits w)) (sym (rolls-Bits w n))
    ∙ ap (λ (test : Ty → Bool). test (bits w)) (fold-roll-Value (Ty → Bool) (layer_has_type types) (NumberLayer w n))
    ∙ and_from (w == w) (is_number w n) (eq-eqb w w refl) is

-- and no other
pub unit_is_unit : UnitIsUnit
unit_is_unit types v = (
  λ h. sym (roll-out-Value v) ∙ ap roll-Value (unit_layer types (out-Value v) (has_layer types unit v h)) ∙ rolls-Unit,
  λ e. subst (HasType types unit) (sym e) (unit_has_type types),
)

pub bool_is_truths : BoolIsTruths
bool_is_truths types v = (
  λ h.
      let found = truth_layer types (out-Value v) (has_layer types bool v h) in
      (found.0, sym (roll-out-Value v) ∙ ap roll-Value found.1 ∙ rolls-Bool found.0),
  λ found. subst (HasType types bool) (sym found.1) (truth_has_type types found.0),
)

pub bits_are_numbers : BitsAreNumbers
bits_are_numbers types w v = (
  λ h.
      let found = number_layer types w (out-Value v) (has_layer types (bits w) v h) in
      (found.0, sym (roll-out-Value v) ∙ ap roll-Value found.1 ∙ rolls-Bits w found.0, found.2),
  λ found. subst (HasType types (bits w)) (sym found.1) (number_has_type types w found.0 found.2),
)
