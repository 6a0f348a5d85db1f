-- Values as layers, and what may be a value of a type.
use Rattle.std.proofs.Common.{◌≡◌, ◌∙◌, Bool, true, List, Option, Some, None, refl, ap, sym}
use Rattle.std.proofs.lemmas.Bool.{eq-eqb}
use Rattle.kat_value.specs.declared.types.Ty.{Ty}
use Rattle.kat_value.specs.declared.types.Ty.TheVariants as ty
use Rattle.kat_value.specs.declared.types.TypeDecl.{TypeDecl}
use Rattle.kat_value.specs.declared.value.Value.{Value, out-Value, out-roll-Value, map-Value, fold_out-Value}
use Rattle.kat_value.specs.declared.value.Value.TheVariants.{Unit as UnitValue, rolls-Unit}
use Rattle.kat_value.specs.declared.value.Value.TheOpen.{Value-F, Unit as UnitLayer}
use Rattle.kat_value.specs.OperationTypes.{IsExact}
use Rattle.kat_value.specs.Signatures.{same_type}
use Rattle.kat_value.specs.Typing.{has_type, layer_has_type}

-- the layer of unit
pub out-Unit : out-Value UnitValue ≡ UnitLayer
out-Unit = ap out-Value (sym rolls-Unit) ∙ out-roll-Value UnitLayer

-- a layer of a value with the tests of the types of its parts
abbrev pub tested : List TypeDecl → Value-F Value → Value-F (Ty → Bool)
tested types = map-Value Value (Ty → Bool) (has_type types)

-- the test of a type is that of the layer
pub has_type-out : (types : List TypeDecl) (x : Value) (t : Ty) → has_type types x t ≡ layer_has_type types (tested types (out-Value x)) t
has_type-out types x t = ap (λ (test : Ty → Bool). test t) (fold_out-Value (Ty → Bool) (layer_has_type types) x)

-- there is neither a value nor a type
pub none_exact : (types : List TypeDecl) → IsExact types None None
none_exact types = record { typed = refl; there = tt }

-- a type is the same as itself
pub same_self : (t : Ty) → same_type t t ≡ true
same_self ty.Unit = refl
same_self ty.Bool = refl
same_self (ty.Bits w) = eq-eqb w w refl
same_self (ty.Enum i) = eq-eqb i i refl
same_self (ty.Union i) = eq-eqb i i refl
same_self (ty.Rec i) = eq-eqb i i refl
