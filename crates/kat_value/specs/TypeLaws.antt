-- Which values are of the types without parts.
use Rattle.std.specs.Prelude.{◌≡◌, ◌↔◌, ℕ, Bool, IsTrue, List}
use Rattle.kat_value.specs.declared.types.Ty.TheVariants as ty
use Rattle.kat_value.specs.declared.types.TypeDecl.{TypeDecl}
use Rattle.kat_value.specs.declared.value.Value.{Value}
use Rattle.kat_value.specs.declared.value.Value.TheVariants as value
use Rattle.kat_value.specs.Widths.{is_number}
use Rattle.kat_value.specs.Typing.{HasType}

-- of type unit is unit alone
abbrev pub UnitIsUnit : Type 0
UnitIsUnit = (types : List TypeDecl) (v : Value) → HasType types ty.Unit v ↔ (v ≡ value.Unit)

-- of type bool are the truths alone
abbrev pub BoolIsTruths : Type 0
BoolIsTruths =
    (types : List TypeDecl) (v : Value) →
    HasType types ty.Bool v ↔ ((b : Bool) × (v ≡ value.Bool b))

-- of bits are the numbers of that width alone, and none where it is no width
abbrev pub BitsAreNumbers : Type 0
BitsAreNumbers =
    (types : List TypeDecl) (w : ℕ) (v : Value) →
    HasType types (ty.Bits w) v ↔ ((n : ℕ) × (v ≡ value.Bits w n) × IsTrue (is_number w n))
