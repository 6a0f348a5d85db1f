-- The type that a value shows: it is of this type or of none.
use Rattle.std.specs.Prelude.{◌≡◌, ℕ, Bool, true, List, [], ◌∷◌}
use Rattle.kat_value.specs.declared.types.Ty.{Ty}
use Rattle.kat_value.specs.declared.types.Ty.TheVariants as ty
use Rattle.kat_value.specs.declared.types.TypeDecl.{TypeDecl}
use Rattle.kat_value.specs.declared.value.Value.{Value, out-Value}
use Rattle.kat_value.specs.declared.value.Value.TheOpen.{Value-F, Unit as UnitLayer, Bool as TruthLayer, Bits as BitsLayer, Member as MemberLayer, Made as MadeLayer, Rec as RecLayer}
use Rattle.kat_value.specs.Signatures.{same_type}
use Rattle.kat_value.specs.Typing.{HasType, has_type}

-- the type that one layer of a value shows
abbrev pub type_of_layer : {A : Type 0} → Value-F A → Ty
type_of_layer UnitLayer = ty.Unit
type_of_layer (TruthLayer b) = ty.Bool
type_of_layer (BitsLayer w n) = ty.Bits w
type_of_layer (MemberLayer of index) = ty.Enum of
type_of_layer (MadeLayer of ctor inner) = ty.Union of
type_of_layer (RecLayer of fields) = ty.Rec of

-- the type that a value shows
abbrev pub type_of_value : Value → Ty
type_of_value x = type_of_layer (out-Value x)

-- whether two values show one type
abbrev pub one_type : Value → Value → Bool
one_type x y = same_type (type_of_value x) (type_of_value y)

-- a value that is of the type that it shows
abbrev pub IsValue : List TypeDecl → Value → Type 0
IsValue types x = has_type types x (type_of_value x) ≡ true

-- each of these is of the type that it shows
abbrev pub AreValues : List TypeDecl → List Value → Type 0
AreValues types [] = Unit {0}
AreValues types (x ∷ xs) = IsValue types x × AreValues types xs

-- types are the same exactly where the test of it says so. Of a value that is of the type that it
-- shows, the test of a type is that of this type; a value of a type is such a value, and shows that
-- type
pub record ShownTypes : Type 0 where
  pub same : (t : Ty) → same_type t t ≡ true
  pub told : (t u : Ty) → same_type t u ≡ true → t ≡ u
  pub test :
      (types : List TypeDecl) (x : Value) → IsValue types x →
      (t : Ty) → has_type types x t ≡ same_type (type_of_value x) t
  pub value : (types : List TypeDecl) (t : Ty) (x : Value) → HasType types t x → IsValue types x
  pub shows : (types : List TypeDecl) (t : Ty) (x : Value) → HasType types t x → type_of_value x ≡ t
