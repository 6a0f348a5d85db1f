-- An operation has a value exactly on values of types that it takes, and that value is of the type
-- that it gives; so have a constructor and a record.
use Rattle.std.specs.Prelude.{◌≡◌, ℕ, if◌then◌else◌, List, map, Option, Some, None}
use Rattle.std.specs.Option.{option_map}
use Rattle.kat_value.specs.declared.op.Op.{Op}
use Rattle.kat_value.specs.declared.types.Ty.{Ty}
use Rattle.kat_value.specs.declared.types.Ty.TheVariants as ty
use Rattle.kat_value.specs.declared.types.TypeDecl.{TypeDecl}
use Rattle.kat_value.specs.declared.value.Value.{Value}
use Rattle.kat_value.specs.Making.{value_of_making, value_of_record}
use Rattle.kat_value.specs.Operations.{value_of_op}
use Rattle.kat_value.specs.Shown.{type_of_value, IsValue, AreValues}
use Rattle.kat_value.specs.Signatures.{same_type, type_of_op}
use Rattle.kat_value.specs.Typing.{ctor_at, fields_at, passes_ctor, pass_record}

-- the type of an operation on arguments of these types; none where it does not take them
abbrev pub type_of_application : List TypeDecl → Op → List Ty → Option Ty
type_of_application types op args = type_of_op types op (map Some args)

-- the type of a constructor of a union on a payload of this type
abbrev pub type_of_making : List TypeDecl → ℕ → ℕ → Ty → Option Ty
type_of_making types of ctor t =
    if passes_ctor (same_type t) (ctor_at types of ctor) then Some (ty.Union of) else None

-- the type of a record with fields of these types
abbrev pub type_of_record : List TypeDecl → ℕ → List Ty → Option Ty
type_of_record types of ts =
    if pass_record (map same_type ts) (fields_at types of) then Some (ty.Rec of) else None

-- a value that is there is of the type that it shows
abbrev pub IsValueThere : List TypeDecl → Option Value → Type 0
IsValueThere types None = Unit {0}
IsValueThere types (Some x) = IsValue types x

-- what may be a value has this type, and there is a value where there is a type
pub record IsExact (types : List TypeDecl) (o : Option Value) (t : Option Ty) : Type 0 where
  pub typed : option_map type_of_value o ≡ t
  pub there : IsValueThere types o

-- what is made of values has a value exactly where their types are taken, and of the type that is
-- given
pub record ExactOperations : Type 0 where
  pub operation :
      (types : List TypeDecl) (op : Op) (xs : List Value) → AreValues types xs →
      IsExact types (value_of_op op xs) (type_of_application types op (map type_of_value xs))
  pub making :
      (types : List TypeDecl) (of ctor : ℕ) (x : Value) → IsValue types x →
      IsExact types (value_of_making types of ctor x) (type_of_making types of ctor (type_of_value x))
  pub fields :
      (types : List TypeDecl) (of : ℕ) (xs : List Value) → AreValues types xs →
      IsExact types (value_of_record types of xs) (type_of_record types of (map type_of_value xs))
