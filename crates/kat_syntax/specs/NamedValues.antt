-- The values that the table of declared types gives to names: members, what constructors and
-- records make, and fields.
use Rattle.std.specs.Prelude.{ℕ, ◌+◌, List, [], ◌∷◌, map, Option, None, option_and_then, slice_get, unwrap_or}
use Rattle.std.specs.Option.{option_map, option_or}
use Rattle.kat_names.specs.Names.{position_of}
use Rattle.kat_value.specs.declared.op.Op.TheVariants as op
use Rattle.kat_value.specs.declared.types.Field.{Field}
use Rattle.kat_value.specs.declared.types.TypeDecl.{TypeDecl}
use Rattle.kat_value.specs.declared.types.TypeDecl.TheVariants as type
use Rattle.kat_value.specs.declared.value.Value.{Value}
use Rattle.kat_value.specs.declared.value.Value.TheVariants as value
use Rattle.kat_value.specs.Making.{value_of_making, value_of_record}
use Rattle.kat_value.specs.Operations.{value_of_op}
use Rattle.kat_syntax.specs.declared.run_tables.CtorPlace.{CtorPlace}
use Rattle.kat_syntax.specs.Tables.{Name}

-- the name of a declared type
abbrev pub name_of_type : TypeDecl → Name
name_of_type (type.Enum x members) = x
name_of_type (type.Union x ctors) = x
name_of_type (type.Rec x fields) = x

-- the names of fields
abbrev pub names_of_fields : List Field → List Name
names_of_fields fields = map (λ (field : Field). field.name) fields

-- the members of a declared type, none where it is no enum
abbrev pub members_of : TypeDecl → List Name
members_of (type.Enum x members) = members
members_of (type.Union x ctors) = []
members_of (type.Rec x fields) = []

-- the names of the constructors of a declared type, none where it is no union
abbrev pub ctors_of : TypeDecl → List Name
ctors_of (type.Enum x members) = []
ctors_of (type.Union x ctors) = names_of_fields ctors
ctors_of (type.Rec x fields) = []

-- the names of the fields of a declared type, none where it is no record
abbrev pub field_names_of : TypeDecl → List Name
field_names_of (type.Enum x members) = []
field_names_of (type.Union x ctors) = []
field_names_of (type.Rec x fields) = names_of_fields fields

-- the names that the type at a position of the table has
abbrev pub names_at : (TypeDecl → List Name) → List TypeDecl → ℕ → List Name
names_at names types of = unwrap_or (option_map names (slice_get types of)) []

-- the position of the first declared type of this name
abbrev pub type_position : List TypeDecl → Name → Option ℕ
type_position types x = position_of (map name_of_type types) x

-- the first constructor of this name, the first type having the position p
abbrev pub ctor_from : ℕ → List TypeDecl → Name → Option CtorPlace
ctor_from p [] k = None
ctor_from p (type ∷ types) k =
    option_or (option_map (λ at. record { of = p; ctor = at }) (position_of (ctors_of type) k))
    (ctor_from (p + 1) types k)

-- `(of E A)`: the member of this name of the enum of this name
abbrev pub member_value : List TypeDecl → Name → Name → Option Value
member_value types e a =
    option_and_then (λ p. option_map (value.Member p) (position_of (names_at members_of types p) a))
    (type_position types e)

-- `(make K v)`: the constructor of this name with a payload of its type
abbrev pub made_value : List TypeDecl → Name → Value → Option Value
made_value types k payload =
    option_and_then
    (λ (place : CtorPlace). value_of_making types place.of place.ctor payload)
    (ctor_from 0 types k)

-- `(rec R v ..)`: the record of this name with fields of its types
abbrev pub rec_value : List TypeDecl → Name → List Value → Option Value
rec_value types r fields =
    option_and_then (λ p. value_of_record types p fields) (type_position types r)

-- `(get R f v)`: the field of this name of a value of the record of this name
abbrev pub got_value : List TypeDecl → Name → Name → Value → Option Value
got_value types r f v =
    option_and_then (λ p.
    option_and_then (λ at. value_of_op (op.Get p at) (v ∷ []))
    (position_of (names_at field_names_of types p) f))
    (type_position types r)

-- the name of the member at this position of the enum at this position
abbrev pub member_name : List TypeDecl → ℕ → ℕ → Option Name
member_name types of index = slice_get (names_at members_of types of) index

-- the name of the constructor at this position of the union at this position
abbrev pub ctor_name : List TypeDecl → ℕ → ℕ → Option Name
ctor_name types of ctor = slice_get (names_at ctors_of types of) ctor
