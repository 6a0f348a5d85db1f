-- Which values are of which types.
use Rattle.std.specs.Prelude.{ℕ, Bool, true, false, ◌==◌, ◌&&◌, nat_lt, List, [], ◌∷◌, length, map, slice_get, Option, Some, None, IsTrue}
use Rattle.kat_value.specs.declared.types.Field.{Field}
use Rattle.kat_value.specs.declared.types.Ty.{Ty}
use Rattle.kat_value.specs.declared.types.Ty.TheVariants.{Unit as unit, Bool as bool, Bits as bits, Enum as enum, Union as union, Rec as rec}
use Rattle.kat_value.specs.declared.types.TypeDecl.{TypeDecl}
use Rattle.kat_value.specs.declared.types.TypeDecl.TheVariants.{Enum as EnumDecl, Union as UnionDecl, Rec as RecDecl}
use Rattle.kat_value.specs.declared.value.Value.{Value, fold-Value}
use Rattle.kat_value.specs.declared.value.Value.TheOpen.{Value-F, Unit as UnitValue, Bool as Truth, Bits, Member, Made, Rec}
use Rattle.kat_value.specs.Widths.{is_number}

-- how many members a declaration has, 0 where it is no enum
abbrev pub members_in : Option TypeDecl → ℕ
members_in (Some (EnumDecl name members)) = length members
members_in (Some (UnionDecl name ctors)) = 0
members_in (Some (RecDecl name fields)) = 0
members_in None = 0

-- the constructors of a declaration, none where it is no union
abbrev pub ctors_in : Option TypeDecl → List Field
ctors_in (Some (EnumDecl name members)) = []
ctors_in (Some (UnionDecl name ctors)) = ctors
ctors_in (Some (RecDecl name fields)) = []
ctors_in None = []

-- the fields of a declaration, where it is a record
abbrev pub fields_in : Option TypeDecl → Option (List Field)
fields_in (Some (EnumDecl name members)) = None
fields_in (Some (UnionDecl name ctors)) = None
fields_in (Some (RecDecl name fields)) = Some fields
fields_in None = None

-- how many members the enum at a position of the table has
abbrev pub member_count : List TypeDecl → ℕ → ℕ
member_count types of = members_in (slice_get types of)

-- the constructor at a position of the union at a position of the table
abbrev pub ctor_at : List TypeDecl → ℕ → ℕ → Option Field
ctor_at types of ctor = slice_get (ctors_in (slice_get types of)) ctor

-- the fields of the record at a position of the table
abbrev pub fields_at : List TypeDecl → ℕ → Option (List Field)
fields_at types of = fields_in (slice_get types of)

-- whether a value, seen as the test of its types, is of the type of a constructor
abbrev pub passes_ctor : (Ty → Bool) → Option Field → Bool
passes_ctor test (Some ctor) = test ctor.ty
passes_ctor test None = false

-- whether values are of the types of fields, one for each
abbrev pub all_pass : List (Ty → Bool) → List Field → Bool
all_pass [] [] = true
all_pass [] (field ∷ fields) = false
all_pass (test ∷ tests) [] = false
all_pass (test ∷ tests) (field ∷ fields) = test field.ty && all_pass tests fields

-- the same of the fields of a record, where there is one
abbrev pub pass_record : List (Ty → Bool) → Option (List Field) → Bool
pass_record tests (Some fields) = all_pass tests fields
pass_record tests None = false

-- whether one layer of a value is of a type, its parts being seen as the tests of their types
abbrev pub layer_has_type : List TypeDecl → Value-F (Ty → Bool) → Ty → Bool
layer_has_type types UnitValue unit = true
layer_has_type types (Truth b) bool = true
layer_has_type types (Bits w n) (bits v) = (w == v) && is_number w n
layer_has_type types (Member t index) (enum u) = (t == u) && nat_lt index (member_count types t)
layer_has_type types (Made t ctor test) (union u) =
    (t == u) && passes_ctor test (ctor_at types t ctor)
layer_has_type types (Rec t tests) (rec u) = (t == u) && pass_record tests (fields_at types t)
layer_has_type types _ _ = false

-- whether a value is of a type
abbrev pub has_type : List TypeDecl → Value → Ty → Bool
has_type types = fold-Value (Ty → Bool) (layer_has_type types)

-- whether values are of the types of fields, one for each
abbrev pub have_types : List TypeDecl → List Value → List Field → Bool
have_types types vs fields = all_pass (map (has_type types) vs) fields

-- a value is of a type
abbrev pub HasType : List TypeDecl → Ty → Value → Type 0
HasType types ty v = IsTrue (has_type types v ty)
