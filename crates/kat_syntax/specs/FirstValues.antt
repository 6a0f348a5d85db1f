-- The first value of each type.
use Rattle.std.specs.Prelude.{ℕ, ◌++◌, false, if◌then◌else◌, List, [], ◌∷◌, length, map, Option, None, Some, slice_get}
use Rattle.std.specs.Option.{option_map, option_flatten}
use Rattle.kat_value.specs.declared.types.Field.{Field}
use Rattle.kat_value.specs.declared.types.Ty.{Ty}
use Rattle.kat_value.specs.declared.types.Ty.TheVariants as ty
use Rattle.kat_value.specs.declared.types.TypeDecl.{TypeDecl}
use Rattle.kat_value.specs.declared.types.TypeDecl.TheVariants as type
use Rattle.kat_value.specs.declared.value.Value.{Value}
use Rattle.kat_value.specs.declared.value.Value.TheVariants as value
use Rattle.kat_value.specs.Making.{all_there}
use Rattle.kat_value.specs.Widths.{is_width}

-- the first value of a type, by those of the declared types: the number 0, or false
abbrev pub first_by : List (Option Value) → Ty → Option Value
first_by firsts ty.Unit = Some value.Unit
first_by firsts ty.Bool = Some (value.Bool false)
first_by firsts (ty.Bits w) = if is_width w then Some (value.Bits w 0) else None
first_by firsts (ty.Enum p) = option_flatten (slice_get firsts p)
first_by firsts (ty.Union p) = option_flatten (slice_get firsts p)
first_by firsts (ty.Rec p) = option_flatten (slice_get firsts p)

-- the first value of a declared type that has the position p, by those of the types before: its
-- first member, its first constructor with the first value of its type, or a record of the first
-- values of its fields
abbrev pub first_of_decl : ℕ → List (Option Value) → TypeDecl → Option Value
first_of_decl p firsts (type.Enum x []) = None
first_of_decl p firsts (type.Enum x (member ∷ members)) = Some (value.Member p 0)
first_of_decl p firsts (type.Union x []) = None
first_of_decl p firsts (type.Union x (ctor ∷ ctors)) =
    option_map (value.Made p 0) (first_by firsts ctor.ty)
first_of_decl p firsts (type.Rec x fields) =
    option_map (value.Rec p)
    (all_there (map (λ (field : Field). first_by firsts field.ty) fields))

-- first values of declared types with those of more types
abbrev pub firsts_with : List (Option Value) → List TypeDecl → List (Option Value)
firsts_with firsts [] = firsts
firsts_with firsts (type ∷ types) =
    firsts_with (firsts ++ first_of_decl (length firsts) firsts type ∷ []) types

-- the first value of a type, where it has one
abbrev pub first_value : List TypeDecl → Ty → Option Value
first_value types type = first_by (firsts_with [] types) type
