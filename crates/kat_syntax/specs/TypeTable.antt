-- The table of declared types: the names of their members, constructors and fields, with the types
-- of constructors and fields.
use Rattle.std.specs.Prelude.{◌≡◌, ℕ, ◌+◌, ◌&&◌, Bool, true, false, nat_lt, List, [], ◌∷◌, map, slice_get, Option, None, Some, unwrap_or}
use Rattle.std.specs.List.{AllByRecursion}
use Rattle.kat_value.specs.declared.types.Field.{Field}
use Rattle.kat_value.specs.declared.types.Ty.{Ty}
use Rattle.kat_value.specs.declared.types.Ty.TheVariants as ty
use Rattle.kat_value.specs.declared.types.TypeDecl.{TypeDecl}
use Rattle.kat_value.specs.declared.types.TypeDecl.TheVariants as type
use Rattle.kat_value.specs.Widths.{is_width}
use Rattle.kat_ast.specs.declared.type_name.TypeName.{TypeName}
use Rattle.kat_ast.specs.declared.type_name.Param.{Param}
use Rattle.kat_ast.specs.declared.decl.DeclForm.{DeclForm}
use Rattle.kat_ast.specs.declared.decl.DeclForm.TheVariants as d
use Rattle.kat_ast.specs.Spec.{Spec}
use Rattle.kat_syntax.specs.Declares.{type_of_name}
use Rattle.kat_syntax.specs.FirstTypeFault.{IsTyped}

-- a type that has no values
abbrev pub no_type : Ty
no_type = ty.Bits 0

-- the type that a written type is in the declaration of this number, else one without values
abbrev pub named_type : List DeclForm → ℕ → TypeName → Ty
named_type decls k type = unwrap_or (type_of_name decls k type) no_type

-- a name with its type, in the declaration of this number
abbrev pub field_of : List DeclForm → ℕ → Param → Field
field_of decls k param = record { name = param.name; ty = named_type decls k param.ty }

-- names with their types, in the declaration of this number
abbrev pub fields_of : List DeclForm → ℕ → List Param → List Field
fields_of decls k params = map (field_of decls k) params

-- the type that a declaration of this number declares
abbrev pub type_declared_by : List DeclForm → ℕ → DeclForm → Option TypeDecl
type_declared_by decls k (d.Enum x members) = Some (type.Enum x members)
type_declared_by decls k (d.Union x ctors) = Some (type.Union x (fields_of decls k ctors))
type_declared_by decls k (d.Record x fields) = Some (type.Rec x (fields_of decls k fields))
type_declared_by decls k _ = None

-- types with one more before them, where there is one
abbrev pub with_type : Option TypeDecl → List TypeDecl → List TypeDecl
with_type None types = types
with_type (Some type) types = type ∷ types

-- the declared types, the first declaration having the number k
abbrev pub types_from : List DeclForm → ℕ → List DeclForm → List TypeDecl
types_from all k [] = []
types_from all k (decl ∷ decls) =
    with_type (type_declared_by all k decl) (types_from all (k + 1) decls)

-- the table of declared types, in order of declaration
abbrev pub types_of_decls : List DeclForm → List TypeDecl
types_of_decls decls = types_from decls 0 decls

-- a typed specification, and the table of its declared types
pub record HasTypes (spec : Spec) (types : List TypeDecl) : Type 0 where
  pub typed : IsTyped spec
  pub table : types ≡ types_of_decls spec.decls

-- whether a declared type is an enum
abbrev pub is_enum : Option TypeDecl → Bool
is_enum (Some (type.Enum x members)) = true
is_enum _ = false

-- whether a declared type is a union
abbrev pub is_union : Option TypeDecl → Bool
is_union (Some (type.Union x ctors)) = true
is_union _ = false

-- whether a declared type is a record type
abbrev pub is_record : Option TypeDecl → Bool
is_record (Some (type.Rec x fields)) = true
is_record _ = false

-- whether a type may stand in the declared type at this position: bits have a width of 1 to 64, and
-- an enum, a union or a record type is declared as such at an earlier position
abbrev pub may_stand_in : List TypeDecl → ℕ → Ty → Bool
may_stand_in types p ty.Unit = true
may_stand_in types p ty.Bool = true
may_stand_in types p (ty.Bits w) = is_width w
may_stand_in types p (ty.Enum q) = nat_lt q p && is_enum (slice_get types q)
may_stand_in types p (ty.Union q) = nat_lt q p && is_union (slice_get types q)
may_stand_in types p (ty.Rec q) = nat_lt q p && is_record (slice_get types q)

-- the constructors of a union with their payloads, or the fields of a record type
abbrev pub parts_of_type : TypeDecl → List Field
parts_of_type (type.Enum x members) = []
parts_of_type (type.Union x ctors) = ctors
parts_of_type (type.Rec x fields) = fields

-- each type names earlier ones alone
abbrev pub NamesEarlierTypes : List TypeDecl → Type 0
NamesEarlierTypes types = (p : ℕ) (one : TypeDecl) → slice_get types p ≡ Some one →
    AllByRecursion (λ (part : Field). may_stand_in types p part.ty ≡ true) (parts_of_type one)
