-- The declared types, found by hash tables.
use Rattle.std.specs.Prelude.{◌≡◌, ℕ, nat_lt, if◌then◌else◌, List, map, Option, None, Some}
use Rattle.std.specs.Option.{option_map}
use Rattle.kat_value.specs.declared.types.Ty.{Ty}
use Rattle.kat_value.specs.declared.types.Ty.TheVariants as ty
use Rattle.kat_ast.specs.declared.decl.DeclForm.{DeclForm}
use Rattle.kat_ast.specs.declared.decl.DeclForm.TheVariants as d
use Rattle.kat_syntax.specs.Tables.{Name}
use Rattle.kat_syntax.specs.Declares.{TypeHead, type_named}
use Rattle.kat_syntax.specs.declared.declared_types.DeclaredType.{DeclaredType}
use Rattle.kat_syntax.specs.NamedItems.{Item, found}

-- a declared type without its name
abbrev pub head_of : TypeHead → DeclaredType
head_of head = record { decl = head.decl; ty = head.type }

-- the type that a head is, where it is declared before the declaration of this number
abbrev pub head_before : ℕ → DeclaredType → Option Ty
head_before k head = if nat_lt head.decl k then Some head.ty else None

-- the numbers of the declarations of types, in order
abbrev pub head_numbers : List TypeHead → List ℕ
head_numbers heads = map (λ (head : TypeHead). head.decl) heads

-- names with items, and numbers, that answer which types there are
pub record IsHeads (heads : List TypeHead) (named : List (Item DeclaredType)) (numbers : List ℕ) :
    Type 0 where
  pub finds : (x : Name) → found named x ≡ option_map head_of (type_named heads x)
  pub counted : numbers ≡ head_numbers heads

-- the name and the type that a declaration declares, the type having this position
abbrev pub type_declared : ℕ → DeclForm → Option (Name × Ty)
type_declared p (d.Enum x members) = Some (x, ty.Enum p)
type_declared p (d.Union x ctors) = Some (x, ty.Union p)
type_declared p (d.Record x fields) = Some (x, ty.Rec p)
type_declared p _ = None
