-- What the tables of declarations keep.
use Rattle.std.specs.Prelude.{◌≡◌, ◌<◌, ◌^◌, List, [], map, length, Option}
use Rattle.kat_value.specs.declared.types.TypeDecl.{TypeDecl}
use Rattle.kat_ast.specs.declared.decl.DeclForm.{DeclForm}
use Rattle.kat_syntax.specs.Declares.{type_heads, declared_by}
use Rattle.kat_syntax.specs.Memories.{Memory, memory_from}
use Rattle.kat_syntax.specs.declared.declared_types.DeclaredTypes.{DeclaredTypes}
use Rattle.kat_tables.specs.declared.kinds.Kinds.{Kinds}
use Rattle.kat_tables.specs.declared.protected.Protected.{Protected}
use Rattle.kat_syntax.specs.DeclaredTypes.{IsHeads}
use Rattle.kat_tables.specs.Meanings.{IsKinds, noted}
use Rattle.kat_tables.specs.Protected.{IsProtected}

-- tables of these declarations
pub record IsTables (decls : List DeclForm) (heads : DeclaredTypes) (kinds : Kinds)
    (memory : Option Memory) (protected : Protected) (none : List TypeDecl) : Type 0 where
  pub few : length decls < 2 ^ 32
  pub heads_are : IsHeads (type_heads decls) heads.named heads.numbers
  pub kinds_are : IsKinds (map noted (declared_by decls)) kinds
  pub memory_is : memory ≡ memory_from 0 decls
  pub protected_are : IsProtected decls protected.reaches
  pub none_are : none ≡ []
