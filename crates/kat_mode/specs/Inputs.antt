-- A table of how many inputs each predicate has.
use Rattle.std.specs.Prelude.{◌≡◌, ℕ, List, length, Option, None, Some, unwrap_or}
use Rattle.kat_ast.specs.declared.decl.DeclForm.{DeclForm}
use Rattle.kat_ast.specs.declared.decl.DeclForm.TheVariants as d
use Rattle.kat_syntax.specs.Tables.{Name}
use Rattle.kat_syntax.specs.NamedItems.{Item, found}
use Rattle.kat_syntax.specs.Modes.{inputs_among}

-- a table of the inputs of the predicates that these declare
abbrev pub CountsInputs : List DeclForm → List (Item ℕ) → Type 0
CountsInputs decls counts = (p : Name) → unwrap_or (found counts p) 0 ≡ inputs_among decls p

-- the name of the predicate that a declaration declares, and how many inputs it has
abbrev pub predicate_in : DeclForm → Option (Name × ℕ)
predicate_in (d.Predicate x inputs outputs definition) = Some (x, length inputs)
predicate_in _ = None
