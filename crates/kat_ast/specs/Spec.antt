-- A specification, as contracts see it.
use Rattle.std.specs.Prelude.{ℕ, List}
use Rattle.kat_ast.specs.declared.decl.DeclForm.{DeclForm}

-- the version of the language that it is written in, and its declarations in the order of the text
pub record Spec : Type 0 where
  pub version : ℕ
  pub decls : List DeclForm
