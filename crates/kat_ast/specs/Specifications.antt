-- Specifications: what each keeps, which tree is which, and which bytes stand for it.
use Rattle.std.specs.Prelude.{◌≡◌, ℕ, List, [], ◌∷◌, ◌++◌, map, codes}
use Rattle.std.specs.List.{AllByRecursion}
use Rattle.kat_tree.specs.declared.tree.Tree.{Tree}
use Rattle.kat_tree.specs.Spelling.{Spells}
use Rattle.kat_tree.specs.Written.{text_of_tree}
use Rattle.kat_value.specs.Version.{newest}
use Rattle.kat_ast.specs.Spec.{Spec}
use Rattle.kat_ast.specs.Parts.{number, form}
use Rattle.kat_ast.specs.Declarations.{tree_of_decl, IsDecl}

-- the version is the newest, the only one that there is, and each declaration has its form
pub record IsSpec (spec : Spec) : Type 0 where
  pub version : spec.version ≡ newest
  pub decls : AllByRecursion IsDecl spec.decls

-- `(spec V D ..)`
abbrev pub tree_of_spec : Spec → Tree
tree_of_spec spec = form (codes "spec") (number spec.version ∷ map tree_of_decl spec.decls)

-- the tree is that of the specification, which has the form of the language's text
pub record Describes (tree : Tree) (spec : Spec) : Type 0 where
  pub tree_is : tree ≡ tree_of_spec spec
  pub kept : IsSpec spec

-- the bytes spell a tree that describes the specification
pub record Reads (bytes : List ℕ) (spec : Spec) : Type 0 where
  pub tree : Tree
  pub spelled : Spells bytes tree
  pub described : Describes tree spec

-- the bytes of a specification: one space between two trees, none inside the brackets' ends, one
-- newline at the end
abbrev pub canonical_text : Spec → List ℕ
canonical_text spec = text_of_tree (tree_of_spec spec) ++ 10 ∷ []
