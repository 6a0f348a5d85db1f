-- What trees describe, and where they misfit.
use Rattle.std.specs.Prelude.{◌≡◌}
use Rattle.kat_tree.specs.declared.tree.Tree.{Tree}
use Rattle.kat_ast.specs.declared.decl.DeclForm.{DeclForm}
use Rattle.kat_ast.specs.Declarations.{tree_of_decl, IsDecl}
use Rattle.kat_shapes.specs.declared.sort.Sort.TheVariants.{Spec, Declaration}
use Rattle.kat_shapes.specs.declared.misfit.Misfit.{Misfit}
use Rattle.kat_shapes.specs.Places.{IsFirstMisfit as IsFirstMisfitOf}

-- of a specification's tree, the least place that is read as something and has no form there
abbrev pub IsFirstMisfit : Tree → Misfit → Type 0
IsFirstMisfit = IsFirstMisfitOf Spec

-- the same of a declaration's tree by itself
abbrev pub IsFirstMisfitOfDecl : Tree → Misfit → Type 0
IsFirstMisfitOfDecl = IsFirstMisfitOf Declaration

-- the tree is that of the declaration, which has the form of the language's text
pub record DescribesDecl (tree : Tree) (decl : DeclForm) : Type 0 where
  pub tree_is : tree ≡ tree_of_decl decl
  pub kept : IsDecl decl
