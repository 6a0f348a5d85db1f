-- What the laws of forms say.
use Rattle.std.specs.Prelude.{◌≡◌, Bool, true, List}
use Rattle.std.specs.List.{AllByRecursion}
use Rattle.kat_tree.specs.declared.tree.Tree.{Tree}
use Rattle.kat_ast.specs.declared.decl.DeclForm.{DeclForm}
use Rattle.kat_ast.specs.Declarations.{is_formed_decl}

-- forms that owe nothing and have one tree are the same
abbrev pub IsToldByTree : {A : Type 0} → (A → Bool) → (A → Tree) → Type 0
IsToldByTree {A} is_formed tree_of =
    (a b : A) → is_formed a ≡ true → is_formed b ≡ true → tree_of a ≡ tree_of b → a ≡ b

-- each declaration has the form of the text
abbrev pub AreFormed : List DeclForm → Type 0
AreFormed decls = AllByRecursion (λ (d : DeclForm). is_formed_decl d ≡ true) decls
