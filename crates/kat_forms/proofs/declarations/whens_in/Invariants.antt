use Rattle.kat_ast.specs.Declarations.{is_formed_when, tree_of_when}
use Rattle.kat_grammar.specs.Parts.{SoFar}
use Rattle.kat_forms.proofs.declarations.whens_in.Given as goal

abbrev pub invariant-loop-tree : goal.invariant-loop-tree
invariant-loop-tree l = SoFar tree_of_when is_formed_when l.trees l.cases l.tree-index
