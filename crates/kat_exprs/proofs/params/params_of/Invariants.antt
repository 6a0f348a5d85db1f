use Rattle.kat_ast.specs.Types.{is_formed_param, tree_of_param}
use Rattle.kat_grammar.specs.Parts.{SoFar}
use Rattle.kat_exprs.proofs.params.params_of.Given as goal

abbrev pub invariant-loop-tree : goal.invariant-loop-tree
invariant-loop-tree l = SoFar tree_of_param is_formed_param l.trees l.params l.tree-index
