use Rattle.kat_ast.specs.Parts.{is_name, word}
use Rattle.kat_grammar.specs.Parts.{SoFar}
use Rattle.kat_exprs.proofs.params.names_of.Given as goal

abbrev pub invariant-loop-tree : goal.invariant-loop-tree
invariant-loop-tree l = SoFar word is_name l.trees l.names l.tree-index
