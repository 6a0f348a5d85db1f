use Rattle.kat_forms.proofs.Reading.{Made}
use Rattle.kat_forms.proofs.read.decls_in.Given as goal

abbrev pub invariant-loop-tree : goal.invariant-loop-tree
invariant-loop-tree l = Made l.trees l.decls l.tree-index
