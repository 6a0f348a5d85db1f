use Rattle.std.specs.Prelude.{◌≡◌, map, take}
use Rattle.kat_ast.specs.Parts.{number}
use Rattle.kat_exprs.proofs.params.numbers_in.Given as goal

abbrev pub invariant-loop-tree : goal.invariant-loop-tree
invariant-loop-tree l = map number l.numbers ≡ take l.tree-index l.trees
