use Rattle.std.proofs.Common.{◌+◌, ◌*◌}
use Rattle.kat_tree.specs.Preorder.{count_of}
use Rattle.kat_ast.specs.Assertions.{is_formed_assertion, tree_of_assertion}
use Rattle.kat_grammar.specs.Parts.{SoFar, counts}
use Rattle.kat_stms.proofs.assertions.+assertions.Given as goal

abbrev pub invariant-assertions_in-loop-tree : goal.invariant-assertions_in-loop-tree
invariant-assertions_in-loop-tree l = SoFar tree_of_assertion is_formed_assertion l.trees l.all l.tree-index

-- a tree comes before its parts, and parts side by side before each of them
abbrev pub decreases-assertion_in : goal.decreases-assertion_in
decreases-assertion_in l = 3 * count_of l.tree.now

abbrev pub decreases-star_in : goal.decreases-star_in
decreases-star_in l = 3 * counts l.parts.now + 2

abbrev pub decreases-if_in : goal.decreases-if_in
decreases-if_in l = 3 * counts l.parts.now + 2

abbrev pub decreases-exists_in : goal.decreases-exists_in
decreases-exists_in l = 3 * counts l.parts.now + 2

abbrev pub decreases-assertions_in : goal.decreases-assertions_in
decreases-assertions_in l = 3 * counts l.trees.now + 1
