use Rattle.std.proofs.Common.{◌+◌, ◌*◌}
use Rattle.kat_tree.specs.Preorder.{count_of}
use Rattle.kat_ast.specs.Expressions.{is_formed_expr, tree_of_expr}
use Rattle.kat_grammar.specs.Parts.{SoFar, counts}
use Rattle.kat_exprs.proofs.expressions.+expressions.Given as goal

abbrev pub invariant-exprs_in-loop-tree : goal.invariant-exprs_in-loop-tree
invariant-exprs_in-loop-tree l = SoFar tree_of_expr is_formed_expr l.trees l.exprs l.tree-index

-- a tree comes before its parts, and parts side by side before each of them
abbrev pub decreases-expr_in : goal.decreases-expr_in
decreases-expr_in l = 3 * count_of l.tree.now

abbrev pub decreases-list_in : goal.decreases-list_in
decreases-list_in l = 3 * counts l.parts.now + 2

abbrev pub decreases-make_in : goal.decreases-make_in
decreases-make_in l = 3 * counts l.parts.now + 2

abbrev pub decreases-rec_in : goal.decreases-rec_in
decreases-rec_in l = 3 * counts l.parts.now + 2

abbrev pub decreases-get_in : goal.decreases-get_in
decreases-get_in l = 3 * counts l.parts.now + 2

abbrev pub decreases-slice_in : goal.decreases-slice_in
decreases-slice_in l = 3 * counts l.parts.now + 2

abbrev pub decreases-zext_in : goal.decreases-zext_in
decreases-zext_in l = 3 * counts l.parts.now + 2

abbrev pub decreases-sext_in : goal.decreases-sext_in
decreases-sext_in l = 3 * counts l.parts.now + 2

abbrev pub decreases-operation_in : goal.decreases-operation_in
decreases-operation_in l = 3 * counts l.parts.now + 2

abbrev pub decreases-exprs_in : goal.decreases-exprs_in
decreases-exprs_in l = 3 * counts l.trees.now + 1
