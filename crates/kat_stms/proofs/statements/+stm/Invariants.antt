use Rattle.std.proofs.Common.{◌+◌, ◌*◌}
use Rattle.kat_tree.specs.Preorder.{count_of}
use Rattle.kat_ast.specs.Statements.{is_formed_stm, tree_of_stm}
use Rattle.kat_grammar.specs.Forms.{case_tree, case_formed, match_tree, match_formed}
use Rattle.kat_grammar.specs.Parts.{SoFar, counts}
use Rattle.kat_stms.proofs.statements.+stm.Given as goal

-- a tree comes before its parts, and parts side by side before each of them
abbrev pub decreases-stm_in : goal.decreases-stm_in
decreases-stm_in l = 3 * count_of l.tree.now

abbrev pub decreases-let_in : goal.decreases-let_in
decreases-let_in l = 3 * counts l.parts.now + 2

abbrev pub decreases-seq_in : goal.decreases-seq_in
decreases-seq_in l = 3 * counts l.parts.now + 2

abbrev pub decreases-if_in : goal.decreases-if_in
decreases-if_in l = 3 * counts l.parts.now + 2

abbrev pub decreases-case_in : goal.decreases-case_in
decreases-case_in l = 3 * counts l.parts.now + 2

abbrev pub decreases-match_in : goal.decreases-match_in
decreases-match_in l = 3 * counts l.parts.now + 2

abbrev pub decreases-stms_in : goal.decreases-stms_in
decreases-stms_in l = 3 * counts l.trees.now + 1

abbrev pub decreases-case_arms_in : goal.decreases-case_arms_in
decreases-case_arms_in l = 3 * counts l.trees.now + 1

abbrev pub decreases-match_arms_in : goal.decreases-match_arms_in
decreases-match_arms_in l = 3 * counts l.trees.now + 1

abbrev pub decreases-case_arm_in : goal.decreases-case_arm_in
decreases-case_arm_in l = 3 * count_of l.tree.now

abbrev pub decreases-match_arm_in : goal.decreases-match_arm_in
decreases-match_arm_in l = 3 * count_of l.tree.now

abbrev pub invariant-stms_in-loop-tree : goal.invariant-stms_in-loop-tree
invariant-stms_in-loop-tree l = SoFar tree_of_stm is_formed_stm l.trees l.stms l.tree-index

abbrev pub invariant-case_arms_in-loop-tree : goal.invariant-case_arms_in-loop-tree
invariant-case_arms_in-loop-tree l = SoFar case_tree case_formed l.trees l.arms l.tree-index

abbrev pub invariant-match_arms_in-loop-tree : goal.invariant-match_arms_in-loop-tree
invariant-match_arms_in-loop-tree l = SoFar match_tree match_formed l.trees l.arms l.tree-index
