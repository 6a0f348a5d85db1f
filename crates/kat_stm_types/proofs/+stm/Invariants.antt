-- Each part of a statement has fewer trees than the whole, and parts are noted one by one.
use Rattle.std.proofs.Common.{◌+◌, ◌*◌, drop}
use Rattle.kat_ast.specs.Statements.{trees_of_stm, trees_of_stms, trees_of_case_arms, trees_of_match_arms}
use Rattle.kat_expr_types.specs.Scopes.{scope_of}
use Rattle.kat_stm_types.proofs.Bodies.{SeqSoFar}
use Rattle.kat_stm_types.proofs.ArmsSeen.{ArmsSoFar, case_faults, case_types, match_faults, match_types}
use Rattle.kat_stm_types.proofs.+stm.Given as goal

abbrev pub decreases-stm::judge_stm : goal.decreases-stm::judge_stm
decreases-stm::judge_stm l = 4 * trees_of_stm l.stm.now

abbrev pub decreases-stm::judge_let : goal.decreases-stm::judge_let
decreases-stm::judge_let l = 4 * (trees_of_stm l.first.now + trees_of_stm l.then.now) + 2

abbrev pub decreases-stm::judge_seq : goal.decreases-stm::judge_seq
decreases-stm::judge_seq l = 4 * trees_of_stms l.parts.now + 2

abbrev pub decreases-stm::judge_if : goal.decreases-stm::judge_if
decreases-stm::judge_if l = 4 * (trees_of_stm l.then.now + trees_of_stm l.otherwise.now) + 2

abbrev pub decreases-arms::judge_case : goal.decreases-arms::judge_case
decreases-arms::judge_case l = 4 * trees_of_case_arms l.arms.now + 3

abbrev pub decreases-arms::judge_case_arms : goal.decreases-arms::judge_case_arms
decreases-arms::judge_case_arms l = 4 * trees_of_case_arms l.arms.now + 2

abbrev pub decreases-arms::judge_match : goal.decreases-arms::judge_match
decreases-arms::judge_match l = 4 * trees_of_match_arms l.arms.now + 3

abbrev pub decreases-arms::judge_match_arms : goal.decreases-arms::judge_match_arms
decreases-arms::judge_match_arms l = 4 * trees_of_match_arms l.arms.now + 2

abbrev pub decreases-arms::judge_match_arm : goal.decreases-arms::judge_match_arm
decreases-arms::judge_match_arm l = 4 * trees_of_stm l.arm.now.body + 1

-- the parts that are left make the whole
abbrev pub invariant-stm::judge_seq-loop-part : goal.invariant-stm::judge_seq-loop-part
invariant-stm::judge_seq-loop-part l =
    SeqSoFar l.around (scope_of l.scope) l.at l.part-items (drop l.part-index l.part-items) l.known
    l.initial.faults l.faults

-- the arms that are left make the whole
abbrev pub invariant-arms::judge_case_arms-loop-arm : goal.invariant-arms::judge_case_arms-loop-arm
invariant-arms::judge_case_arms-loop-arm l =
    ArmsSoFar (case_faults l.around (scope_of l.scope)) (case_types l.around (scope_of l.scope))
    trees_of_case_arms
    l.at l.arm-items (drop l.arm-index l.arm-items) l.branches l.initial.faults l.faults

abbrev pub invariant-arms::judge_match_arms-loop-arm :
    goal.invariant-arms::judge_match_arms-loop-arm
invariant-arms::judge_match_arms-loop-arm l =
    ArmsSoFar (match_faults l.around (scope_of l.scope)) (match_types l.around (scope_of l.scope))
    trees_of_match_arms
    l.at l.arm-items (drop l.arm-index l.arm-items) l.branches l.initial.faults l.faults
