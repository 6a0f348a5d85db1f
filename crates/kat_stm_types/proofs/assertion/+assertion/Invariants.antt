-- Parts have fewer trees than the whole, and the parts of a star are noted one by one.
use Rattle.std.proofs.Common.{◌+◌, drop, sum_by}
use Rattle.kat_ast.specs.Assertions.{trees_of_assertion}
use Rattle.kat_stm_types.proofs.Assertions.{StarSoFar}
use Rattle.kat_stm_types.proofs.assertion.+assertion.Given as goal

-- each part of an assertion has fewer trees than the whole
abbrev pub decreases-judge_assertion : goal.decreases-judge_assertion
decreases-judge_assertion l = trees_of_assertion l.assertion.now

abbrev pub decreases-judge_star : goal.decreases-judge_star
decreases-judge_star l = 1 + sum_by trees_of_assertion l.parts.now

abbrev pub decreases-judge_if : goal.decreases-judge_if
decreases-judge_if l = 1 + trees_of_assertion l.then.now + trees_of_assertion l.otherwise.now

abbrev pub decreases-judge_exists : goal.decreases-judge_exists
decreases-judge_exists l = 1 + trees_of_assertion l.body.now

-- the parts that are left make the whole
abbrev pub invariant-judge_star-loop-part : goal.invariant-judge_star-loop-part
invariant-judge_star-loop-part l =
    StarSoFar l.setting l.at l.trees l.part-items (drop l.part-index l.part-items) l.initial.faults l.faults
