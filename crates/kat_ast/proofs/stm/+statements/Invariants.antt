use Rattle.std.proofs.Common.{◌≡◌, ◌<◌, ◌^◌, ◌+◌, drop}
use Rattle.kat_ast.specs.Parts.{capped_count}
use Rattle.kat_ast.specs.Statements.{trees_of_stms, trees_of_case_arms, trees_of_match_arms}
use Rattle.kat_ast.proofs.stm.+statements.Given as goal

abbrev pub invariant-count_stms-loop-stm : goal.invariant-count_stms-loop-stm
invariant-count_stms-loop-stm l = (capped_count (l.total + trees_of_stms (drop l.stm-index l.stms)) ≡ capped_count (trees_of_stms l.stms)) × (l.total < 2 ^ 32)

abbrev pub invariant-count_case_arms-loop-arm : goal.invariant-count_case_arms-loop-arm
invariant-count_case_arms-loop-arm l = (capped_count (l.total + trees_of_case_arms (drop l.arm-index l.arms)) ≡ capped_count (trees_of_case_arms l.arms)) × (l.total < 2 ^ 32)

abbrev pub invariant-count_match_arms-loop-arm : goal.invariant-count_match_arms-loop-arm
invariant-count_match_arms-loop-arm l = (capped_count (l.total + trees_of_match_arms (drop l.arm-index l.arms)) ≡ capped_count (trees_of_match_arms l.arms)) × (l.total < 2 ^ 32)
