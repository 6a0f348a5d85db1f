use Rattle.std.proofs.Common.{◌≡◌, drop}
use Rattle.kat_eval.specs.Arms.{case_from}
use Rattle.kat_eval.proofs.arms.case_arm.Given as goal

-- the first arm is not among those before
abbrev pub invariant-loop-at : goal.invariant-loop-at
invariant-loop-at l = case_from l.at (drop l.at l.arms) l.member ≡ case_from 0 l.arms l.member
