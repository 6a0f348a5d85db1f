use Rattle.std.proofs.Common.{◌≡◌, drop}
use Rattle.kat_eval.specs.Arms.{match_from}
use Rattle.kat_eval.proofs.arms.match_arm.Given as goal

-- the first arm is not among those before
abbrev pub invariant-loop-at : goal.invariant-loop-at
invariant-loop-at l = match_from l.at (drop l.at l.arms) l.ctor ≡ match_from 0 l.arms l.ctor
