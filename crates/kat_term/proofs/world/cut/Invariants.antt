use Rattle.std.proofs.Common.{◌≡◌, length, take}
use Rattle.kat_term.proofs.world.cut.Given as goal

abbrev pub invariant-loop-vars : goal.invariant-loop-vars
invariant-loop-vars l = take l.count l.vars ≡ take l.count l.fn.vars

abbrev pub decreases-loop-vars : goal.decreases-loop-vars
decreases-loop-vars l = length l.vars
