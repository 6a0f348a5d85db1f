use Rattle.kat_known.specs.Known.{known_atom}
use Rattle.kat_known.specs.Normal.{norm_in}
use Rattle.kat_known.proofs.ReduceSteps.{StrictSoFar}
use Rattle.kat_known.proofs.reduce.reduced_strictly.Given as goal

abbrev pub invariant-loop-left : goal.invariant-loop-left
invariant-loop-left l =
    StrictSoFar (known_atom l.world.vars (norm_in l.world.vars) l.list)
    (norm_in l.world.vars) l.fn.term l.left l.current

abbrev pub decreases-loop-left : goal.decreases-loop-left
decreases-loop-left l = l.left
