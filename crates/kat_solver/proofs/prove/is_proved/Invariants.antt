use Rattle.std.proofs.Common.{◌≡◌}
use Rattle.kat_known.specs.Normal.{norm_in}
use Rattle.kat_solver.specs.Frames.{asked_of}
use Rattle.kat_solver.specs.Prove.{all_proved, is_proved}
use Rattle.kat_solver.proofs.prove.is_proved.Given as goal

abbrev pub invariant-loop-left : goal.invariant-loop-left
invariant-loop-left l =
    all_proved l.world.vars (norm_in l.world.vars) l.left l.splits (asked_of l.frames)
    ≡ is_proved l.world.vars (norm_in l.world.vars) l.fn.settled l.fn.goal

abbrev pub decreases-loop-left : goal.decreases-loop-left
decreases-loop-left l = l.left
