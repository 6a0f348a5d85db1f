use Rattle.std.proofs.Common.{◌≡◌}
use Rattle.kat_known.specs.Normal.{norm_in}
use Rattle.kat_solver.specs.Add.{max_members, added_from}
use Rattle.kat_solver.proofs.add.added_from.Given as goal

abbrev pub invariant-loop-left : goal.invariant-loop-left
invariant-loop-left l =
    added_from l.world.vars (norm_in l.world.vars) l.left l.stage.agenda l.stage.pairs l.stage.list
    ≡ added_from l.world.vars (norm_in l.world.vars) max_members l.fn.start.agenda l.fn.start.pairs
    l.fn.start.list

abbrev pub decreases-loop-left : goal.decreases-loop-left
decreases-loop-left l = l.left
