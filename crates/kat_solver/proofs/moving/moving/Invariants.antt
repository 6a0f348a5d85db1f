use Rattle.std.proofs.Common.{◌≡◌, ◌++◌, drop}
use Rattle.kat_known.specs.Normal.{norm_in}
use Rattle.kat_solver.specs.Add.{moving}
use Rattle.kat_solver.proofs.moving.moving.Given as goal

abbrev pub invariant-loop-member : goal.invariant-loop-member
invariant-loop-member l =
    l.moving ++ moving l.world.vars (norm_in l.world.vars) l.list (drop l.member-index l.list)
    ≡ moving l.world.vars (norm_in l.world.vars) l.list l.list
