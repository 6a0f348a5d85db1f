use Rattle.std.proofs.Common.{◌≡◌, ◌++◌, drop}
use Rattle.kat_known.specs.Normal.{norm_in}
use Rattle.kat_solver.specs.Add.{staying}
use Rattle.kat_solver.proofs.moving.staying.Given as goal

abbrev pub invariant-loop-member : goal.invariant-loop-member
invariant-loop-member l =
    l.staying ++ staying l.world.vars (norm_in l.world.vars) l.list (drop l.member-index l.list)
    ≡ staying l.world.vars (norm_in l.world.vars) l.list l.list
