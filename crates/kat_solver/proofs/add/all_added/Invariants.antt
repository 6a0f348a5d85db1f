use Rattle.std.proofs.Common.{◌≡◌, drop}
use Rattle.kat_known.specs.Normal.{norm_in}
use Rattle.kat_solver.specs.Add.{all_added}
use Rattle.kat_solver.proofs.add.all_added.Given as goal

abbrev pub invariant-loop-formula : goal.invariant-loop-formula
invariant-loop-formula l =
    all_added l.world.vars (norm_in l.world.vars) l.settled (drop l.formula-index l.formulas)
    ≡ all_added l.world.vars (norm_in l.world.vars) l.fn.settled l.formulas
