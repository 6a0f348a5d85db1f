use Rattle.std.proofs.Common.{ap}
use Rattle.kat_known.specs.Normal.{norm_in}
use Rattle.kat_solver.specs.Add.{added_from}
use Rattle.kat_solver.proofs.AddSteps.{all_members}
use Rattle.kat_solver.proofs.add.added_from.Goals as goal

pub loop-left-init : goal.loop-left-init
loop-left-init c =
    ap (λ n. added_from c.args.world.now.vars
    (norm_in c.args.world.now.vars) n c.args.start.agenda c.args.start.pairs c.args.start.list)
    all_members
