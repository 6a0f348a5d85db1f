use Rattle.std.proofs.Common.{◌++◌, [], ◌∷◌}
use Rattle.kat_known.specs.Normal.{norm_in}
use Rattle.kat_solver.proofs.AddSteps.{nothing_moves}
use Rattle.kat_solver.proofs.add.appended.Goals as goal

pub returns-then-is_empty : goal.returns-then-is_empty
returns-then-is_empty c =
    nothing_moves c.args.world.now.vars
    (norm_in c.args.world.now.vars) c.args.stage.agenda c.args.stage.pairs
    (c.args.stage.list ++ c.args.formula ∷ [])
    c.push.new.self c.as_slice.result.now c.in_ok-moving.moving c.in_ok-push.ensures.ok
    c.as_slice.ensures c.in_ok-moving.ensures
    (c.is_empty.ensures.0 c.if-is_empty.true)
