use Rattle.std.proofs.Common.{[], ◌∷◌, ap, sym}
use Rattle.kat_solver.proofs.FrameSteps.{pushed_others}
use Rattle.kat_solver.proofs.frames.push_goal.Goals as goal

pub returns : goal.returns
returns c =
    pushed_others c.args.frames.now c.push.new.self c.args.settled c.args.goal
    (c.args.goal ∷ []) c.new.result
    (ap (λ rest. c.args.goal ∷ rest) (sym c.new.ensures)) c.in_ok-push.ensures.ok
