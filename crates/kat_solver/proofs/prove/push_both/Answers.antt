use Rattle.std.proofs.Common.{◌∷◌, ap, sym}
use Rattle.kat_solver.proofs.FrameSteps.{pushed_others}
use Rattle.kat_solver.proofs.prove.push_both.Goals as goal

pub returns : goal.returns
returns c =
    pushed_others c.args.frames.now c.push.new.self c.args.settled c.args.sides.first
    (c.args.sides.first ∷ c.args.sides.second ∷ c.args.others)
    c.push_first.new.self (ap (λ rest. c.args.sides.first ∷ rest) (sym c.in_ok-push_first.ensures))
    c.in_ok-push.ensures.ok
