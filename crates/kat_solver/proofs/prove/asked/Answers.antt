use Rattle.std.proofs.Common.{◌∙◌, ◌++◌, map, ap, sym}
use Rattle.kat_known.specs.Normal.{norm_in}
use Rattle.kat_solver.specs.Frames.{asked_of}
use Rattle.kat_solver.specs.Prove.{ask, goal_next, next_by, next_of}
use Rattle.kat_solver.proofs.FrameSteps.{next_is, no_next, passes}
use Rattle.kat_solver.proofs.prove.asked.Goals as goal

pub returns-in_default : goal.returns-in_default
returns-in_default c =
    let vars = c.args.world.now.vars in
    no_next c.args.splits.now c.args.frames.now
    (map (ask c.args.frame.settled) c.args.frame.others ++ asked_of c.args.frames.now)
    (next_of vars (norm_in vars) c.args.frame.settled c.args.frame.goal c.args.splits.now)
    (ap (next_by vars (norm_in vars) c.args.frame.settled c.args.splits.now) (sym c.in_default.is)
    ∙ next_is vars (norm_in vars) c.args.frame.settled c.in-Open.pairs c.in-Open.list
    c.as_slice.result.now c.args.frame.goal c.args.splits.now
    c.in_ok-reduced-in-Open.reduced c.in-Open.is c.as_slice.ensures c.in_ok-reduced-in-Open.ensures)

pub returns : goal.returns
returns c =
    let vars = c.args.world.now.vars in
    passes c.goal_next.result c.goal_next.new.splits c.goal_next.new.frames
    (map (ask c.args.frame.settled) c.args.frame.others ++ asked_of c.args.frames.now)
    (goal_next vars (norm_in vars) c.args.frame.settled c.args.splits.now c.in-Some.goal)
    (next_of vars (norm_in vars) c.args.frame.settled c.args.frame.goal c.args.splits.now)
    (ap (next_by vars (norm_in vars) c.args.frame.settled c.args.splits.now) (sym c.in-Some.is)
    ∙ next_is vars (norm_in vars) c.args.frame.settled c.in-Open.pairs c.in-Open.list
    c.as_slice.result.now c.args.frame.goal c.args.splits.now
    c.in_ok-reduced-in-Open.reduced c.in-Open.is c.as_slice.ensures c.in_ok-reduced-in-Open.ensures)
    c.goal_next.ensures
