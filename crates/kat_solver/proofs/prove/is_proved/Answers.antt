use Rattle.std.proofs.Common.{◌∙◌, ◌∷◌, ap, sym}
use Rattle.kat_known.specs.Normal.{norm_in}
use Rattle.kat_solver.specs.Frames.{asked_of}
use Rattle.kat_solver.specs.Prove.{ask}
use Rattle.kat_solver.proofs.FrameSteps.{begins, ends, goes_on, stops}
use Rattle.kat_solver.proofs.prove.is_proved.Goals as goal

pub loop-left-init : goal.loop-left-init
loop-left-init c =
    begins c.args.world.now.vars (norm_in c.args.world.now.vars) c.push_goal.new.frames
    c.args.settled c.args.goal
    (c.in_ok-push_goal.ensures ∙ ap
    (λ frames. ask c.args.settled c.args.goal ∷ asked_of frames) c.new-frames.ensures)

pub returns-then-not-branch : goal.returns-then-not-branch
returns-then-not-branch c =
    sym (stops c.args.world.now.vars
    (norm_in c.args.world.now.vars) c.loop-left.left c.loop-left.splits c.loop-left.frames
    c.pop.new.self c.in-Some.frame
    c.loop-left-test.true c.in-Some.ensures c.in_ok-asked.field-0 c.asked.new.splits
    c.asked.new.frames c.in_ok-asked.ensures c.if-not-branch.true)
    ∙ c.loop-left.invariant

pub loop-left-preserved : goal.loop-left-preserved
loop-left-preserved c =
    sym (goes_on c.args.world.now.vars
    (norm_in c.args.world.now.vars) c.loop-left.left c.loop-left.splits c.loop-left.frames
    c.pop.new.self c.in-Some.frame
    c.loop-left-test.true c.in-Some.ensures c.in_ok-asked.field-0 c.asked.new.splits
    c.asked.new.frames c.in_ok-asked.ensures c.if-not-branch.false)
    ∙ c.loop-left.invariant

pub returns : goal.returns
returns c =
    sym (ends c.args.world.now.vars
    (norm_in c.args.world.now.vars) c.loop-left.left c.loop-left.splits c.loop-left.frames
    c.is_empty.result
    c.loop-left-test.false c.is_empty.ensures.0 c.is_empty.ensures.1)
    ∙ c.loop-left.invariant
