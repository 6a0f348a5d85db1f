-- The faults of the cases, and then that of a second dispatch.
use Rattle.kat_syntax.specs.TypingDeclarations.{when_faults}
use Rattle.kat_typing.proofs.Judging.{noted_both}
use Rattle.kat_typing.proofs.phases.judge_dispatch.Goals as goal

pub returns : goal.returns
returns c =
    noted_both c.args.faults.now c.judge_whens.new.faults _
    (when_faults c.args.around.now 2 c.args.cases.now c.args.otherwise.now) _
    c.in_ok-judge_whens.ensures c.judge_once.ensures
