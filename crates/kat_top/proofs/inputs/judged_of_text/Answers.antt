use Rattle.kat_top.proofs.Typed.{judged_read, not_judged, not_moded}
use Rattle.kat_top.proofs.inputs.judged_of_text.Goals as goal

pub returns-in-Ok-judge_types-clause-comes : goal.returns-in-Ok-judge_types-clause-comes
returns-in-Ok-judge_types-clause-comes c = λ earlier.
    judged_read earlier c.args.text.now c.in-Ok.spec (c.in-Ok.ensures earlier)
    c.in-Ok-judge_types.ensures

pub returns-in-Err-judge_types-clause-comes : goal.returns-in-Err-judge_types-clause-comes
returns-in-Err-judge_types-clause-comes c = λ earlier.
    not_judged earlier c.args.text.now c.in-Ok.spec c.in-Err-judge_types.error
    (c.in-Ok.ensures earlier) c.in-Err-judge_types.ensures

pub returns-in-Err-clause-comes : goal.returns-in-Err-clause-comes
returns-in-Err-clause-comes c = λ earlier.
    not_moded earlier c.args.text.now c.in-Err.error (c.in-Err.ensures earlier)
