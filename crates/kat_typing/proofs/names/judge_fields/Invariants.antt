use Rattle.kat_typing.proofs.Fields.{Judged}
use Rattle.kat_typing.proofs.names.judge_fields.Given as goal

abbrev pub invariant-loop-field : goal.invariant-loop-field
invariant-loop-field l =
    Judged l.around l.field-items l.field-index l.at l.names l.initial.faults l.faults
