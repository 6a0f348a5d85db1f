use Rattle.std.proofs.Common.{drop}
use Rattle.kat_typing.proofs.Cases.{WhensSoFar}
use Rattle.kat_typing.proofs.phases.judge_whens.Given as goal

-- the cases that are left make the whole
abbrev pub invariant-loop-case : goal.invariant-loop-case
invariant-loop-case l =
    WhensSoFar l.around l.at l.case-items
    (drop l.case-index l.case-items) l.otherwise l.initial.faults l.faults
