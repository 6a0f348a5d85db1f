use Rattle.std.proofs.Common.{drop}
use Rattle.kat_expr_types.specs.Scopes.{scope_of}
use Rattle.kat_typing.proofs.Steps.{StepsSoFar}
use Rattle.kat_typing.proofs.lemma.judge_steps.Given as goal

-- the steps that are left make the whole
abbrev pub invariant-loop-step : goal.invariant-loop-step
invariant-loop-step l =
    StepsSoFar l.around (scope_of l.scope) l.at l.next l.step-items (drop l.step-index l.step-items)
    l.initial.faults l.faults
