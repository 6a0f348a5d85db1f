use Rattle.std.proofs.Common.{refl, subst, sym, ap, Some}
use Rattle.kat_syntax.specs.Cycle.{progress_at}
use Rattle.kat_syntax.specs.Machine.{Progress}
use Rattle.kat_syntax.specs.Functions.{IsFunctionSeen}
use Rattle.kat_syntax.specs.Tables.{step_function_of}
use Rattle.kat_eval.specs.Cycle.{EndsAs}
use Rattle.kat_eval.proofs.Cycles.{unseen_step, cycle_is}
use Rattle.kat_eval.proofs.StepFunction.{has_step_function}
use Rattle.kat_eval.proofs.one_cycle.cycle.Goals as goal

pub unreachable-requires : goal.unreachable-requires
unreachable-requires c =
    let found = step_function_of c.args.checked.now.decls in
    unseen_step found (has_step_function c.args.checked.now c.spec-spec.ensures.typed)
    (subst (λ seen. IsFunctionSeen seen found) c.in-None.is c.step_function.ensures.found)

pub returns-in-Ok : goal.returns-in-Ok
returns-in-Ok c =
    let spec = c.args.checked.now in
    let found = step_function_of spec.decls in
    subst (EndsAs c.end_of_cycle.result)
    (sym (cycle_is spec c.args.calls c.args.state
    (record { state = c.args.state; left = c.args.calls; stores = c.new.result })
    c.call_function.new.running c.in-Ok.end c.new-values.result c.new-values.ensures refl
    (ap (λ indices. record (progress_at c.args.calls c.args.state) { stores = indices }) c.new.ensures)
    c.in-Some.step c.in-Some.ensures.found
    (c.in-Ok.ensures found c.in-Some.ensures.found)))
    c.end_of_cycle.ensures
