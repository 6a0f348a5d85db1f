-- One step of a lemma more.
use Rattle.std.proofs.Common.{◌+◌, drop, sum_by, ap, ◌∙◌, subst, arith}
use Rattle.std.proofs.lemmas.List.Sums.{sum_by-cons}
use Rattle.kat_ast.specs.Statements.{trees_of_stm}
use Rattle.kat_expr_types.specs.Scopes.{scope_of}
use Rattle.kat_typing.proofs.Cases.{rest_is}
use Rattle.kat_typing.proofs.StatementTrees.{stm_trees_known}
use Rattle.kat_typing.proofs.Steps.{StepsSoFar, one_step}
use Rattle.kat_typing.proofs.lemma.judge_steps.Goals as goal

pub overflow_add-next : goal.overflow_add-next
overflow_add-next c =
    let items = c.as_slice-step-items.result.now in
    let step = c.step-item.result in
    omega (
      arith,
      c.requires,
      c.loop-step.invariant.counted,
      ap (sum_by trees_of_stm) c.as_slice-step-items.ensures,
      ap (sum_by trees_of_stm)
          (rest_is items c.loop-step.step-index step (omega arith) c.step-item.is),
      sum_by-cons trees_of_stm step (drop (c.loop-step.step-index + 1) items),
      c.judge_stm-next.ensures.trees
          ∙ stm_trees_known c.args.around.now step (scope_of c.args.scope.now),
    )

pub loop-step-preserved : goal.loop-step-preserved
loop-step-preserved c =
    let items = c.as_slice-step-items.result.now in
    let step = c.step-item.result in
    let scope = scope_of c.args.scope.now in
    one_step c.args.around.now scope c.args.at c.loop-step.next items step
    (drop (c.loop-step.step-index + 1) items)
    c.args.faults.now c.loop-step.faults c.unless.new.self c.judge_stm-next.new.faults
    c.is_proof.result c.judge_stm-next.result
    (subst (λ rest. StepsSoFar c.args.around.now scope c.args.at c.loop-step.next items rest
    c.args.faults.now c.loop-step.faults)
    (rest_is items c.loop-step.step-index step (omega arith) c.step-item.is) c.loop-step.invariant)
    c.is_proof.ensures c.unless.ensures c.judge_stm-next.ensures
