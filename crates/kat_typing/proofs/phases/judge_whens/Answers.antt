-- One case of the dispatch more.
use Rattle.std.proofs.Common.{◌+◌, [], drop, refl, ap, ◌∙◌, subst, arith}
use Rattle.kat_expr_types.specs.declared.setting.Standing.TheVariants.{InDispatch}
use Rattle.kat_expr_types.specs.Scopes.{scope_of}
use Rattle.kat_typing.proofs.Judging.{base_scope, truth_noted}
use Rattle.kat_typing.proofs.Cases.{WhensSoFar, rest_is, one_case}
use Rattle.kat_typing.proofs.phases.judge_whens.Goals as goal

pub loop-case-preserved : goal.loop-case-preserved
loop-case-preserved c =
    let around = c.args.around.now in
    let items = c.as_slice-case-items.result.now in
    let case = c.case-item.result in
    let at = c.loop-case.at in
    one_case around at items case (drop (c.loop-case.case-index + 1) items) c.args.otherwise.now
    c.args.faults.now c.loop-case.faults c.judge_truth-trees.new.faults c.judge_phase-at.new.faults
    c.judge_truth-trees.result c.judge_phase-at.result
    (subst (λ rest. WhensSoFar around at items rest c.args.otherwise.now c.args.faults.now
    c.loop-case.faults)
    (rest_is items c.loop-case.case-index case (omega arith) c.case-item.is) c.loop-case.invariant)
    c.judge_truth-trees.ensures.trees c.judge_phase-at.ensures.trees
    (truth_noted c.new-setting.result around InDispatch [] c.new-setting.ensures.around
    c.new-setting.ensures.standing
    (ap scope_of c.new-setting.ensures.scope ∙ base_scope _ ∙ c.in_ok-base.ensures)
    case.test (at + 2)
    (at + 2) c.loop-case.faults c.judge_truth-trees.new.faults refl
    c.judge_truth-trees.ensures.faults)
    c.judge_phase-at.ensures.faults
