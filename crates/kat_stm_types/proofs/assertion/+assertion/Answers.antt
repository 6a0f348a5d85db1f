-- Each form that holds others, by what is counted and noted of its parts.
use Rattle.std.proofs.Common.{◌∷◌, ap, ◌∙◌, subst, arith}
use Rattle.std.proofs.lemmas.List.{drop_all}
use Rattle.kat_ast.specs.declared.assertion.Assertion.TheVariants as assertion
use Rattle.kat_expr_types.specs.Judging.{standing_of}
use Rattle.kat_expr_types.specs.Scopes.{scope_of}
use Rattle.kat_stm_types.specs.Judging.{Counts, judged_here}
use Rattle.kat_stm_types.proofs.Assertions.{StarSoFar, star_done, if_counts, exists_counts}
use Rattle.kat_stm_types.proofs.assertion.+assertion.Goals as goal

pub judge_star-returns : goal.judge_star-returns
judge_star-returns t c =
    let s = c.args.setting.now in
    let items = c.as_slice-part-items.result.now in
    subst (λ parts. Counts (judged_here s (assertion.Star parts)) c.args.at c.loop-part.trees c.args.faults.now c.loop-part.faults)
    c.as_slice-part-items.ensures
    (star_done s c.args.at c.loop-part.trees items c.args.faults.now c.loop-part.faults
    (subst (λ rest. StarSoFar s c.args.at c.loop-part.trees items rest c.args.faults.now c.loop-part.faults)
    (drop_all c.loop-part.part-index items (omega arith)) c.loop-part.invariant))

pub judge_if-returns : goal.judge_if-returns
judge_if-returns t c =
    let s = c.args.setting.now in
    if_counts c.typing_laws.ensures.noting.both s c.args.test.now c.args.then.now c.args.otherwise.now
    c.args.at c.judge_truth-tested.result _ _ c.args.faults.now c.judge_truth-tested.new.faults _ _
    (c.typing_laws.ensures.trees.one s.around.now (standing_of s.standing) (scope_of s.scope.now) c.args.test.now)
    c.judge_truth-tested.ensures.trees c.judge_truth-tested.ensures.faults
    c.judge_assertion-first.ensures.judged c.judge_assertion-second.ensures.judged

pub judge_exists-returns : goal.judge_exists-returns
judge_exists-returns t c =
    exists_counts c.typing_laws.ensures.noting.both c.args.setting.now c.new-within.result
    c.args.name.now c.args.ty.now c.args.body.now c.args.at c.count_type-before.result _
    c.args.faults.now c.judge_hiding.new.faults c.judge_type.new.faults _
    c.count_type-before.ensures c.new-within.ensures.around
    c.new-within.ensures.standing
    (ap scope_of c.new-within.ensures.scope ∙ c.with-inner.ensures
    ∙ ap (λ k. record { name = c.args.name.now; type = k } ∷ scope_of c.args.setting.now.scope.now) c.type_here.ensures)
    c.judge_hiding.ensures c.judge_type.ensures c.judge_assertion.ensures.judged
