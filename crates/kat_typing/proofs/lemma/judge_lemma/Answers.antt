-- The faults of a lemma are noted step by step.
use Rattle.std.proofs.Common.{◌≡◌, ◌+◌, ◌<◌, ◌^◌, [], sum_by, ap, sym, ◌∙◌, subst, arith}
use Rattle.kat_ast.specs.Types.{trees_of_params}
use Rattle.kat_ast.specs.Statements.{trees_of_stm}
use Rattle.kat_ast.specs.Assertions.{trees_of_assertion}
use Rattle.kat_ast.specs.Declarations.{trees_of_decl}
use Rattle.kat_syntax.specs.TypeRules.{least_with}
use Rattle.kat_syntax.specs.TypesWritten.{param_faults, with_params}
use Rattle.kat_syntax.specs.TypingExpressions as typing
use Rattle.kat_syntax.specs.TypingDeclarations.{inner_faults, lemma_faults, assertion_at, proof_step_faults}
use Rattle.kat_expr_types.specs.declared.setting.Standing.TheVariants.{Plain}
use Rattle.kat_expr_types.specs.Scopes.{scope_of}
use Rattle.kat_typing.proofs.Judging.{noted_both, base_scope, assertion_noted}
use Rattle.kat_typing.proofs.lemma.judge_lemma.Goals as goal

pub returns : goal.returns
returns c =
    let around = c.args.around.now in
    let params = c.as_slice-params.result.now in
    let names = c.as_slice-names.result.now in
    let pre = c.in-Lemma.pre in
    let post = c.in-Lemma.post in
    let steps = c.in-Lemma.steps in
    let inner = with_params around [] params in
    let scope = with_params around inner names in
    let old = c.args.faults.now in
    let small :
    9 + trees_of_params c.in-Lemma.params + trees_of_params c.in-Lemma.names
    + trees_of_assertion pre + trees_of_assertion post + sum_by trees_of_stm steps < 2 ^ 32 =
    subst (λ d. trees_of_decl d < 2 ^ 32) c.in-Lemma.is c.requires.small in
    let first : c.count_params-names_at.result ≡ trees_of_params params =
    omega (
      arith,
      c.count_params-names_at.ensures,
      small,
      ap trees_of_params c.as_slice-params.ensures,
    ) in
    let second : c.count_params.result ≡ trees_of_params names =
    omega (arith, c.count_params.ensures, small, ap trees_of_params c.as_slice-names.ensures) in
    let third : c.judge_assertion-pre_trees.result ≡ trees_of_assertion pre =
    c.judge_assertion-pre_trees.ensures.trees in
    let fourth : c.judge_assertion-post_trees.result ≡ trees_of_assertion post =
    c.judge_assertion-post_trees.ensures.trees in
    let inner_is =
    c.in_ok-inner.ensures.base ∙ ap (λ s. with_params around s params) c.in_ok-empty.ensures in
    let names_are =
    base_scope _ ∙ c.in_ok-base.ensures.base ∙ ap (λ s. with_params around s names) inner_is in
    let names_at = 3 + trees_of_params params in
    let pre_at = names_at + trees_of_params names in
    let post_at = pre_at + 2 + trees_of_assertion pre in
    let steps_at =
    3 + c.count_params-names_at.result + c.count_params.result + 2
    + c.judge_assertion-pre_trees.result + 4 + c.judge_assertion-post_trees.result in
    noted_both old c.judge_params.new.faults _ (param_faults around [] 4 params) _
    (c.in_ok-inner.ensures.faults
    ∙ ap (λ s. least_with old (param_faults around s 4 params)) c.in_ok-empty.ensures)
    (noted_both c.judge_params.new.faults c.judge_params-2.new.faults _
    (param_faults around inner (names_at + 1) names) _
    (c.in_ok-base.ensures.faults
    ∙ ap (λ s. least_with c.judge_params.new.faults
    (param_faults around s (3 + c.count_params-names_at.result + 1) names)) inner_is
    ∙ ap (λ n. least_with c.judge_params.new.faults
    (param_faults around inner (3 + n + 1) names)) first)
    (noted_both c.judge_params-2.new.faults c.judge_assertion-pre_trees.new.faults _
    (assertion_at around typing.Plain scope (pre_at + 2) pre) _
    (assertion_noted c.plain-setting.result around Plain scope c.plain-setting.ensures.around
    c.plain-setting.ensures.standing
    (ap scope_of c.plain-setting.ensures.scope ∙ names_are)
    pre _ (pre_at + 2) c.judge_params-2.new.faults c.judge_assertion-pre_trees.new.faults
    (omega (arith, first, second)) c.judge_assertion-pre_trees.ensures.judged.noted)
    (noted_both c.judge_assertion-pre_trees.new.faults c.judge_assertion-post_trees.new.faults _
    (assertion_at around typing.Plain scope (post_at + 2) post) _
    (assertion_noted c.plain-setting.result around Plain scope c.plain-setting.ensures.around
    c.plain-setting.ensures.standing
    (ap scope_of c.plain-setting.ensures.scope ∙ names_are)
    post _ (post_at + 2) c.judge_assertion-pre_trees.new.faults
    c.judge_assertion-post_trees.new.faults (omega (arith, first, second, third))
    c.judge_assertion-post_trees.ensures.judged.noted)
    (c.judge_steps.ensures
    ∙ ap (λ s. least_with c.judge_assertion-post_trees.new.faults
    (proof_step_faults around s steps_at steps)) names_are
    ∙ ap (λ n. least_with c.judge_assertion-post_trees.new.faults
    (proof_step_faults around scope n steps))
    (let e : steps_at ≡ post_at + 4 + trees_of_assertion post =
    omega (arith, first, second, third, fourth) in
    e)))))
    ∙ ap (λ ps. least_with old
    (lemma_faults around ps names pre post steps)) c.as_slice-params.ensures
    ∙ ap (λ ns. least_with old
    (lemma_faults around c.in-Lemma.params ns pre post steps)) c.as_slice-names.ensures
    ∙ sym (ap (λ d. least_with old (inner_faults around d)) c.in-Lemma.is)
