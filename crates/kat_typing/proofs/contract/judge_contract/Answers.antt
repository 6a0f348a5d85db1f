-- The faults of a contract are noted step by step.
use Rattle.std.proofs.Common.{◌≡◌, ◌+◌, ◌<◌, ◌^◌, ◌∷◌, ◌&&◌, not, is_some, ap, sym, ◌∙◌, subst, arith}
use Rattle.kat_ast.specs.Types.{trees_of_params}
use Rattle.kat_ast.specs.Assertions.{trees_of_assertion}
use Rattle.kat_ast.specs.Declarations.{trees_of_decl}
use Rattle.kat_syntax.specs.declared.type_rule.TypeRule.TheVariants.{NameUnknown, ContractTwice}
use Rattle.kat_syntax.specs.TypeRules.{least_with, unless}
use Rattle.kat_syntax.specs.Around.{a_function, meant}
use Rattle.kat_syntax.specs.TypesWritten.{hiding, param_faults, with_params}
use Rattle.kat_syntax.specs.TypingExpressions as typing
use Rattle.kat_syntax.specs.TypingExpressions.{unknown}
use Rattle.kat_syntax.specs.TypingDeclarations.{inner_faults, contract_faults, assertion_at, is_contract, is_second, params_seen, result_seen}
use Rattle.kat_expr_types.specs.declared.setting.Standing.TheVariants.{Plain}
use Rattle.kat_expr_types.specs.Scopes.{scope_of}
use Rattle.kat_typing.proofs.Judging.{noted_both, base_scope, local_in_front, assertion_noted}
use Rattle.kat_typing.proofs.contract.judge_contract.Goals as goal

pub returns : goal.returns
returns c =
    let around = c.args.around.now in
    let f = c.in-Contract.function in
    let names = c.as_slice-names.result.now in
    let pre = c.in-Contract.pre in
    let x = c.in-Contract.value in
    let post = c.in-Contract.post in
    let seen = meant a_function around f in
    let scope = with_params around (params_seen seen) names in
    let old = c.args.faults.now in
    let small :
    10 + trees_of_params c.in-Contract.names + trees_of_assertion pre
    + trees_of_assertion post < 2 ^ 32 =
    subst (λ d. trees_of_decl d < 2 ^ 32) c.in-Contract.is c.requires.small in
    let place : c.count_params-pre_at.result ≡ trees_of_params names =
    omega (
      arith,
      c.count_params-pre_at.ensures,
      small,
      ap trees_of_params c.as_slice-names.ensures,
    ) in
    let counted : c.judge_assertion-pre_trees.result ≡ trees_of_assertion pre =
    c.judge_assertion-pre_trees.ensures.trees in
    let params_are =
    c.in_ok-params_seen.ensures
    ∙ ap params_seen (c.as_ref.ensures.value ∙ c.function-seen.ensures) in
    let names_are =
    base_scope _ ∙ c.in_ok-base.ensures.base
    ∙ ap (λ s. with_params around s names) params_are in
    let pre_at = 3 + trees_of_params names in
    let res_at = pre_at + 2 + trees_of_assertion pre in
    noted_both old c.judge_known.new.faults _ (unknown 2 seen) _
    (c.judge_known.ensures
    ∙ ap (λ b. least_with old (unless b 2 NameUnknown))
    (c.is_some.ensures ∙ ap is_some c.function-seen.ensures))
    (noted_both c.judge_known.new.faults c.judge_second.new.faults _
    (unless (not (is_some seen && is_second (is_contract f) around)) 0 ContractTwice) _
    (c.judge_second.ensures
    ∙ ap (λ b. least_with c.judge_known.new.faults
    (unless (not (b && is_second (is_contract f) around)) 0 ContractTwice))
    (c.is_some-2.ensures ∙ ap is_some c.function-seen.ensures))
    (noted_both c.judge_second.new.faults c.judge_params.new.faults _
    (param_faults around (params_seen seen) 4 names) _
    (c.in_ok-base.ensures.faults
    ∙ ap (λ s. least_with c.judge_second.new.faults (param_faults around s 4 names)) params_are)
    (noted_both c.judge_params.new.faults c.judge_assertion-pre_trees.new.faults _
    (assertion_at around typing.Plain scope (pre_at + 2) pre) _
    (assertion_noted c.plain.result around Plain scope c.plain.ensures.around
    c.plain.ensures.standing
    (ap scope_of c.plain.ensures.scope ∙ names_are)
    pre _ (pre_at + 2) c.judge_params.new.faults c.judge_assertion-pre_trees.new.faults
    (omega (arith, place)) c.judge_assertion-pre_trees.ensures.judged.noted)
    (noted_both c.judge_assertion-pre_trees.new.faults c.judge_hiding.new.faults _
    (hiding around scope (res_at + 2) x) _
    (c.judge_hiding.ensures
    ∙ ap (λ s. least_with c.judge_assertion-pre_trees.new.faults
    (hiding around s
    (3 + c.count_params-pre_at.result + 2 + c.judge_assertion-pre_trees.result + 2) x)) names_are
    ∙ ap (λ n. least_with c.judge_assertion-pre_trees.new.faults (hiding around scope n x))
    (let e : 3 + c.count_params-pre_at.result + 2 + c.judge_assertion-pre_trees.result + 2
    ≡ res_at + 2 = omega (arith, place, counted) in e))
    (assertion_noted c.plain-2.result around Plain
    (record { name = x; type = result_seen seen } ∷ scope)
    c.plain-2.ensures.around c.plain-2.ensures.standing
    (ap scope_of c.plain-2.ensures.scope
    ∙ local_in_front x _ (result_seen seen) _ scope _ c.with-inner.ensures
    (c.result_seen.ensures
    ∙ ap result_seen (c.as_ref-2.ensures.value ∙ c.function-seen.ensures)) names_are)
    post _ (res_at + 5) c.judge_hiding.new.faults c.judge_assertion.new.faults
    (omega (arith, place, counted)) c.judge_assertion.ensures.judged.noted)))))
    ∙ ap (λ ns. least_with old (contract_faults around f ns pre x post)) c.as_slice-names.ensures
    ∙ sym (ap (λ d. least_with old (inner_faults around d)) c.in-Contract.is)
