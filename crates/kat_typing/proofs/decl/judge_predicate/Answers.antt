-- The faults of a predicate are noted step by step.
use Rattle.std.proofs.Common.{◌≡◌, ◌+◌, ◌<◌, ◌^◌, [], ap, sym, subst, ◌∙◌, arith}
use Rattle.kat_ast.specs.Types.{trees_of_params}
use Rattle.kat_ast.specs.Assertions.{trees_of_assertion}
use Rattle.kat_ast.specs.Declarations.{trees_of_decl}
use Rattle.kat_syntax.specs.TypeRules.{least_with}
use Rattle.kat_syntax.specs.TypesWritten.{param_faults, with_params}
use Rattle.kat_syntax.specs.TypingDeclarations.{inner_faults, predicate_faults}
use Rattle.kat_expr_types.specs.declared.setting.Standing.TheVariants.{Plain}
use Rattle.kat_expr_types.specs.Scopes.{scope_of}
use Rattle.kat_typing.proofs.Judging.{noted_both, base_scope, assertion_noted}
use Rattle.kat_typing.proofs.decl.judge_predicate.Goals as goal

pub returns : goal.returns
returns c =
    let around = c.args.around.now in
    let old = c.args.faults.now in
    let inputs = c.as_slice-inputs.result.now in
    let outputs = c.as_slice-outputs.result.now in
    let definition = c.in-Predicate.definition in
    let inner = with_params around [] inputs in
    let small :
    3 + trees_of_params c.in-Predicate.inputs + trees_of_params c.in-Predicate.outputs
    + trees_of_assertion definition < 2 ^ 32 =
    subst (λ d. trees_of_decl d < 2 ^ 32) c.in-Predicate.is c.requires.small in
    let first : c.count_params-outputs_at.result ≡ trees_of_params inputs =
    omega (
      arith,
      c.count_params-outputs_at.ensures,
      small,
      ap trees_of_params c.as_slice-inputs.ensures,
    ) in
    let second : c.count_params.result ≡ trees_of_params outputs =
    omega (
      arith,
      c.count_params.ensures,
      small,
      ap trees_of_params c.as_slice-outputs.ensures,
    ) in
    let inner_is =
    c.in_ok-inner.ensures.base ∙ ap (λ s. with_params around s inputs) c.in_ok-empty.ensures in
    noted_both old c.judge_params.new.faults _ (param_faults around [] 4 inputs) _
    (c.in_ok-inner.ensures.faults
    ∙ ap (λ s. least_with old (param_faults around s 4 inputs)) c.in_ok-empty.ensures)
    (noted_both c.judge_params.new.faults c.judge_params-2.new.faults _
    (param_faults around inner (3 + trees_of_params inputs + 1) outputs) _
    (c.in_ok-base.ensures.faults
    ∙ ap (λ s. least_with c.judge_params.new.faults
    (param_faults around s (3 + c.count_params-outputs_at.result + 1) outputs)) inner_is
    ∙ ap (λ n. least_with c.judge_params.new.faults
    (param_faults around inner (3 + n + 1) outputs)) first)
    (assertion_noted c.plain-setting.result around Plain (with_params around inner outputs)
    c.plain-setting.ensures.around c.plain-setting.ensures.standing
    (ap scope_of c.plain-setting.ensures.scope ∙ base_scope _ ∙ c.in_ok-base.ensures.base
    ∙ ap (λ s. with_params around s outputs) inner_is)
    definition _
    (3 + trees_of_params inputs + trees_of_params outputs) c.judge_params-2.new.faults
    c.judge_assertion.new.faults
    (omega (arith, first, second)) c.judge_assertion.ensures.judged.noted))
    ∙ ap (λ ps. least_with old (predicate_faults around ps outputs definition))
    c.as_slice-inputs.ensures
    ∙ ap (λ ps. least_with old (predicate_faults around c.in-Predicate.inputs ps definition))
    c.as_slice-outputs.ensures
    ∙ sym (ap (λ d. least_with old (inner_faults around d)) c.in-Predicate.is)
