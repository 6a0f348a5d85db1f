-- The faults of a function are noted step by step.
use Rattle.std.proofs.Common.{◌≡◌, ◌+◌, [], ap, ◌∙◌, arith}
use Rattle.kat_value.specs.Signatures.{agree}
use Rattle.kat_ast.specs.Types.{trees_of_params, trees_of_type}
use Rattle.kat_syntax.specs.declared.type_rule.TypeRule.TheVariants.{BodyOther}
use Rattle.kat_syntax.specs.TypeRules.{least_with, unless}
use Rattle.kat_syntax.specs.TypesWritten.{param_faults, with_params, type_faults_at, type_here}
use Rattle.kat_syntax.specs.TypingStatements.{known_of_stm}
use Rattle.kat_typing.proofs.Judging.{noted_both, base_scope}
use Rattle.kat_typing.proofs.decl.judge_function.Goals as goal

pub returns : goal.returns
returns c =
    let around = c.args.around.now in
    let params = c.args.params.now in
    let type = c.args.ty.now in
    let body = c.args.body.now in
    let scope = with_params around [] params in
    let at = 3 + trees_of_params params + trees_of_type type in
    let place : c.count_params-type_at.result ≡ trees_of_params params =
    omega (arith, c.count_params-type_at.ensures, c.requires) in
    let names =
    base_scope _ ∙ c.in_ok-base.ensures.base
    ∙ ap (λ s. with_params around s params) c.in_ok-empty.ensures in
    let behind =
    ap (λ n. 3 + n + c.count_type.result) place
    ∙ ap (λ n. 3 + trees_of_params params + n) c.count_type.ensures in
    noted_both c.args.faults.now c.judge_params.new.faults _ (param_faults around [] 4 params) _
    (c.in_ok-base.ensures.faults
    ∙ ap (λ s. least_with c.args.faults.now (param_faults around s 4 params)) c.in_ok-empty.ensures)
    (noted_both c.judge_params.new.faults c.judge_type.new.faults _
    (type_faults_at around (3 + trees_of_params params) type) _
    (c.judge_type.ensures
    ∙ ap (λ n. least_with c.judge_params.new.faults (type_faults_at around (3 + n) type)) place)
    (noted_both c.judge_type.new.faults c.judge_stm-known.new.faults _
    ((known_of_stm around body scope).faults at) _
    (c.judge_stm-known.ensures.faults
    ∙ ap (λ s. least_with c.judge_type.new.faults
    ((known_of_stm around body s).faults
    (3 + c.count_params-type_at.result + c.count_type.result))) names
    ∙ ap (λ n. least_with c.judge_type.new.faults
    ((known_of_stm around body scope).faults n)) behind)
    (c.unless.ensures
    ∙ ap (λ b. least_with c.judge_stm-known.new.faults
    (unless b (3 + c.count_params-type_at.result + c.count_type.result) BodyOther))
    (c.agree-is_of_type.ensures
    ∙ ap (λ k. agree k c.judge_stm-known.result.ty) c.type_here.ensures
    ∙ ap (agree (type_here around type))
    (c.judge_stm-known.ensures.type ∙ ap (λ s. (known_of_stm around body s).type) names))
    ∙ ap (λ n. least_with c.judge_stm-known.new.faults
    (unless (agree (type_here around type)
    (known_of_stm around body scope).type) n BodyOther)) behind)))
