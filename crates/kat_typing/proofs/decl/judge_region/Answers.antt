-- The faults of a region are noted step by step.
use Rattle.std.proofs.Common.{◌≡◌, ◌+◌, ◌∷◌, [], ap, ◌∙◌, arith}
use Rattle.kat_ast.specs.Types.{trees_of_params}
use Rattle.kat_syntax.specs.TypeRules.{least_with}
use Rattle.kat_syntax.specs.Memories.{index_type}
use Rattle.kat_syntax.specs.TypesWritten.{hiding, param_faults, with_params}
use Rattle.kat_syntax.specs.TypingStatements.{without_memory}
use Rattle.kat_expr_types.specs.declared.setting.Standing.TheVariants.{Plain}
use Rattle.kat_expr_types.specs.Scopes.{scope_of}
use Rattle.kat_typing.proofs.Judging.{noted_both, base_scope, local_in_front, truth_noted}
use Rattle.kat_typing.proofs.decl.judge_region.Goals as goal

pub returns : goal.returns
returns c =
    let around = c.args.around.now in
    let params = c.args.params.now in
    let i = c.args.index.now in
    let outer = with_params around [] params in
    let place : c.count_params-index_at.result ≡ trees_of_params params =
    omega (arith, c.count_params-index_at.ensures, c.requires) in
    let names =
    base_scope _ ∙ c.in_ok-base.ensures.base
    ∙ ap (λ s. with_params around s params) c.in_ok-empty.ensures in
    noted_both c.args.faults.now c.judge_memory.new.faults _
    (without_memory around 0) _ c.judge_memory.ensures
    (noted_both c.judge_memory.new.faults c.judge_params.new.faults _
    (param_faults around [] 4 params) _
    (c.in_ok-base.ensures.faults
    ∙ ap (λ s. least_with c.judge_memory.new.faults
    (param_faults around s 4 params)) c.in_ok-empty.ensures)
    (noted_both c.judge_params.new.faults c.judge_hiding.new.faults _
    (hiding around outer (3 + trees_of_params params) i) _
    (c.judge_hiding.ensures
    ∙ ap (λ s. least_with c.judge_params.new.faults
    (hiding around s (3 + c.count_params-index_at.result) i)) names
    ∙ ap (λ n. least_with c.judge_params.new.faults (hiding around outer (3 + n) i)) place)
    (truth_noted c.plain.result around Plain (record { name = i; type = index_type around } ∷ outer)
    c.plain.ensures.around c.plain.ensures.standing
    (ap scope_of c.plain.ensures.scope
    ∙ local_in_front i _
    (index_type around) _ outer _ c.with-scope.ensures c.index_type.ensures names)
    c.args.guard.now _
    (3 + trees_of_params params + 1) c.judge_hiding.new.faults c.judge_truth.new.faults
    (omega (arith, place)) c.judge_truth.ensures.faults)))
