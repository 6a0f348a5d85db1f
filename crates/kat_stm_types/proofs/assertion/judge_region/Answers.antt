-- A region is known by its layer.
use Rattle.std.proofs.Common.{◌+◌, map, ap, ◌∙◌, is_some}
use Rattle.kat_ast.specs.declared.assertion.Assertion.TheVariants as assertion
use Rattle.kat_ast.specs.declared.assertion.Assertion.TheOpen.{Region}
use Rattle.kat_ast.specs.declared.assertion.Assertion.TheViews.{outs-Region}
use Rattle.kat_syntax.specs.declared.type_rule.TypeRule.TheVariants.{NameUnknown}
use Rattle.kat_syntax.specs.TypeRules.{least_with, unless}
use Rattle.kat_syntax.specs.Around.{a_region, meant}
use Rattle.kat_syntax.specs.TypingExpressions.{unknown, given_faults}
use Rattle.kat_syntax.specs.TypingStatements.{without_memory}
use Rattle.kat_expr_types.specs.Judging.{standing_of, known_here}
use Rattle.kat_expr_types.specs.Scopes.{scope_of}
use Rattle.kat_stm_types.proofs.Assertions.{counts_at, noted_both}
use Rattle.kat_stm_types.proofs.assertion.judge_region.Goals as goal

pub returns : goal.returns
returns c =
    let s = c.args.setting.now in
    let around = s.around.now in
    let at = c.args.at in
    let g = c.args.region.now in
    let es = c.args.args.now in
    let found = meant a_region around g in
    let both = c.typing_laws.ensures.noting.both in
    counts_at around (standing_of s.standing) (scope_of s.scope.now)
    (assertion.Region g es) (Region g es) at _ _ _ (outs-Region g es)
    (record {
      counted = c.judge_given.ensures.trees;
      noted =
          noted_both both _ _ _ (without_memory around at)
          _ c.judge_memory.ensures
          (noted_both both _ _ _ (unknown (at + 2) found) (given_faults found at (map (known_here s) es))
          (c.judge_known.ensures ∙ ap (λ b. least_with c.judge_memory.new.faults (unless b (at + 2) NameUnknown)) (c.is_some.ensures ∙ ap is_some c.region-found.ensures))
          (c.judge_given.ensures.faults ∙ ap (λ f. least_with c.judge_known.new.faults (given_faults f at (map (known_here s) es))) (c.as_ref.ensures.value ∙ c.region-found.ensures)));
    })
