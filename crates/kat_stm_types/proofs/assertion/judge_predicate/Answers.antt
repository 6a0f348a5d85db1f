-- A predicate is known by its layer.
use Rattle.std.proofs.Common.{map, ap, sym, ◌∙◌, Some}
use Rattle.kat_ast.specs.declared.assertion.Assertion.TheVariants as assertion
use Rattle.kat_ast.specs.declared.assertion.Assertion.TheOpen.{Predicate}
use Rattle.kat_ast.specs.declared.assertion.Assertion.TheViews.{outs-Predicate}
use Rattle.std.specs.Option.{option_map}
use Rattle.kat_syntax.specs.TypeRules.{least_with}
use Rattle.kat_syntax.specs.TypingAssertions.{inputs_and_outputs}
use Rattle.kat_stm_types.specs.Uses.{use_faults}
use Rattle.kat_expr_types.specs.Judging.{standing_of, known_here}
use Rattle.kat_expr_types.specs.Scopes.{scope_of}
use Rattle.kat_stm_types.proofs.Assertions.{counts_at}
use Rattle.kat_stm_types.proofs.assertion.judge_predicate.Goals as goal

pub returns-in-Some : goal.returns-in-Some
returns-in-Some c =
    let s = c.args.setting.now in
    let around = s.around.now in
    let at = c.args.at in
    let p = c.args.predicate.now in
    let es = c.args.args.now in
    counts_at s.around.now (standing_of s.standing) (scope_of s.scope.now)
    (assertion.Predicate p es) (Predicate p es) c.args.at _ _ _ (outs-Predicate p es)
    (record {
      counted = c.judge_use.ensures.trees;
      noted =
          c.judge_use.ensures.faults
          ∙ ap (λ w. least_with c.args.faults.now (use_faults around (Some c.in-Some.seen) (Some w) at (map (known_here s) es)))
          c.inputs_and_outputs-wanted.ensures
          ∙ ap (λ f. least_with c.args.faults.now (use_faults around f (option_map inputs_and_outputs f) at (map (known_here s) es)))
          (sym c.in-Some.is ∙ c.predicate.ensures);
    })

pub returns-in-None : goal.returns-in-None
returns-in-None c =
    let s = c.args.setting.now in
    let around = s.around.now in
    let at = c.args.at in
    let p = c.args.predicate.now in
    let es = c.args.args.now in
    counts_at s.around.now (standing_of s.standing) (scope_of s.scope.now)
    (assertion.Predicate p es) (Predicate p es) c.args.at _ _ _ (outs-Predicate p es)
    (record {
      counted = c.judge_use-in-None.ensures.trees;
      noted =
          c.judge_use-in-None.ensures.faults
          ∙ ap (λ f. least_with c.args.faults.now (use_faults around f (option_map inputs_and_outputs f) at (map (known_here s) es)))
          (sym c.in-None.is ∙ c.predicate.ensures);
    })
