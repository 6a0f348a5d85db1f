-- A pure assertion is known by its layer.
use Rattle.std.proofs.Common.{◌+◌, ap}
use Rattle.kat_ast.specs.declared.assertion.Assertion.TheVariants as assertion
use Rattle.kat_ast.specs.declared.assertion.Assertion.TheOpen.{Pure}
use Rattle.kat_ast.specs.declared.assertion.Assertion.TheViews.{outs-Pure}
use Rattle.kat_expr_types.specs.Judging.{standing_of}
use Rattle.kat_expr_types.specs.Scopes.{scope_of}
use Rattle.kat_stm_types.proofs.Assertions.{counts_at}
use Rattle.kat_stm_types.proofs.assertion.judge_pure.Goals as goal

pub returns : goal.returns
returns c =
    let s = c.args.setting.now in
    counts_at s.around.now (standing_of s.standing) (scope_of s.scope.now)
    (assertion.Pure c.args.test.now) (Pure c.args.test.now) c.args.at _ _ _ (outs-Pure c.args.test.now)
    (record {
      counted = ap (λ n. 2 + n) c.judge_truth.ensures.trees;
      noted = c.judge_truth.ensures.faults;
    })
