-- A register that points to a value is known by its layer.
use Rattle.kat_ast.specs.declared.assertion.Assertion.TheVariants as assertion
use Rattle.kat_ast.specs.declared.assertion.Assertion.TheOpen.{Register}
use Rattle.kat_ast.specs.declared.assertion.Assertion.TheViews.{outs-Register}
use Rattle.kat_expr_types.specs.Judging.{standing_of}
use Rattle.kat_expr_types.specs.Scopes.{scope_of}
use Rattle.kat_stm_types.proofs.Assertions.{counts_at}
use Rattle.kat_stm_types.proofs.assertion.judge_points_to.Goals as goal

pub returns : goal.returns
returns c =
    let s = c.args.setting.now in
    let r = c.args.register.now in
    let e = c.args.value.now in
    counts_at s.around.now (standing_of s.standing) (scope_of s.scope.now)
    (assertion.Register r e) (Register r e) c.args.at _ _ _ (outs-Register r e)
    (record {
      counted = c.judge_register_value.ensures.trees;
      noted = c.judge_register_value.ensures.faults;
    })
