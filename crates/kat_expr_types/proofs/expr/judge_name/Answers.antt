-- A name is known by its layer.
use Rattle.kat_ast.specs.declared.expr.Expr.TheVariants as expr
use Rattle.kat_ast.specs.declared.expr.Expr.TheOpen.{Name}
use Rattle.kat_ast.specs.declared.expr.Expr.TheViews.{outs-Name}
use Rattle.kat_expr_types.specs.Judging.{standing_of}
use Rattle.kat_expr_types.specs.Scopes.{scope_of}
use Rattle.kat_expr_types.proofs.Layers.{told_at}
use Rattle.kat_expr_types.proofs.expr.judge_name.Goals as goal

pub returns : goal.returns
returns c =
    let s = c.args.setting.now in
    told_at s.around.now (standing_of s.standing) (scope_of s.scope.now) (expr.Name c.args.name.now)
    (Name c.args.name.now) c.args.at c.new.result _ _ (outs-Name c.args.name.now)
    (record { trees = cc; type = cc; faults = cc })
