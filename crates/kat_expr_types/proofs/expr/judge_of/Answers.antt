-- A member of an enum is known by its layer.
use Rattle.std.proofs.Common.{ap, ◌∙◌, ◌+◌}
use Rattle.kat_ast.specs.declared.expr.Expr.TheVariants as expr
use Rattle.kat_ast.specs.declared.expr.Expr.TheOpen.{Of}
use Rattle.kat_ast.specs.declared.expr.Expr.TheViews.{outs-Of}
use Rattle.kat_syntax.specs.TypeRules.{least_with}
use Rattle.kat_syntax.specs.TypingExpressions.{member_fault}
use Rattle.kat_expr_types.proofs.Layers.{told_at}
use Rattle.kat_expr_types.proofs.Arms.{of_told}
use Rattle.kat_expr_types.proofs.expr.judge_of.Goals as goal

pub returns : goal.returns
returns c = λ standing scope.
    let around = c.args.around.now in
    let e = c.args.of.now in
    let a = c.args.member.now in
    told_at around standing scope (expr.Of e a)
    (Of e a) c.args.at c.new.result c.args.faults.now c.judge_member.new.faults (outs-Of e a)
    (of_told around standing scope e a c.args.at c.enum_called-found.result c.is_some.result
    c.new.result
    c.args.faults.now c.judge_type_name.new.faults c.judge_member.new.faults
    c.is_some.ensures c.enum_called-found.ensures c.judge_type_name.ensures
    (c.judge_member.ensures
    ∙ ap (λ m. least_with c.judge_type_name.new.faults
    (member_fault c.enum_called-found.result (c.args.at + 3) m)) c.member.ensures)
    (c.new.ensures ∙ ap (λ t. record { trees = 4; ty = t }) c.type_of_enum.ensures))
