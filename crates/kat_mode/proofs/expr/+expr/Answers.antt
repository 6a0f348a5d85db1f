-- The names of each form are those of its parts, and all names are asked one part after another.
use Rattle.std.proofs.Common.{◌+◌, arith, map, ap, sym, subst, ◌∙◌}
use Rattle.std.proofs.lemmas.Result.{err_from_is_err_and}
use Rattle.kat_ast.specs.declared.expr.Expr.TheOpen.{Apply, Rec}
use Rattle.kat_ast.specs.declared.expr.Expr.TheViews.{out-Expr, outs-Apply, outs-Rec}
use Rattle.kat_syntax.specs.Modes.{names_of_parts, read_names, used_in}
use Rattle.kat_mode.specs.Reading.{Follows}
use Rattle.kat_mode.proofs.Applied.{apply_names}
use Rattle.kat_mode.proofs.Going.{all_left, step, stop}
use Rattle.kat_mode.proofs.Layers.{names_at}
use Rattle.kat_mode.proofs.Nameless.{no_names}
use Rattle.kat_mode.proofs.Parts.{asked_from, asked_splits, nothing_asked}
use Rattle.kat_mode.proofs.expr.+expr.Goals as goal

pub ask_exprs-loop-expr-init : goal.ask_exprs-loop-expr-init
ask_exprs-loop-expr-init t c = all_left (asked_from c.args.exprs.now 0) c.args.unbound.now

pub ask_exprs-returns-in_err-ask_expr : goal.ask_exprs-returns-in_err-ask_expr
ask_exprs-returns-in_err-ask_expr t c =
    let exprs = c.args.exprs.now in
    let i = c.loop-expr.expr-index in
    let turned = c.args.unbound.now in
    let p = err_from_is_err_and c.from_residual.result c.from_residual.ensures.1 in
    rw (p.1, p.2) (stop (asked_from exprs 0) (asked_from exprs i)
    (read_names (used_in c.expr-item.result).names) (asked_from exprs (i + 1))
    turned turned turned turned c.in_err-ask_expr.field-0.0
    c.loop-expr.invariant (asked_splits exprs i c.expr-item.result (omega arith) c.expr-item.is)
    c.in_err-ask_expr.ensures)

pub ask_exprs-loop-expr-preserved : goal.ask_exprs-loop-expr-preserved
ask_exprs-loop-expr-preserved t c =
    let exprs = c.args.exprs.now in
    let i = c.loop-expr.expr-index in
    let turned = c.args.unbound.now in
    step (asked_from exprs 0) (asked_from exprs i)
    (read_names (used_in c.expr-item.result).names) (asked_from exprs (i + 1))
    turned turned turned
    c.loop-expr.invariant (asked_splits exprs i c.expr-item.result (omega arith) c.expr-item.is)
    c.in_ok-ask_expr.ensures

pub ask_exprs-returns : goal.ask_exprs-returns
ask_exprs-returns t c =
    nothing_asked c.args.exprs.now c.loop-expr.expr-index c.args.unbound.now c.args.unbound.now
    (omega arith) c.loop-expr.invariant

pub ask_expr-returns-in-Rec : goal.ask_expr-returns-in-Rec
ask_expr-returns-in-Rec t c =
    let turned = c.args.unbound.now in
    names_at c.args.expr.now (Rec c.in-Rec.of c.in-Rec.fields) turned turned c.ask_exprs.result
    (ap out-Expr c.in-Rec.is ∙ outs-Rec c.in-Rec.of c.in-Rec.fields)
    (subst (λ parts. Follows (read_names (names_of_parts (map used_in parts))) turned turned
    c.ask_exprs.result)
    c.as_slice.ensures c.ask_exprs.ensures)

pub ask_expr-returns-in-Apply : goal.ask_expr-returns-in-Apply
ask_expr-returns-in-Apply t c =
    let turned = c.args.unbound.now in
    let result = c.ask_exprs-in-Apply.result in
    names_at c.args.expr.now (Apply c.in-Apply.op c.in-Apply.args) turned turned result
    (ap out-Expr c.in-Apply.is ∙ outs-Apply c.in-Apply.op c.in-Apply.args)
    (subst (λ names. Follows (read_names names) turned turned result)
    (ap (λ parts. names_of_parts (map used_in parts)) c.as_slice-in-Apply.ensures
    ∙ sym (apply_names c.in-Apply.op (map used_in c.in-Apply.args)))
    c.ask_exprs-in-Apply.ensures)

pub ask_expr-returns-in-Unit : goal.ask_expr-returns-in-Unit
ask_expr-returns-in-Unit t c = no_names c.args.expr.now c.args.unbound.now c.in-Unit.is
