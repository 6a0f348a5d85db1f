use Rattle.std.proofs.lemmas.Result.{err_from_is_err_and}
use Rattle.kat_mode.proofs.Arms.{cell_read, cell_stops}
use Rattle.kat_mode.proofs.assertion.read_cell.Goals as goal

pub returns-in_err-ask_expr : goal.returns-in_err-ask_expr
returns-in_err-ask_expr c =
    let p = err_from_is_err_and c.from_residual.result c.from_residual.ensures.1 in
    rw (p.1, p.2) (λ inputs. cell_stops inputs c.args.unbound.now c.args.unbound.now
    c.args.index.now c.args.value.now c.in_err-ask_expr.field-0.0 c.in_err-ask_expr.ensures)

pub returns : goal.returns
returns c =
    λ inputs. cell_read inputs c.args.unbound.now c.read_value.new.unbound c.args.index.now
    c.args.value.now c.read_value.result c.in_ok-ask_expr.ensures c.read_value.ensures
