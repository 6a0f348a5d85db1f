use Rattle.std.proofs.Common.{arith}
use Rattle.std.proofs.lemmas.Result.{err_from_is_err_and}
use Rattle.kat_mode.proofs.Arguments.{args_read, args_stop}
use Rattle.kat_mode.proofs.values.read_args.Goals as goal

pub returns-in_err-ask_exprs : goal.returns-in_err-ask_exprs
returns-in_err-ask_exprs c =
    let p = err_from_is_err_and c.from_residual.result c.from_residual.ensures.1 in
    rw (p.1, p.2) (args_stop c.args.inputs c.min-first.result c.args.args.now c.args.unbound.now
    c.args.unbound.now (omega arith) c.in_err-ask_exprs.field-0.0 c.in_err-ask_exprs.ensures)

pub returns : goal.returns
returns c =
    args_read c.args.inputs c.min-first.result c.args.args.now c.args.unbound.now
    c.read_values.new.unbound (omega arith) c.read_values.result c.in_ok-ask_exprs.ensures
    c.read_values.ensures
