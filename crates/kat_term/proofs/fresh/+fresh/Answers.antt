use Rattle.std.proofs.Common.{arith}
use Rattle.std.proofs.lemmas.Result.{err_from_is_err_and}
use Rattle.kat_term.proofs.FreshSteps.{field_here, fails_on}
use Rattle.kat_term.proofs.fresh.+fresh.Goals as goal

pub fresh_record-returns-in_err-term-clause-fresh :
    goal.fresh_record-returns-in_err-term-clause-fresh
fresh_record-returns-in_err-term-clause-fresh t c =
    let error = err_from_is_err_and c.from_residual.result c.from_residual.ensures.1 in
    let fields = c.args.fields.now in
    let place = c.loop-field.field-index in
    let here = field_here fields c.as_slice-field-items.result.now place c.field-item.result c.as_slice-field-items.ensures (omega arith) c.field-item.is in
    rw (error.1, error.2) (fails_on c.args.types.now c.args.levels fields c.args.vars.now c.loop-field.terms c.loop-field.vars place
    c.loop-field.invariant c.field-item.result here c.args.of c.in_err-term.field-0.0 c.fresh_value.new.vars c.in_err-term.ensures.fresh)
