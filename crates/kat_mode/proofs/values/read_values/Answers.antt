use Rattle.std.proofs.Common.{◌+◌, arith}
use Rattle.std.proofs.lemmas.Result.{err_from_is_err_and}
use Rattle.kat_syntax.specs.Modes.{read_value, used_in}
use Rattle.kat_mode.proofs.Going.{all_left, step, stop}
use Rattle.kat_mode.proofs.Parts.{values_from, values_split, nothing_valued}
use Rattle.kat_mode.proofs.values.read_values.Goals as goal

pub loop-value-init : goal.loop-value-init
loop-value-init c = all_left (values_from c.args.values.now 0) c.args.unbound.now

pub returns-in_err-read_value : goal.returns-in_err-read_value
returns-in_err-read_value c =
    let values = c.args.values.now in
    let i = c.loop-value.value-index in
    let p = err_from_is_err_and c.from_residual.result c.from_residual.ensures.1 in
    rw (p.1, p.2) (stop (values_from values 0) (values_from values i)
    (read_value (used_in c.value-item.result)) (values_from values (i + 1)) c.args.unbound.now
    c.loop-value.unbound c.read_value.new.unbound c.read_value.new.unbound
    c.in_err-read_value.field-0.0 c.loop-value.invariant
    (values_split values i c.value-item.result (omega arith) c.value-item.is)
    c.in_err-read_value.ensures)

pub loop-value-preserved : goal.loop-value-preserved
loop-value-preserved c =
    let values = c.args.values.now in
    let i = c.loop-value.value-index in
    step (values_from values 0) (values_from values i) (read_value (used_in c.value-item.result))
    (values_from values (i + 1)) c.args.unbound.now c.loop-value.unbound c.read_value.new.unbound
    c.loop-value.invariant
    (values_split values i c.value-item.result (omega arith) c.value-item.is)
    c.in_ok-read_value.ensures

pub returns : goal.returns
returns c =
    nothing_valued c.args.values.now c.loop-value.value-index c.args.unbound.now
    c.loop-value.unbound (omega arith) c.loop-value.invariant
