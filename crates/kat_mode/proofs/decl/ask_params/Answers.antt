use Rattle.std.proofs.Common.{◌+◌, arith}
use Rattle.std.proofs.lemmas.Result.{err_from_is_err_and}
use Rattle.kat_syntax.specs.Modes.{leave}
use Rattle.kat_mode.proofs.Going.{all_left, step, stop}
use Rattle.kat_mode.proofs.Parts.{left_from, left_split, none_left}
use Rattle.kat_mode.proofs.decl.ask_params.Goals as goal

pub loop-param-init : goal.loop-param-init
loop-param-init c = all_left (left_from c.args.params.now 0) c.args.unbound.now

pub returns-in_err-ask_name : goal.returns-in_err-ask_name
returns-in_err-ask_name c =
    let params = c.args.params.now in
    let i = c.loop-param.param-index in
    let turned = c.args.unbound.now in
    let p = err_from_is_err_and c.from_residual.result c.from_residual.ensures.1 in
    rw (p.1, p.2) (stop (left_from params 0) (left_from params i) (leave c.param-item.result.name)
    (left_from params (i + 1)) turned turned turned turned c.in_err-ask_name.field-0.0
    c.loop-param.invariant (left_split params i c.param-item.result (omega arith) c.param-item.is)
    c.in_err-ask_name.ensures)

pub loop-param-preserved : goal.loop-param-preserved
loop-param-preserved c =
    let params = c.args.params.now in
    let i = c.loop-param.param-index in
    let turned = c.args.unbound.now in
    step (left_from params 0) (left_from params i) (leave c.param-item.result.name)
    (left_from params (i + 1)) turned turned turned
    c.loop-param.invariant (left_split params i c.param-item.result (omega arith) c.param-item.is)
    c.in_ok-ask_name.ensures

pub returns : goal.returns
returns c =
    none_left c.args.params.now c.loop-param.param-index c.args.unbound.now c.args.unbound.now
    (omega arith) c.loop-param.invariant
