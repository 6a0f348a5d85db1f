-- Each form is read as its parts are, and both branches of an `if` from the same names on.
use Rattle.std.proofs.Common.{◌+◌, Ok, Err, ap, sym, subst, ◌∙◌, arith}
use Rattle.std.proofs.lemmas.Result.{err_from_is_err_and}
use Rattle.kat_ast.specs.declared.assertion.Assertion.TheVariants as assertion
use Rattle.kat_syntax.specs.Modes.{inputs_among, reading_of}
use Rattle.kat_mode.specs.Names.{texts}
use Rattle.kat_mode.specs.Turning.{all_bound, bound_among}
use Rattle.kat_mode.specs.Reading.{Follows}
use Rattle.kat_mode.proofs.Arms.{star_read, if_read, exists_read, exists_stops, within_first, within_second, second_stops, branches_read, first_branch_stops}
use Rattle.kat_mode.proofs.Going.{all_left, step, stop}
use Rattle.kat_mode.proofs.Parts.{parts_from, parts_split, no_parts}
use Rattle.kat_mode.proofs.assertion.+assertion.Goals as goal

pub read_assertion-returns-in-Cell : goal.read_assertion-returns-in-Cell
read_assertion-returns-in-Cell t c =
    let inputs = inputs_among c.args.inputs.now in
    subst (λ a. Follows (reading_of inputs a) c.args.unbound.now c.read_cell.new.unbound
    c.read_cell.result)
    (sym c.in-Cell.is) (c.read_cell.ensures inputs)

pub read_assertion-returns-in-Star : goal.read_assertion-returns-in-Star
read_assertion-returns-in-Star t c =
    let inputs = inputs_among c.args.inputs.now in
    subst (λ a. Follows (reading_of inputs a) c.args.unbound.now c.read_star.new.unbound
    c.read_star.result)
    (sym c.in-Star.is) c.read_star.ensures

pub read_assertion-returns-in-If : goal.read_assertion-returns-in-If
read_assertion-returns-in-If t c =
    let inputs = inputs_among c.args.inputs.now in
    subst (λ a. Follows (reading_of inputs a) c.args.unbound.now c.read_if.new.unbound
    c.read_if.result)
    (ap (λ a. assertion.If c.in-If.test a c.get-in-If.result.now) c.get.ensures
    ∙ ap (assertion.If c.in-If.test c.in-If.then) c.get-in-If.ensures ∙ sym c.in-If.is)
    c.read_if.ensures

pub read_assertion-returns-in-Exists : goal.read_assertion-returns-in-Exists
read_assertion-returns-in-Exists t c =
    let inputs = inputs_among c.args.inputs.now in
    subst (λ a. Follows (reading_of inputs a) c.args.unbound.now c.read_exists.new.unbound
    c.read_exists.result)
    (ap (assertion.Exists c.in-Exists.name c.in-Exists.ty) c.get-in-Exists.ensures
    ∙ sym c.in-Exists.is)
    (c.read_exists.ensures c.in-Exists.ty)

pub read_branches-returns-in_err-read_assertion : goal.read_branches-returns-in_err-read_assertion
read_branches-returns-in_err-read_assertion t c =
    let inputs = inputs_among c.args.inputs.now in
    let p = err_from_is_err_and c.from_residual.result c.from_residual.ensures.1 in
    rw (p.1, p.2) (first_branch_stops (reading_of inputs c.args.then.now)
    (reading_of inputs c.args.otherwise.now) c.args.unbound.now c.read_assertion.new.unbound
    c.read_assertion.new.unbound c.in_err-read_assertion.field-0.0 c.in_err-read_assertion.ensures)

pub read_branches-bound_since-requires : goal.read_branches-bound_since-requires
read_branches-bound_since-requires t c =
    let inputs = inputs_among c.args.inputs.now in
    within_first (reading_of inputs c.args.then.now) (reading_of inputs c.args.otherwise.now)
    c.turns-before.result c.args.unbound.now c.read_assertion.new.unbound c.turns-before.ensures
    c.in_ok-read_assertion.ensures

pub read_branches-turn_back-requires : goal.read_branches-turn_back-requires
read_branches-turn_back-requires t c =
    let inputs = inputs_among c.args.inputs.now in
    within_first (reading_of inputs c.args.then.now) (reading_of inputs c.args.otherwise.now)
    c.turns-before.result c.args.unbound.now c.read_assertion.new.unbound c.turns-before.ensures
    c.in_ok-read_assertion.ensures

pub read_branches-returns-in_err-read_assertion-2 :
    goal.read_branches-returns-in_err-read_assertion-2
read_branches-returns-in_err-read_assertion-2 t c =
    let inputs = inputs_among c.args.inputs.now in
    let p = err_from_is_err_and c.from_residual-in_err-read_assertion-2.result
    c.from_residual-in_err-read_assertion-2.ensures.1 in
    rw (p.1, p.2) (second_stops (reading_of inputs c.args.then.now)
    (reading_of inputs c.args.otherwise.now) c.turns-before.result c.args.unbound.now
    c.read_assertion.new.unbound c.turns-before.ensures c.in_ok-read_assertion.ensures
    c.turn_back.new.self c.read_assertion-2.new.unbound c.read_assertion-2.new.unbound
    c.in_err-read_assertion-2.field-0.0 c.turn_back.ensures c.in_err-read_assertion-2.ensures)

pub read_branches-turn_back-requires-2 : goal.read_branches-turn_back-requires-2
read_branches-turn_back-requires-2 t c =
    let inputs = inputs_among c.args.inputs.now in
    within_second (reading_of inputs c.args.then.now) (reading_of inputs c.args.otherwise.now)
    c.turns-before.result c.args.unbound.now c.read_assertion.new.unbound c.turns-before.ensures
    c.in_ok-read_assertion.ensures c.turn_back.new.self c.read_assertion-2.new.unbound
    c.turn_back.ensures c.in_ok-read_assertion-2.ensures

pub read_branches-returns : goal.read_branches-returns
read_branches-returns t c =
    let inputs = inputs_among c.args.inputs.now in
    branches_read (reading_of inputs c.args.then.now) (reading_of inputs c.args.otherwise.now)
    c.turns-before.result c.args.unbound.now c.read_assertion.new.unbound c.turns-before.ensures
    c.in_ok-read_assertion.ensures c.turn_back.new.self c.read_assertion-2.new.unbound
    c.turn_back-2.new.self c.bind_all.new.self (texts c.in_ok-first.first)
    (texts c.in_ok-both.both) c.turn_back.ensures c.in_ok-read_assertion-2.ensures
    c.turn_back-2.ensures c.in_ok-first.ensures
    (c.in_ok-both.ensures
    ∙ ap (λ names. bound_among c.read_assertion-2.new.unbound (texts names)) c.as_slice.ensures)
    (c.in_ok-bind_all.ensures
    ∙ ap (λ names. all_bound c.turn_back-2.new.self (texts names)) c.as_slice-2.ensures)

pub read_exists-returns-in_err-read_assertion : goal.read_exists-returns-in_err-read_assertion
read_exists-returns-in_err-read_assertion t c =
    let inputs = inputs_among c.args.inputs.now in
    let p = err_from_is_err_and c.from_residual-in_err-read_assertion.result
    c.from_residual-in_err-read_assertion.ensures.1 in
    rw (p.1, p.2) (λ ty. exists_stops inputs c.args.unbound.now c.read_assertion.new.unbound
    c.args.name.now ty c.args.body.now c.unbind.new.self c.in_err-read_assertion.field-0.0
    c.in_ok-unbind.ensures c.in_err-read_assertion.ensures)

pub read_exists-returns : goal.read_exists-returns
read_exists-returns t c =
    λ ty. exists_read (inputs_among c.args.inputs.now) c.args.unbound.now
    c.read_assertion.new.unbound c.args.name.now ty c.args.body.now c.unbind.new.self
    c.ask_name.result c.in_ok-unbind.ensures c.in_ok-read_assertion.ensures c.ask_name.ensures

pub read_if-returns : goal.read_if-returns
read_if-returns t c =
    if_read (inputs_among c.args.inputs.now) c.args.unbound.now c.read_branches.new.unbound
    c.args.test.now c.args.then.now c.args.otherwise.now c.read_branches.result
    c.in_ok-ask_expr.ensures c.read_branches.ensures

pub read_star-loop-part-init : goal.read_star-loop-part-init
read_star-loop-part-init t c =
    all_left (parts_from (inputs_among c.args.inputs.now) c.as_slice-part-items.result.now 0)
    c.args.unbound.now

pub read_star-returns-in_err-read_assertion : goal.read_star-returns-in_err-read_assertion
read_star-returns-in_err-read_assertion t c =
    let inputs = inputs_among c.args.inputs.now in
    let parts = c.as_slice-part-items.result.now in
    let i = c.loop-part.part-index in
    let error = c.in_err-read_assertion.field-0.0 in
    let new = c.read_assertion.new.unbound in
    let p = err_from_is_err_and c.from_residual.result c.from_residual.ensures.1 in
    rw (p.1, p.2) (subst
    (λ ps. Follows (reading_of inputs (assertion.Star ps)) c.args.unbound.now new (Err error))
    c.as_slice-part-items.ensures
    (star_read inputs c.args.unbound.now new parts (Err error)
    (stop (parts_from inputs parts 0) (parts_from inputs parts i)
    (reading_of inputs c.part-item.result) (parts_from inputs parts (i + 1)) c.args.unbound.now
    c.loop-part.unbound new new error c.loop-part.invariant
    (parts_split inputs parts i c.part-item.result (omega arith) c.part-item.is)
    c.in_err-read_assertion.ensures)))

pub read_star-loop-part-preserved : goal.read_star-loop-part-preserved
read_star-loop-part-preserved t c =
    let inputs = inputs_among c.args.inputs.now in
    let parts = c.as_slice-part-items.result.now in
    let i = c.loop-part.part-index in
    step (parts_from inputs parts 0) (parts_from inputs parts i)
    (reading_of inputs c.part-item.result) (parts_from inputs parts (i + 1)) c.args.unbound.now
    c.loop-part.unbound c.read_assertion.new.unbound c.loop-part.invariant
    (parts_split inputs parts i c.part-item.result (omega arith) c.part-item.is)
    c.in_ok-read_assertion.ensures

pub read_star-returns : goal.read_star-returns
read_star-returns t c =
    let inputs = inputs_among c.args.inputs.now in
    let parts = c.as_slice-part-items.result.now in
    let now = c.loop-part.unbound in
    subst (λ ps. Follows (reading_of inputs (assertion.Star ps)) c.args.unbound.now now (Ok tt))
    c.as_slice-part-items.ensures
    (star_read inputs c.args.unbound.now now parts (Ok tt)
    (no_parts inputs parts c.loop-part.part-index c.args.unbound.now now (omega arith)
    c.loop-part.invariant))
