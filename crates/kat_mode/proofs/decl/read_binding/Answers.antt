use Rattle.std.proofs.Common.{[], List, Ok, Err, subst, ap, ◌∙◌}
use Rattle.std.proofs.lemmas.Result.{err_from_is_err_and}
use Rattle.kat_syntax.specs.Tables.{Name}
use Rattle.kat_syntax.specs.Modes.{and_read, inputs_among, leave_all, names_of, reading_of}
use Rattle.kat_mode.specs.Reading.{Follows}
use Rattle.kat_mode.specs.Turning.{all_unbound}
use Rattle.kat_mode.proofs.Going.{both, first_stops}
use Rattle.kat_mode.proofs.Parts.{from_names}
use Rattle.kat_mode.proofs.decl.read_binding.Goals as goal

-- the assertion stops
pub returns-in_err-read_assertion : goal.returns-in_err-read_assertion
returns-in_err-read_assertion c =
    let names = names_of c.args.names.now in
    let reader = reading_of (inputs_among c.args.inputs.now) c.args.assertion.now in
    let new = c.read_assertion.new.unbound in
    let error = c.in_err-read_assertion.field-0.0 in
    let starts = c.in_ok-unbind_all.ensures ∙ ap (λ t. all_unbound t names) c.none-unbound.ensures
    in
    let p = err_from_is_err_and c.from_residual-in_err-read_assertion.result
    c.from_residual-in_err-read_assertion.ensures.1 in
    from_names (λ u. and_read (reader u) (leave_all names)) names new
    c.from_residual-in_err-read_assertion.result
    (rw (p.1, p.2) (first_stops reader (λ u. leave_all names) (all_unbound [] names) new new error
    (subst (λ (old : List Name). Follows reader old new (Err error)) starts
    c.in_err-read_assertion.ensures)))

-- its names are asked for
pub returns : goal.returns
returns c =
    let names = names_of c.args.names.now in
    let reader = reading_of (inputs_among c.args.inputs.now) c.args.assertion.now in
    let new = c.read_assertion.new.unbound in
    let starts = c.in_ok-unbind_all.ensures ∙ ap (λ t. all_unbound t names) c.none-unbound.ensures
    in
    from_names (λ u. and_read (reader u) (leave_all names)) names new c.ask_params.result
    (both reader (leave_all names) (all_unbound [] names) new new c.ask_params.result
    (subst (λ (old : List Name). Follows reader old new (Ok tt)) starts
    c.in_ok-read_assertion.ensures)
    c.ask_params.ensures)
