use Rattle.std.proofs.Common.{◌≡◌, ◌∙◌, ◌≤◌, length, slice_get, Some, refl, sym, ap, arith}
use Rattle.std.proofs.lemmas.Option.{slice_get_read}
use Rattle.kat_eval.proofs.Made.{written_nowhere}
use Rattle.kat_eval.proofs.registers.set_register.Goals as goal

pub returns-else-at-registers-clause-set : goal.returns-else-at-registers-clause-set
returns-else-at-registers-clause-set c = λ done.
    let decls = c.args.checked.now.decls in
    let known = c.register_types.result.now in
    let at = c.in-Some.at in
    let found = c.in-Some-get.ensures.lookup in
    let type : slice_get known at ≡ Some c.in-Some-get.ty.now =
    slice_get_read known (length known) at c.in-Some-get.ty.now refl found.3.0 found.1 in
    written_nowhere decls c.args.register.now c.args.value c.args.state.now at c.in-Some-get.ty.now
    c.types.result.now (sym c.in-Some.is ∙ c.register.ensures)
    (sym (ap (λ ts. slice_get ts at) c.register_types.ensures) ∙ type)
    c.types.ensures (sym c.fits.ensures.computed ∙ c.if-not-fits.false)
    (omega (arith, c.if-at-registers.false, ap length c.registers.ensures))
