use Rattle.std.proofs.Common.{◌≡◌, ◌∙◌, true, false, Some, sym}
use Rattle.kat_syntax.specs.NamedValues.{type_position}
use Rattle.kat_syntax.specs.TypeTable.{types_of_decls}
use Rattle.kat_eval.proofs.Made.{record_by}
use Rattle.kat_eval.proofs.eval.record_of.Goals as goal

pub returns-then-fits : goal.returns-then-fits
returns-then-fits c =
    let taken : c.fits.result ≡ true = cc in
    let types = types_of_decls c.args.checked.now.decls in
    let found : Some c.in_ok-of.of ≡ type_position types c.args.of.now =
    sym c.in_ok-of.was ∙ c.type_position.ensures in
    record_by types c.types.result.now c.args.of.now c.in_ok-of.of c.args.fields true
    c.types.ensures found (sym taken ∙ c.fits.ensures.computed)

pub returns-else-fits : goal.returns-else-fits
returns-else-fits c =
    let refused : c.fits.result ≡ false = cc in
    let types = types_of_decls c.args.checked.now.decls in
    let found : Some c.in_ok-of.of ≡ type_position types c.args.of.now =
    sym c.in_ok-of.was ∙ c.type_position.ensures in
    record_by types c.types.result.now c.args.of.now c.in_ok-of.of c.args.fields false
    c.types.ensures found (sym refused ∙ c.fits.ensures.computed)
