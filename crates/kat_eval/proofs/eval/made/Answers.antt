use Rattle.std.proofs.Common.{◌≡◌, ◌∙◌, Bool, true, false, Option, Some, None, if◌then◌else◌, sym, ap}
use Rattle.kat_value.specs.declared.value.Value.TheVariants.{Made}
use Rattle.kat_syntax.specs.TypeTable.{types_of_decls}
use Rattle.kat_eval.proofs.Made.{made_by}
use Rattle.kat_eval.proofs.eval.made.Goals as goal

pub returns-then-not-takes_payload : goal.returns-then-not-takes_payload
returns-then-not-takes_payload c =
    let refused : c.takes_payload.result ≡ false = cc in
    made_by (types_of_decls c.args.checked.now.decls) c.types.result.now c.args.ctor.now c.args.payload
    c.in-Some.place false c.types.ensures (sym c.in-Some.is ∙ c.ctor.ensures)
    (sym refused ∙ c.takes_payload.ensures)

pub returns : goal.returns
returns c =
    let taken : c.takes_payload.result ≡ true = cc in
    ap (λ v. Some (Made c.in-Some.place.of c.in-Some.place.ctor v)) c.in_ok-new.ensures
    ∙ made_by (types_of_decls c.args.checked.now.decls) c.types.result.now c.args.ctor.now c.args.payload
    c.in-Some.place true c.types.ensures (sym c.in-Some.is ∙ c.ctor.ensures)
    (sym taken ∙ c.takes_payload.ensures)
