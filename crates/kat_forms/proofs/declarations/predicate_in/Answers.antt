use Rattle.kat_forms.proofs.Forms.{Predicate-is}
use Rattle.kat_forms.proofs.declarations.predicate_in.Goals as goal

pub returns : goal.returns
returns c =
    let parts = c.args.parts.now in
    Predicate-is parts c.in_ok-name_in.field-0 c.in_ok-params_in.field-0 c.in_ok-params_in-2.field-0 c.in_ok-assertion_in.field-0
    (c.form_laws.ensures.four_are parts c.name-item.result c.inputs-item.result c.outputs-item.result c.definition-item.result _ _ _ _ c.requires.count
    c.name-item.is c.inputs-item.is c.outputs-item.is c.definition-item.is
    c.in_ok-name_in.ensures.0 c.in_ok-params_in.ensures.0 c.in_ok-params_in-2.ensures.0 c.in_ok-assertion_in.ensures.0)
    c.in_ok-name_in.ensures.1 c.in_ok-params_in.ensures.1 c.in_ok-params_in-2.ensures.1 c.in_ok-assertion_in.ensures.1
