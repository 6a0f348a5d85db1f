use Rattle.kat_forms.proofs.Forms.{Fun-is}
use Rattle.kat_forms.proofs.declarations.fun_in.Goals as goal

pub returns : goal.returns
returns c =
    let parts = c.args.parts.now in
    Fun-is parts c.in_ok-name_in.field-0 c.in_ok-params_in.field-0 c.in_ok-type_in.field-0 c.in_ok-stm_in.field-0
    (c.form_laws.ensures.four_are parts c.name-item.result c.params-item.result c.returned-item.result c.body-item.result _ _ _ _ c.requires.count
    c.name-item.is c.params-item.is c.returned-item.is c.body-item.is
    c.in_ok-name_in.ensures.0 c.in_ok-params_in.ensures.0 c.in_ok-type_in.ensures.0 c.in_ok-stm_in.ensures.0)
    c.in_ok-name_in.ensures.1 c.in_ok-params_in.ensures.1 c.in_ok-type_in.ensures.1 c.in_ok-stm_in.ensures.1
