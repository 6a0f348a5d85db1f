use Rattle.kat_forms.proofs.Forms.{Region-is}
use Rattle.kat_forms.proofs.declarations.region_in.Goals as goal

pub returns : goal.returns
returns c =
    let parts = c.args.parts.now in
    Region-is parts c.in_ok-name_in.field-0 c.in_ok-params_in.field-0 c.in_ok-name_in-2.field-0 c.in_ok-expr_in.field-0
    (c.form_laws.ensures.four_are parts c.name-item.result c.params-item.result c.index-item.result c.guard-item.result _ _ _ _ c.requires.count
    c.name-item.is c.params-item.is c.index-item.is c.guard-item.is
    c.in_ok-name_in.ensures.0 c.in_ok-params_in.ensures.0 c.in_ok-name_in-2.ensures.0 c.in_ok-expr_in.ensures.0)
    c.in_ok-name_in.ensures.1 c.in_ok-params_in.ensures.1 c.in_ok-name_in-2.ensures.1 c.in_ok-expr_in.ensures.1
