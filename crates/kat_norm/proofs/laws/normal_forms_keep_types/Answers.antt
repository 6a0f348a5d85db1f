use Rattle.kat_norm.proofs.TypesKept.{types_are_kept}
use Rattle.kat_norm.proofs.laws.normal_forms_keep_types.Goals as goal

pub returns : goal.returns
returns c =
    types_are_kept c.terms_by_parts.ensures c.rule_keeps_value.ensures c.types_are_values.ensures
    c.worlds_grow.ensures.valuations
