use Rattle.kat_known.proofs.KeptLaws.{normal_keeps_values, normal_keeps_types, reduced_keeps_values, strictly_keeps_values, reduced_keeps_types, strictly_keeps_types}
use Rattle.kat_known.proofs.laws.reducing_keeps.Goals as goal

pub returns-clause-normal_values : goal.returns-clause-normal_values
returns-clause-normal_values c = normal_keeps_values c.normal_forms_keep_values.ensures.values

pub returns-clause-normal_types : goal.returns-clause-normal_types
returns-clause-normal_types c = normal_keeps_types c.normal_forms_keep_types.ensures

pub returns-clause-values : goal.returns-clause-values
returns-clause-values c = reduced_keeps_values c.terms_by_parts.ensures

pub returns-clause-types : goal.returns-clause-types
returns-clause-types c = reduced_keeps_types c.terms_by_parts.ensures

pub returns-clause-strict_values : goal.returns-clause-strict_values
returns-clause-strict_values c = strictly_keeps_values c.terms_by_parts.ensures

pub returns-clause-strict_types : goal.returns-clause-strict_types
returns-clause-strict_types c = strictly_keeps_types c.terms_by_parts.ensures
