use Rattle.kat_norm.proofs.NormKeeps.{kept_by_rules, values_are_kept}
use Rattle.kat_norm.proofs.PutKeeps.{substituted_kept}
use Rattle.kat_norm.proofs.laws.normal_forms_keep_values.Goals as goal

pub returns-clause-rules : goal.returns-clause-rules
returns-clause-rules c = kept_by_rules c.terms_by_parts.ensures

pub returns-clause-pairs : goal.returns-clause-pairs
returns-clause-pairs c = substituted_kept

pub returns-clause-values : goal.returns-clause-values
returns-clause-values c = values_are_kept c.terms_by_parts.ensures c.rule_keeps_value.ensures
