use Rattle.kat_norm.proofs.Rests.{rests_by_rules, normal_forms_rest}
use Rattle.kat_norm.proofs.laws.normal_forms_rest.Goals as goal

pub returns-clause-rules : goal.returns-clause-rules
returns-clause-rules c = rests_by_rules

pub returns-clause-normal : goal.returns-clause-normal
returns-clause-normal c = normal_forms_rest
