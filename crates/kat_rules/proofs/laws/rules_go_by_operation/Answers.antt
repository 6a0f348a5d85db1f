use Rattle.kat_rules.proofs.ByHead.{goes_by_operation}
use Rattle.kat_rules.proofs.laws.rules_go_by_operation.Goals as goal

pub returns : goal.returns
returns c = goes_by_operation
