use Rattle.kat_rules.proofs.ValueLaws.{values_of_operations}
use Rattle.kat_rules.proofs.laws.values_of_operations.Goals as goal

pub returns : goal.returns
returns c = values_of_operations
