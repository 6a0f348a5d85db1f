use Rattle.kat_value.proofs.OperationTypes.{exact_operations}
use Rattle.kat_value.proofs.laws.operations_are_exact.Goals as goal

pub returns : goal.returns
returns c = exact_operations
