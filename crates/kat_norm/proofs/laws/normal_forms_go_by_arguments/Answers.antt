use Rattle.kat_norm.proofs.NormalParts.{goes_by_arguments}
use Rattle.kat_norm.proofs.laws.normal_forms_go_by_arguments.Goals as goal

pub returns : goal.returns
returns c = goes_by_arguments
