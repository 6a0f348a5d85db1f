use Rattle.kat_syntax.specs.FirstTypeFault.{type_faults}
use Rattle.kat_syntax.proofs.FirstFaults.{first_is_first}
use Rattle.kat_syntax.proofs.laws.first_faults_are_least.Goals as goal

pub returns : goal.returns
returns c = λ spec. first_is_first 0 (type_faults spec)
