use Rattle.kat_exec.proofs.Paths.{paths_are_met}
use Rattle.kat_exec.proofs.laws.paths_are_met.Goals as goal

pub returns : goal.returns
returns c = paths_are_met
