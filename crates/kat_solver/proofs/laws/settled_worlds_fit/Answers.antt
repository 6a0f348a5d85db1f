use Rattle.kat_solver.proofs.AddKeeps.{added_fits, settled_fits}
use Rattle.kat_solver.proofs.laws.settled_worlds_fit.Goals as goal

pub returns-clause-added : goal.returns-clause-added
returns-clause-added c = added_fits c.laws_below.ensures

pub returns-clause-settled : goal.returns-clause-settled
returns-clause-settled c = settled_fits c.laws_below.ensures
