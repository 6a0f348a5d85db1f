use Rattle.kat_solver.proofs.Owed.{solver_laws}
use Rattle.kat_solver.proofs.laws.solver_laws.Goals as goal

pub returns : goal.returns
returns c = solver_laws c.laws_below.ensures
