use Rattle.kat_solver.proofs.ProveSound.{left_means}
use Rattle.kat_solver.proofs.laws.answers_mean.Goals as goal

pub returns : goal.returns
returns c = λ types world v fits goal.
    left_means c.laws_below.ensures types world.vars v fits.valued world.formulas goal fits.truths
