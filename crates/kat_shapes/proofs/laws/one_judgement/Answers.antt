use Rattle.kat_shapes.proofs.Judgements.{some_judgement, one_misfit, never_both}
use Rattle.kat_shapes.proofs.laws.one_judgement.Goals as goal

pub returns-clause-some : goal.returns-clause-some
returns-clause-some c = some_judgement

pub returns-clause-one : goal.returns-clause-one
returns-clause-one c = one_misfit

pub returns-clause-never_both : goal.returns-clause-never_both
returns-clause-never_both c = never_both
