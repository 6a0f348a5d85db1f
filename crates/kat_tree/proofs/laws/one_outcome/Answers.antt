use Rattle.kat_tree.proofs.Outcomes.{something_owed, owed_same}
use Rattle.kat_tree.proofs.laws.one_outcome.Goals as goal

pub returns-clause-some : goal.returns-clause-some
returns-clause-some c = something_owed

pub returns-clause-one : goal.returns-clause-one
returns-clause-one c = owed_same
