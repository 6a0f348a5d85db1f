use Rattle.kat_claims.proofs.Joins.{joins_are_unions}
use Rattle.kat_claims.proofs.laws.fragments_join.Goals as goal

pub returns : goal.returns
returns c = joins_are_unions
