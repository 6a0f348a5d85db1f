use Rattle.kat_claims.proofs.Judged.{machines_are_judged}
use Rattle.kat_claims.proofs.laws.security_says_what_it_should.Goals as goal

pub returns : goal.returns
returns c = machines_are_judged
