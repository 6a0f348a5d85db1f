use Rattle.kat_claims.proofs.Holders.{holders_are_fragments}
use Rattle.kat_claims.proofs.laws.holders_have_places.Goals as goal

pub returns : goal.returns
returns c = holders_are_fragments
