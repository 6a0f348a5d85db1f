use Rattle.kat_claims.proofs.Outside.{outside_writes_keep}
use Rattle.kat_claims.proofs.laws.outside_writes_keep.Goals as goal

pub returns : goal.returns
returns c = outside_writes_keep c.what_changes.ensures.outside
