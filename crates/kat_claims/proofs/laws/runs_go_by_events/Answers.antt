use Rattle.kat_claims.proofs.Cuts.{runs_go_by_events}
use Rattle.kat_claims.proofs.laws.runs_go_by_events.Goals as goal

pub returns : goal.returns
returns c = runs_go_by_events c.outside_writes_keep.ensures
