use Rattle.kat_laws.proofs.TextPieces.{beginning_tells_run}
use Rattle.kat_laws.proofs.text.text_tells_its_end.Goals as goal

pub returns : goal.returns
returns c = beginning_tells_run c.equality_is_tested.ensures
