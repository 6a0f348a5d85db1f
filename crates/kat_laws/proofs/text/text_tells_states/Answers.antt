use Rattle.kat_laws.proofs.TextPieces.{text_tells_run}
use Rattle.kat_laws.proofs.text.text_tells_states.Goals as goal

pub returns : goal.returns
returns c = text_tells_run c.equality_is_tested.ensures
