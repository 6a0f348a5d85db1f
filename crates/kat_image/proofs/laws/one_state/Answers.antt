use Rattle.kat_image.proofs.Settings.{one_state}
use Rattle.kat_image.proofs.laws.one_state.Goals as goal

pub returns : goal.returns
returns c = one_state
