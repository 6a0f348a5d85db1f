use Rattle.kat_syntax.proofs.KeptStates.{states_stay}
use Rattle.kat_syntax.proofs.laws.states_stay.Goals as goal

pub returns : goal.returns
returns c = states_stay
