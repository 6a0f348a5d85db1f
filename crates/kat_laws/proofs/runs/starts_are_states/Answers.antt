use Rattle.kat_laws.proofs.Starts.{starts_are_states}
use Rattle.kat_laws.proofs.runs.starts_are_states.Goals as goal

pub returns : goal.returns
returns c = starts_are_states c.types_name_earlier_ones.ensures
