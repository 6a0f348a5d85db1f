use Rattle.kat_laws.proofs.RunStates.{runs_keep}
use Rattle.kat_laws.proofs.runs.runs_keep_states.Goals as goal

pub returns : goal.returns
returns c = runs_keep c.states_stay.ensures c.cycles_fail_at_trees.ensures
