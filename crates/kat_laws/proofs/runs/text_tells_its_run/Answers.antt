use Rattle.kat_laws.proofs.RunStates.{text_tells_its_run, beginning_tells_its_run}
use Rattle.kat_laws.proofs.runs.text_tells_its_run.Goals as goal

pub returns-clause-whole : goal.returns-clause-whole
returns-clause-whole c =
    text_tells_its_run c.text_tells_states.ensures c.machines_have_names.ensures
    c.runs_keep_states.ensures

pub returns-clause-beginning : goal.returns-clause-beginning
returns-clause-beginning c =
    beginning_tells_its_run c.text_tells_its_end.ensures c.machines_have_names.ensures
    c.runs_keep_states.ensures
