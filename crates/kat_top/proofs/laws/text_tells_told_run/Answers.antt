use Rattle.kat_top.proofs.ToldRuns.{text_tells, beginning_tells}
use Rattle.kat_top.proofs.laws.text_tells_told_run.Goals as goal

pub returns-clause-whole : goal.returns-clause-whole
returns-clause-whole c = text_tells c.images_are_states.ensures c.text_tells_its_run.ensures.whole

pub returns-clause-beginning : goal.returns-clause-beginning
returns-clause-beginning c = beginning_tells c.images_are_states.ensures c.text_tells_its_run.ensures.beginning
