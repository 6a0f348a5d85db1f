use Rattle.kat_io.proofs.Writes.{writes_join, gave_up_in_more, gave_up_at_once}
use Rattle.kat_io.proofs.laws.writes_join.Goals as goal

pub returns-clause-join : goal.returns-clause-join
returns-clause-join c = writes_join

pub returns-clause-more : goal.returns-clause-more
returns-clause-more c = gave_up_in_more

pub returns-clause-at_once : goal.returns-clause-at_once
returns-clause-at_once c = gave_up_at_once
