use Rattle.kat_syntax.proofs.MoreCalls.{more_calls_change_no_outcome}
use Rattle.kat_syntax.proofs.SpentCalls.{left_never_rises}
use Rattle.kat_syntax.proofs.laws.calls_are_spent.Goals as goal

pub returns-clause-left : goal.returns-clause-left
returns-clause-left c = left_never_rises

pub returns-clause-more : goal.returns-clause-more
returns-clause-more c = more_calls_change_no_outcome
