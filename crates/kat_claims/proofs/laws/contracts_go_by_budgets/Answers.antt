use Rattle.kat_claims.proofs.Budgets.{fewer_calls_meet}
use Rattle.kat_claims.proofs.laws.contracts_go_by_budgets.Goals as goal

pub returns : goal.returns
returns c = fewer_calls_meet c.calls_are_spent.ensures.more
