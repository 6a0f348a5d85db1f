use Rattle.kat_syntax.proofs.FailurePlaces.{stuck_cycles_fail_at_a_declaration}
use Rattle.kat_syntax.proofs.laws.stuck_cycles_fail.Goals as goal

pub returns : goal.returns
returns c = stuck_cycles_fail_at_a_declaration
