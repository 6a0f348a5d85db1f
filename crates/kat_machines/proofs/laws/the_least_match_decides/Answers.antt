use Rattle.kat_machines.proofs.ByNumber.{decided, undecided}
use Rattle.kat_machines.proofs.laws.the_least_match_decides.Goals as goal

pub returns-clause-decided : goal.returns-clause-decided
returns-clause-decided c = decided

pub returns-clause-undecided : goal.returns-clause-undecided
returns-clause-undecided c = undecided
