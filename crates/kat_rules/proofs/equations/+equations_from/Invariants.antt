-- What is left of the first list.
use Rattle.std.proofs.Common.{length}
use Rattle.kat_rules.proofs.equations.+equations_from.Given as goal

-- each pair leaves one term fewer
abbrev pub decreases-equations_from : goal.decreases-equations_from
decreases-equations_from l = length l.terms.now
