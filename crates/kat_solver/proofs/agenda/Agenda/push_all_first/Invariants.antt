use Rattle.std.proofs.Common.{◌≡◌, ◌++◌, length, reverse}
use Rattle.kat_solver.proofs.agenda.Agenda.push_all_first.Given as goal

abbrev pub invariant-loop-term : goal.invariant-loop-term
invariant-loop-term l = l.left ++ reverse l.self-inside.reversed ≡ l.fn.terms ++ l.fn.self

abbrev pub decreases-loop-term : goal.decreases-loop-term
decreases-loop-term l = length l.left
