use Rattle.std.proofs.Common.{◌≡◌, drop}
use Rattle.kat_solver.specs.Add.{is_or}
use Rattle.kat_solver.specs.Prove.{first_of_list}
use Rattle.kat_solver.proofs.search.first_or.Given as goal

abbrev pub invariant-loop-term : goal.invariant-loop-term
invariant-loop-term l = first_of_list is_or (drop l.term-index l.list) ≡ first_of_list is_or l.list
