use Rattle.std.proofs.Common.{◌≡◌, take}
use Rattle.kat_solver.proofs.settled.copy_pairs.Given as goal

abbrev pub invariant-loop-pair : goal.invariant-loop-pair
invariant-loop-pair l = l.copies ≡ take l.pair-index l.pairs
