use Rattle.std.proofs.Common.{◌≡◌, take, length}
use Rattle.kat_solver.proofs.same.same_formulas.Given as goal

abbrev pub invariant-loop-index : goal.invariant-loop-index
invariant-loop-index l =
    (length l.first ≡ length l.second) × (take l.index l.first ≡ take l.index l.second)
