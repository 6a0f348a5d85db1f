use Rattle.std.proofs.Common.{◌≡◌, ◌<◌, ◌+◌, ℕ, false, Some}
use Rattle.std.specs.Prelude.{slice_get}
use Rattle.kat_image.proofs.image.Image.are_free.Given as goal

-- no line has set one of the cells that were looked at
abbrev pub invariant-loop-k : goal.invariant-loop-k
invariant-loop-k l = (j : ℕ) → j < l.k → slice_get l.self.cells_set (l.at + j) ≡ Some false
