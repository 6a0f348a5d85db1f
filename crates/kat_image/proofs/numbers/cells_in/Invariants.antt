use Rattle.std.proofs.Common.{length}
use Rattle.kat_image.proofs.Cells.{IsReadSo}
use Rattle.kat_image.proofs.numbers.cells_in.Given as goal

-- the cells that are still to come make the numbers whole
abbrev pub invariant-loop-rest : goal.invariant-loop-rest
invariant-loop-rest l = IsReadSo l.width l.numbers l.rest l.bytes

abbrev pub decreases-loop-rest : goal.decreases-loop-rest
decreases-loop-rest l = length l.rest
