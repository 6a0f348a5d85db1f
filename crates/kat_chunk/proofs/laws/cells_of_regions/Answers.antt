use Rattle.kat_chunk.proofs.Cells.{cell_comes_out, hole_is_filled}
use Rattle.kat_chunk.proofs.laws.cells_of_regions.Goals as goal

pub returns-clause-out : goal.returns-clause-out
returns-clause-out c = cell_comes_out c.equality_is_tested.ensures

pub returns-clause-filled : goal.returns-clause-filled
returns-clause-filled c = hole_is_filled c.equality_is_tested.ensures
