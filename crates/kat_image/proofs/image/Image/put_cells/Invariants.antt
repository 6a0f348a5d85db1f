use Rattle.kat_image.proofs.Places.{IsPutTo}
use Rattle.kat_image.proofs.image.Image.put_cells.Given as goal

-- the cells that are still to come make all set
abbrev pub invariant-loop-k : goal.invariant-loop-k
invariant-loop-k l = IsPutTo l.initial.self l.at l.numbers l.k l.self
