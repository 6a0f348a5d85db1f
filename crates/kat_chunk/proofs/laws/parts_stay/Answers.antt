use Rattle.kat_chunk.proofs.Values.{parts_stay}
use Rattle.kat_chunk.proofs.laws.parts_stay.Goals as goal

pub returns : goal.returns
returns c = parts_stay c.worlds_grow.ensures.values
