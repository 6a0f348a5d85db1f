use Rattle.kat_image.proofs.Said.{sets_places}
use Rattle.kat_image.proofs.laws.lines_set_places.Goals as goal

pub returns : goal.returns
returns c = sets_places
