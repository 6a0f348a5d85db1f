use Rattle.kat_laws.proofs.ImageStates.{images_are_states}
use Rattle.kat_laws.proofs.images.images_are_states.Goals as goal

pub returns : goal.returns
returns c = images_are_states c.starts_are_states.ensures c.lines_set_places.ensures
