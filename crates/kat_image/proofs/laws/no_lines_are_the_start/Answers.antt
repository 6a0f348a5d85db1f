use Rattle.kat_image.proofs.Reading.{no_lines}
use Rattle.kat_image.proofs.laws.no_lines_are_the_start.Goals as goal

pub returns : goal.returns
returns c = no_lines
