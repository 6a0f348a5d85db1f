use Rattle.std.proofs.Common.{length}
use Rattle.kat_image.proofs.Reading.{Reads}
use Rattle.kat_image.proofs.image.read_image.Given as goal

-- the lines before the rest were taken
abbrev pub invariant-loop-image : goal.invariant-loop-image
invariant-loop-image l = Reads l.machine l.bytes l.rest l.number l.image

abbrev pub decreases-loop-image : goal.decreases-loop-image
decreases-loop-image l = length l.rest
