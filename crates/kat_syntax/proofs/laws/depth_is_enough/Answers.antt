use Rattle.kat_syntax.proofs.EnoughDepth.{depth_is_enough}
use Rattle.kat_syntax.proofs.laws.depth_is_enough.Goals as goal

pub returns : goal.returns
returns c = depth_is_enough
