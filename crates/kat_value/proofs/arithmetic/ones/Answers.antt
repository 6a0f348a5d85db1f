use Rattle.kat_value.proofs.NumberLemmas.{ones_of_width}
use Rattle.kat_value.proofs.arithmetic.ones.Goals as goal

pub returns : goal.returns
returns c = ones_of_width c.args.width c.requires.small
