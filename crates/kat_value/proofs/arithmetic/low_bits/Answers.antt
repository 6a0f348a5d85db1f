use Rattle.kat_value.proofs.NumberLemmas.{masked}
use Rattle.kat_value.proofs.arithmetic.low_bits.Goals as goal

pub returns : goal.returns
returns c = masked c.args.word c.ones.result c.args.width c.ones.ensures
