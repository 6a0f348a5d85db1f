use Rattle.std.proofs.Common.{arith}
use Rattle.kat_value.proofs.NumberLemmas.{pow_of_longer}
use Rattle.kat_value.proofs.arithmetic.sign_extended.Goals as goal

pub overflow_sub-result : goal.overflow_sub-result
overflow_sub-result c = omega (arith, pow_of_longer c.args.width c.args.wide c.requires.longer)
