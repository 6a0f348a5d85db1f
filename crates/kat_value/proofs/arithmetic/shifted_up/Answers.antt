use Rattle.std.proofs.Common.{arith}
use Rattle.std.proofs.lemmas.Grind.{common_steps}
use Rattle.kat_value.proofs.NumberLemmas.{low_bits_of_word}
use Rattle.kat_value.proofs.arithmetic.shifted_up.Goals as goal

pub returns-then-by-from : goal.returns-then-by-from
returns-then-by-from c = grind (arith, common_steps, low_bits_of_word)
