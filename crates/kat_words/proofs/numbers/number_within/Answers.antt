use Rattle.std.proofs.Common.{arith}
use Rattle.std.proofs.lemmas.Grind.{common_steps}
use Rattle.std.proofs.lemmas.Bool.Decides.{nat_tests}
use Rattle.kat_words.proofs.Wording.{past_is_none}
use Rattle.kat_words.proofs.numbers.number_within.Goals as goal

pub returns-then-number-high : goal.returns-then-number-high
returns-then-number-high c = grind (arith, nat_tests, common_steps, past_is_none)
