use Rattle.std.proofs.Common.{arith}
use Rattle.std.proofs.lemmas.Grind.{common_steps}
use Rattle.kat_words.proofs.Parts.{parts_next}
use Rattle.kat_words.proofs.devices.Devices.of_list.Goals as goal

pub returns-in_err-push_new-clause-given : goal.returns-in_err-push_new-clause-given
returns-in_err-push_new-clause-given c = grind (arith, common_steps, parts_next)

pub loop-part-preserved : goal.loop-part-preserved
loop-part-preserved c = record {
  same = grind (arith, common_steps, parts_next);
  few = omega (arith, c.in_ok-push_new.ensures.longer);
}
