use Rattle.std.proofs.Common.{arith}
use Rattle.std.proofs.lemmas.Grind.{common_steps}
use Rattle.kat_tree.proofs.Text.{encode_utf8_all-take_more}
use Rattle.kat_tree.proofs.word.text_of.Goals as goal

pub loop-c-preserved : goal.loop-c-preserved
loop-c-preserved c =
    let e = encode_utf8_all-take_more c.args.word.now c.loop-c.c-index c.loop-c-test.true in
    grind (arith, common_steps)
