use Rattle.std.proofs.Common.{arith, ◌-◌, length, take, drop}
use Rattle.std.proofs.lemmas.Grind.{common_steps}
use Rattle.kat_image.proofs.Lines.{no_newline, newline_at}
use Rattle.kat_image.proofs.line.first_line.Goals as goal

pub returns-in-None-clause-lines : goal.returns-in-None-clause-lines
returns-in-None-clause-lines c = no_newline c.args.bytes.now c.in-None.ensures

pub returns-in-Some-clause-lines : goal.returns-in-Some-clause-lines
returns-in-Some-clause-lines c =
    newline_at c.args.bytes.now c.split_at.result.0.now (take (length c.split_at.result.1.now - 1) (drop 1 c.split_at.result.1.now)) c.in-Some.at c.in-Some.ensures (grind (arith, common_steps))
    (grind (arith, common_steps))
