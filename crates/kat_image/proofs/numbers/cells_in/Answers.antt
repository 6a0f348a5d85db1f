use Rattle.kat_image.proofs.Cells.{reads_pushed}
use Rattle.kat_image.proofs.numbers.cells_in.Goals as goal

pub loop-rest-preserved : goal.loop-rest-preserved
loop-rest-preserved c =
    reads_pushed c.args.width c.args.size c.in-Some.number c.loop-rest.numbers c.push.new.self c.loop-rest.rest.now c.split_at.result.1.now c.args.bytes.now c.requires.size c.requires.some c.in-Some.ensures.within c.in-Some.ensures.number c.in_ok-push.ensures.ok c.split_at.ensures.back c.loop-rest.invariant
