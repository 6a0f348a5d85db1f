use Rattle.std.proofs.Common.{arith, length-drop}
use Rattle.std.proofs.lemmas.List.{take_rest}
use Rattle.kat_io.proofs.Turns.{Appends-more}
use Rattle.kat_io.proofs.host.write_through.Goals as goal

-- what was taken before, and what this turn took
pub loop-at-preserved : goal.loop-at-preserved
loop-at-preserved g c =
    (omega (arith, c.in-Ok.ensures.bound, length-drop c.loop-at.at c.args.piece.now), Appends-more _ _ _ c.args.piece.now _ _ c.loop-at.invariant.1 (rw (take_rest c.args.piece.now c.loop-at.at) at c.in-Ok.ensures.bytes))
