use Rattle.std.proofs.Common.{arith}
use Rattle.kat_io.proofs.Taking.{Takes-more, Appends-from_takes}
use Rattle.kat_io.proofs.host.append_through.Goals as goal

-- the last piece has no bytes
pub returns-then-count-eq0-clause-ok : goal.returns-then-count-eq0-clause-ok
returns-then-count-eq0-clause-ok g c =
    Appends-from_takes _ _ _ _ _ _ (Takes-more _ _ _ _ _ _ _ _ c.loop-taken.invariant.1 c.in_ok-count.ensures.takes) (c.in_ok-count.ensures.end (omega arith) (omega arith)) (omega arith)

pub loop-taken-preserved : goal.loop-taken-preserved
loop-taken-preserved g c =
    (omega (arith, c.in_ok-count.ensures.bound), Takes-more _ _ _ _ _ _ _ _ c.loop-taken.invariant.1 c.in_ok-count.ensures.takes)
