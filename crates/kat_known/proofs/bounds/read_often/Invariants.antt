use Rattle.std.proofs.Common.{◌≡◌}
use Rattle.kat_known.specs.Bounds.{read_times, read_often}
use Rattle.kat_known.proofs.bounds.read_often.Given as goal

abbrev pub invariant-loop-left : goal.invariant-loop-left
invariant-loop-left l =
    read_times l.left l.term l.list l.read ≡ read_often l.term l.list l.fn.interval

abbrev pub decreases-loop-left : goal.decreases-loop-left
decreases-loop-left l = l.left
