use Rattle.std.proofs.Common.{◌≤◌, ◌+◌, ◌-◌}
use Rattle.kat_io.specs.HostBytes.{Takes}
use Rattle.kat_io.proofs.host.append_through.Given as goal

abbrev pub invariant-loop-taken : goal.invariant-loop-taken
invariant-loop-taken g l = (l.taken ≤ l.limit + 1)
    × Takes (g.R.Read.remaining l.initial.file) (g.R.Read.remaining l.file) l.initial.into.items l.into.items l.taken

abbrev pub decreases-loop-taken : goal.decreases-loop-taken
decreases-loop-taken g l = l.limit + 1 - l.taken
