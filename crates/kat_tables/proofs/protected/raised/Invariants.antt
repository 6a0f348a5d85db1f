use Rattle.std.proofs.Common.{◌≡◌, ◌++◌, drop}
use Rattle.kat_tables.specs.Protected.{raised}
use Rattle.kat_tables.proofs.protected.raised.Given as goal

-- the ranges so far, and those that are left, are all
abbrev pub invariant-loop-reach : goal.invariant-loop-reach
invariant-loop-reach l = l.all ++ raised l.hi (drop l.reach-index l.reaches) ≡ raised 0 l.reaches
