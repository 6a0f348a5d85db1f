use Rattle.std.proofs.Common.{◌≡◌, drop}
use Rattle.kat_known.specs.Views.{contains}
use Rattle.kat_known.proofs.knowing.contains.Given as goal

abbrev pub invariant-loop-other : goal.invariant-loop-other
invariant-loop-other l = contains l.term l.list ≡ contains l.term (drop l.other-index l.list)
