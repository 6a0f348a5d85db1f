use Rattle.std.proofs.Common.{◌≡◌, drop}
use Rattle.kat_known.specs.Bounds.{read_all}
use Rattle.kat_known.proofs.bounds.read_all.Given as goal

abbrev pub invariant-loop-formula : goal.invariant-loop-formula
invariant-loop-formula l =
    read_all l.term (drop l.formula-index l.list) l.read ≡ read_all l.term l.list l.fn.interval
