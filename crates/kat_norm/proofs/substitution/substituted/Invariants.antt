use Rattle.std.proofs.Common.{◌≡◌, drop}
use Rattle.kat_norm.specs.Substitution.{substituted}
use Rattle.kat_norm.proofs.substitution.substituted.Given as goal

abbrev pub invariant-loop-pair : goal.invariant-loop-pair
invariant-loop-pair l = substituted (drop l.pair-index l.pairs) l.changed ≡ substituted l.pairs l.fn.term
