use Rattle.std.proofs.Common.{◌≡◌, ◌++◌}
use Rattle.kat_gen.specs.Pieces.{counters_text}
use Rattle.kat_gen.proofs.spec.push_counters.Given as goal

abbrev pub invariant-loop-i : goal.invariant-loop-i
invariant-loop-i l = l.out ≡ l.initial.out ++ counters_text l.i
