use Rattle.std.proofs.Common.{◌≡◌, ◌++◌}
use Rattle.kat_gen.specs.Pieces.{calls_text}
use Rattle.kat_gen.proofs.machine.push_calls.Given as goal

abbrev pub invariant-loop-i : goal.invariant-loop-i
invariant-loop-i l = l.out ≡ l.initial.out ++ calls_text l.i
