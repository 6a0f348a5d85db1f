use Rattle.std.proofs.Common.{◌≡◌, ◌++◌}
use Rattle.kat_gen.specs.Pieces.{parts_text}
use Rattle.kat_gen.proofs.machine.push_all_parts.Given as goal

abbrev pub invariant-loop-i : goal.invariant-loop-i
invariant-loop-i l = l.out ≡ l.initial.out ++ parts_text l.i
