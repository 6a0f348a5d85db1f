use Rattle.std.specs.Str.Iter.{chars_rest}
use Rattle.kat_tree.proofs.ReadsOn.{ReadsOn}
use Rattle.kat_tree.proofs.read.read_text.Given as goal

abbrev pub invariant-loop-c : goal.invariant-loop-c
invariant-loop-c l =
    ((goal.iterator-loop-c).can_next l.rest × (goal.iterator-loop-c).is_finite l.rest) × ReadsOn l.text l.at l.reader (chars_rest l.rest)
