use Rattle.std.proofs.Common.{◌≡◌, length}
use Rattle.kat_tree.specs.Preorder.{count_of}
use Rattle.kat_shapes.specs.Seen.{seen_form}
use Rattle.kat_shapes.proofs.Going.{Going, sorts_here}
use Rattle.kat_shapes.proofs.judging.+judge_from.Given as goal

abbrev pub invariant-loop-part : goal.invariant-loop-part
invariant-loop-part l =
    (l.at ≡ l.part-index) × Going l.fn.version (sorts_here (seen_form l.form) (length l.parts)) l.parts l.fn.place l.next l.at

-- each part of a tree has fewer trees than the whole
abbrev pub decreases-judge_from : goal.decreases-judge_from
decreases-judge_from l = count_of l.tree.now
