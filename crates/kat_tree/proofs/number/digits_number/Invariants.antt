use Rattle.std.proofs.Common.{ℕ, List}
use Rattle.std.specs.Iterator.{IsFinite}
use Rattle.kat_tree.proofs.Digits.{Gives, IsLeft}
use Rattle.kat_tree.proofs.number.digits_number.Given as goal

abbrev pub invariant-loop-digit : goal.invariant-loop-digit
invariant-loop-digit g l =
    g.I.Iterator.can_next l.digits
    × IsFinite (g.I.Iterator.remaining l.digits)
    × ((cs : List ℕ) → Gives g.I.Iterator.next_gives l.fn.digits cs → IsLeft g.I.Iterator.next_gives l.digits l.base l.number cs)
