use Rattle.std.proofs.Common.{◌≡◌, drop, length, map}
use Rattle.kat_term.specs.Order.{term_cmp, cmp_all}
use Rattle.kat_term.proofs.order.+order.Given as goal

abbrev pub invariant-compare_all-loop-x : goal.invariant-compare_all-loop-x
invariant-compare_all-loop-x l =
    cmp_all (map term_cmp l.a) l.b ≡ cmp_all (map term_cmp (drop (length l.yielded) l.a)) (drop (length l.yielded) l.b)
