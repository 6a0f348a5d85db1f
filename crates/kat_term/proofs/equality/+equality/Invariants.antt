use Rattle.std.proofs.Common.{◌≡◌, drop, length}
use Rattle.kat_term.specs.Equality.{terms_eq}
use Rattle.kat_term.proofs.equality.+equality.Given as goal

abbrev pub invariant-same_terms-loop-x : goal.invariant-same_terms-loop-x
invariant-same_terms-loop-x l =
    terms_eq l.a l.b ≡ terms_eq (drop (length l.yielded) l.a) (drop (length l.yielded) l.b)
