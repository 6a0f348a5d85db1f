use Rattle.std.proofs.Common.{◌≡◌, take, drop, length}
use Rattle.kat_value.specs.Equality.{values_eq}
use Rattle.kat_value.proofs.equality.+equality.Given as goal

abbrev pub invariant-same_values-loop-x : goal.invariant-same_values-loop-x
invariant-same_values-loop-x l =
    (take (length l.yielded) l.a ≡ take (length l.yielded) l.b)
    × (values_eq l.a l.b ≡ values_eq (drop (length l.yielded) l.a) (drop (length l.yielded) l.b))
