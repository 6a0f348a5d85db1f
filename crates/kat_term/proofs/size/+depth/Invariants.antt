use Rattle.std.proofs.Common.{◌≡◌, drop, map}
use Rattle.std.specs.Prelude.{nat_le}
use Rattle.kat_term.specs.Sizes.{depth, greatest}
use Rattle.kat_term.proofs.size.+depth.Given as goal

abbrev pub invariant-all_have_depth-loop-term : goal.invariant-all_have_depth-loop-term
invariant-all_have_depth-loop-term l =
    nat_le (greatest (map depth l.terms)) l.most ≡ nat_le (greatest (map depth (drop l.term-index l.terms))) l.most
