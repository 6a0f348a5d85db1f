use Rattle.std.proofs.Common.{◌≡◌, ◌+◌, drop, map}
use Rattle.std.specs.Prelude.{sum}
use Rattle.kat_term.specs.Sizes.{nodes}
use Rattle.kat_term.proofs.size.+nodes.Given as goal

abbrev pub invariant-all_within-loop-term : goal.invariant-all_within-loop-term
invariant-all_within-loop-term l =
    sum (map nodes l.terms) + l.rest ≡ sum (map nodes (drop l.term-index l.terms)) + l.room
