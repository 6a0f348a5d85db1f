use Rattle.std.proofs.Common.{◌≡◌, ◌<◌, ◌^◌, ℕ, List, ◌+◌, map, sum, drop}
use Rattle.kat_syntax.specs.TypesWritten.{part_sizes}
use Rattle.kat_typing.specs.Totals.{most_u64}
use Rattle.kat_typing.proofs.limits.sum.Given as goal

-- the sum so far and that of what is left make the sum of all
abbrev pub invariant-loop-part : goal.invariant-loop-part
invariant-loop-part l =
    ((whole : List ℕ) → l.sizes ≡ map most_u64 whole →
    most_u64 (l.total + sum (part_sizes l.around.decls l.around.number whole
    (drop l.part-index l.part-items)))
    ≡ most_u64 (sum (part_sizes l.around.decls l.around.number whole l.part-items)))
    × (l.total < 2 ^ 64)
