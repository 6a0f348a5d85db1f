use Rattle.std.proofs.Common.{◌≡◌, ℕ, List, max, map, drop}
use Rattle.kat_syntax.specs.TypesWritten.{greatest, part_sizes}
use Rattle.kat_typing.specs.Totals.{most_u64}
use Rattle.kat_typing.proofs.limits.greatest.Given as goal

-- the greatest so far and that of what is left make the greatest of all
abbrev pub invariant-loop-part : goal.invariant-loop-part
invariant-loop-part l = (whole : List ℕ) → l.sizes ≡ map most_u64 whole →
    max l.greatest (most_u64 (greatest (part_sizes l.around.decls l.around.number whole
    (drop l.part-index l.part-items))))
    ≡ most_u64 (greatest (part_sizes l.around.decls l.around.number whole l.part-items))
