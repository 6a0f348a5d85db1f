use Rattle.std.proofs.Common.{rules}
use Rattle.std.proofs.lemmas.List.Sorted.{IsNonDecreasingBy-from_sort_by_key}
use Rattle.kat_tables.proofs.Reaches.{first_cell}
use Rattle.kat_tables.proofs.protected.sort_by_first.Goals as goal

pub returns-clause-sorted : goal.returns-clause-sorted
returns-clause-sorted c =
    IsNonDecreasingBy-from_sort_by_key first_cell _ c.sort_unstable_by_key.ensures.sorted
    (λ a r q k. search rules)
