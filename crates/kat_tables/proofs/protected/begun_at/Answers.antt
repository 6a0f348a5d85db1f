use Rattle.std.proofs.Common.{nat_le, rules}
use Rattle.std.proofs.lemmas.List.Sorted.{IsPartitionPoint-from_clause, IsPartitionedBy-leb}
use Rattle.kat_tables.specs.declared.protected.Reach.{Reach}
use Rattle.kat_tables.proofs.Reaches.{first_cell}
use Rattle.kat_tables.proofs.protected.begun_at.Goals as goal

pub returns-clause-point : goal.returns-clause-point
returns-clause-point c = λ sorted.
    IsPartitionPoint-from_clause (λ (reach : Reach). nat_le reach.lo c.args.cell) _ _
    c.partition_point.ensures.partitioned
    (IsPartitionedBy-leb first_cell c.args.reaches.now c.args.cell sorted)
    (λ a r q k. search rules)
