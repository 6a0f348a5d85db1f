use Rattle.std.proofs.Common.{drop}
use Rattle.kat_syntax.specs.NamedValues.{names_of_fields}
use Rattle.kat_syntax.proofs.Positions.{FindsWith, first_from}
use Rattle.kat_syntax.proofs.run_tables.field_positions.Given as goal

-- the positions so far, and those of what is left
abbrev pub invariant-loop-position : goal.invariant-loop-position
invariant-loop-position l =
    FindsWith l.named (first_from l.position (names_of_fields (drop l.position l.fields)))
    (first_from 0 (names_of_fields l.fields))
