use Rattle.std.proofs.Common.{drop}
use Rattle.std.proofs.Common.{map}
use Rattle.kat_syntax.specs.NamedValues.{name_of_type}
use Rattle.kat_syntax.proofs.Positions.{FindsWith, first_from}
use Rattle.kat_syntax.proofs.run_tables.type_positions.Given as goal

-- the positions so far, and those of what is left
abbrev pub invariant-loop-position : goal.invariant-loop-position
invariant-loop-position l =
    FindsWith l.named (first_from l.position (map name_of_type (drop l.position l.types)))
    (first_from 0 (map name_of_type l.types))
