use Rattle.std.proofs.Common.{drop}
use Rattle.kat_syntax.specs.RunTables.{param_names}
use Rattle.kat_syntax.proofs.Positions.{FindsWith, first_from}
use Rattle.kat_syntax.proofs.run_tables.param_positions.Given as goal

-- the positions so far, and those of what is left
abbrev pub invariant-loop-position : goal.invariant-loop-position
invariant-loop-position l =
    FindsWith l.named (first_from l.position (param_names (drop l.position l.params)))
    (first_from 0 (param_names l.params))
