use Rattle.std.proofs.Common.{drop}
use Rattle.kat_syntax.specs.RunTables.{parts_declared}
use Rattle.kat_syntax.proofs.TableSteps.{FindsEach}
use Rattle.kat_syntax.proofs.run_tables.part_tables.Given as goal

abbrev pub invariant-loop-decl : goal.invariant-loop-decl
invariant-loop-decl l =
    FindsEach parts_declared (drop l.decl-index l.decl-items) l.decl-items l.tables
