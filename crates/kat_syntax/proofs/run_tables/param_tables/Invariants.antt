use Rattle.std.proofs.Common.{drop}
use Rattle.kat_syntax.specs.RunTables.{params_declared}
use Rattle.kat_syntax.proofs.TableSteps.{FindsEach}
use Rattle.kat_syntax.proofs.run_tables.param_tables.Given as goal

abbrev pub invariant-loop-decl : goal.invariant-loop-decl
invariant-loop-decl l = FindsEach params_declared (drop l.decl-index l.decls) l.decls l.tables
