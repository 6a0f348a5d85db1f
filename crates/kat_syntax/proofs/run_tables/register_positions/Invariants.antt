use Rattle.kat_syntax.proofs.TableSteps.{RegistersSoFar}
use Rattle.kat_syntax.proofs.run_tables.register_positions.Given as goal

abbrev pub invariant-loop-decl : goal.invariant-loop-decl
invariant-loop-decl l = RegistersSoFar l.decls l.decl-index l.position l.named
