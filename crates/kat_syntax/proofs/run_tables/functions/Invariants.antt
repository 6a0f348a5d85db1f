use Rattle.kat_syntax.proofs.TableSteps.{FunctionsSoFar}
use Rattle.kat_syntax.proofs.run_tables.functions.Given as goal

abbrev pub invariant-loop-number : goal.invariant-loop-number
invariant-loop-number l = FunctionsSoFar l.decls l.number l.named
