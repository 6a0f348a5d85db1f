use Rattle.kat_syntax.proofs.TableSteps.{CtorsSoFar}
use Rattle.kat_syntax.proofs.run_tables.ctors.Given as goal

abbrev pub invariant-loop-of : goal.invariant-loop-of
invariant-loop-of l = CtorsSoFar l.types l.of l.named
