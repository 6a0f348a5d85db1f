use Rattle.kat_syntax.proofs.TableSteps.{UnionSoFar}
use Rattle.kat_syntax.proofs.run_tables.add_ctors.Given as goal

abbrev pub invariant-loop-at : goal.invariant-loop-at
invariant-loop-at l = UnionSoFar l.initial.named l.of l.ctors l.at l.named
