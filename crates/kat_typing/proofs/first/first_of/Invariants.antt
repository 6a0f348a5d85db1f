use Rattle.kat_typing.proofs.FirstFault.{SoFar}
use Rattle.kat_typing.proofs.first.first_of.Given as goal

abbrev pub invariant-loop-number : goal.invariant-loop-number
invariant-loop-number l = SoFar l.decls l.number l.totals
