use Rattle.kat_state.proofs.Firsts.{SoFar}
use Rattle.kat_state.proofs.first_values.firsts_of.Given as goal

-- from the values so far, those of the types that are left make all
abbrev pub invariant-loop-decl : goal.invariant-loop-decl
invariant-loop-decl l = SoFar l.types l.firsts l.decl-index
