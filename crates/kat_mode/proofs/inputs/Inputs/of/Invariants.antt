use Rattle.kat_mode.proofs.Counted.{CountedTo}
use Rattle.kat_mode.proofs.inputs.Inputs.of.Given as goal

-- the counts so far, and those of what is left
abbrev pub invariant-loop-decl : goal.invariant-loop-decl
invariant-loop-decl l = CountedTo l.decls l.decl-index l.counts
