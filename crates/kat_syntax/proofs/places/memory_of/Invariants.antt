use Rattle.std.proofs.Common.{◌≡◌, drop}
use Rattle.kat_syntax.specs.Memories.{memory_from}
use Rattle.kat_syntax.proofs.places.memory_of.Given as goal

-- no declaration so far is a memory
abbrev pub invariant-loop-number : goal.invariant-loop-number
invariant-loop-number l = memory_from 0 l.decls ≡ memory_from l.number (drop l.number l.decls)
