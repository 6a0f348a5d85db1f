use Rattle.std.proofs.Common.{take, drop}
use Rattle.kat_known.specs.Known.{known_atom}
use Rattle.kat_known.specs.Normal.{norm_in}
use Rattle.kat_known.proofs.Search.{SoFar}
use Rattle.kat_known.proofs.replace.+replace.Given as goal

abbrev pub invariant-replaced_in-loop-index : goal.invariant-replaced_in-loop-index
invariant-replaced_in-loop-index l =
    SoFar (known_atom l.world.vars (norm_in l.world.vars) l.list) l.terms l.fn.skip
    (take l.index l.terms) l.skip (drop l.index l.terms)
