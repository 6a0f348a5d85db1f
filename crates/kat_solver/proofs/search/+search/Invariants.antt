use Rattle.std.proofs.Common.{◌≡◌, drop}
use Rattle.kat_known.specs.First.{first_among}
use Rattle.kat_known.specs.Normal.{norm_in}
use Rattle.kat_solver.specs.Sought.{test_of}
use Rattle.kat_solver.proofs.search.+search.Given as goal

abbrev pub invariant-first_among-loop-term : goal.invariant-first_among-loop-term
invariant-first_among-loop-term l =
    first_among (test_of l.world.vars (norm_in l.world.vars) l.sought) (drop l.term-index l.terms)
    ≡ first_among (test_of l.world.vars (norm_in l.world.vars) l.sought) l.terms
