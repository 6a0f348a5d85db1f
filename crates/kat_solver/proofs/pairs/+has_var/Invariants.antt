use Rattle.std.proofs.Common.{◌≡◌, map, drop}
use Rattle.kat_solver.specs.Pairs.{any_of, has_var}
use Rattle.kat_solver.proofs.pairs.+has_var.Given as goal

abbrev pub invariant-any_has_var-loop-term : goal.invariant-any_has_var-loop-term
invariant-any_has_var-loop-term l =
    any_of (map (has_var l.number) (drop l.term-index l.terms))
    ≡ any_of (map (has_var l.number) l.terms)
