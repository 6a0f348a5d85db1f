use Rattle.std.proofs.Common.{◌≡◌, ◌++◌, map, drop}
use Rattle.kat_syntax.specs.Start.{first_or_unit}
use Rattle.kat_state.proofs.first_values.first_values.Given as goal

-- the values so far and those of the types that are left are all
abbrev pub invariant-loop-ty : goal.invariant-loop-ty
invariant-loop-ty l =
    l.values ++ map (first_or_unit l.types) (drop l.ty-index l.wanted)
    ≡ map (first_or_unit l.types) l.wanted
