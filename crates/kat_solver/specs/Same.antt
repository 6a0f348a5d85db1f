-- Formulas that are those of a world, or with which it begins.
use Rattle.std.specs.Prelude.{◌≡◌, List, take, length}
use Rattle.kat_value.specs.declared.types.Ty.{Ty}
use Rattle.kat_term.specs.declared.term.Term.{Term}
use Rattle.kat_term.specs.Worlds.{World}

-- types of variables and formulas are those of a world
abbrev pub IsOf : List Ty → List Term → World → Type 0
IsOf vars formulas world = (vars ≡ world.vars) × (formulas ≡ world.formulas)

-- a world is over variables of these types, and begins with these formulas
abbrev pub BeginsWith : List Ty → List Term → World → Type 0
BeginsWith vars formulas world =
    (vars ≡ world.vars) × (take (length formulas) world.formulas ≡ formulas)
