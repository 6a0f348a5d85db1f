-- Worlds, and what valuations have to do with them.
use Rattle.std.specs.Prelude.{◌≡◌, true, List, [], ◌∷◌, ◌++◌, Some}
use Rattle.kat_value.specs.declared.types.Ty.{Ty}
use Rattle.kat_value.specs.declared.types.Ty.TheVariants as ty
use Rattle.kat_value.specs.declared.types.TypeDecl.{TypeDecl}
use Rattle.kat_value.specs.declared.value.Value.{Value}
use Rattle.kat_value.specs.declared.value.Value.TheVariants.{Bool as Truth}
use Rattle.kat_value.specs.Typing.{HasType}
use Rattle.kat_term.specs.declared.term.Term.{Term}
use Rattle.kat_term.specs.Types.{IsTermOf, IsValuation}
use Rattle.kat_term.specs.Values.{Valuation, value_of}

-- the types of the variables, by their numbers, and the formulas in the order in which they were
-- assumed
pub record World : Type 0 where
  pub vars : List Ty
  pub formulas : List Term

-- no variable, and no formula
abbrev pub empty_world : World
empty_world = record { vars = []; formulas = [] }

-- a world with one more formula
abbrev pub with_formula : World → Term → World
with_formula world formula = record world { formulas = world.formulas ++ formula ∷ [] }

-- a term of type bool over variables of these types
abbrev pub IsFormulaOf : List TypeDecl → List Ty → Term → Type 0
IsFormulaOf types vars formula = IsTermOf types vars ty.Bool formula

-- each of these is one
abbrev pub AreFormulasOf : List TypeDecl → List Ty → List Term → Type 0
AreFormulasOf types vars [] = Unit {0}
AreFormulasOf types vars (f ∷ fs) = IsFormulaOf types vars f × AreFormulasOf types vars fs

-- each of these types has a value
abbrev pub HaveValues : List TypeDecl → List Ty → Type 0
HaveValues types [] = Unit {0}
HaveValues types (t ∷ vars) = ((x : Value) × HasType types t x) × HaveValues types vars

-- a world by a table of types: there is a value for each variable, and each formula is one over its
-- variables
pub record IsWorldOf (types : List TypeDecl) (world : World) : Type 0 where
  pub vars : HaveValues types world.vars
  pub formulas : AreFormulasOf types world.vars world.formulas

-- a formula is true under a valuation
abbrev pub IsTrueUnder : List TypeDecl → Valuation → Term → Type 0
IsTrueUnder types v formula = value_of types v formula ≡ Some (Truth true)

-- each of these is true
abbrev pub AreTrueUnder : List TypeDecl → Valuation → List Term → Type 0
AreTrueUnder types v [] = Unit {0}
AreTrueUnder types v (f ∷ fs) = IsTrueUnder types v f × AreTrueUnder types v fs

-- a valuation fits a world: it gives each variable a value of its type, and every formula is true
pub record Fits (types : List TypeDecl) (world : World) (v : Valuation) : Type 0 where
  pub valued : IsValuation types world.vars v
  pub truths : AreTrueUnder types v world.formulas

-- a goal is true under every valuation that fits
abbrev pub IsValid : List TypeDecl → World → Term → Type 0
IsValid types world goal = (v : Valuation) → Fits types world v → IsTrueUnder types v goal

-- no valuation fits
abbrev pub HasNoValuation : List TypeDecl → World → Type 0
HasNoValuation types world = (v : Valuation) → Fits types world v → ⊥
