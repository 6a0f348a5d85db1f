-- What it is for a world to grow.
use Rattle.std.specs.Prelude.{◌≡◌, ◌↔◌, ◌+◌, ◌<◌, ◌≤◌, List, ◌++◌, length, Some, Result, Ok, Err}
use Rattle.kat_value.specs.declared.types.Ty.{Ty}
use Rattle.kat_value.specs.declared.types.TypeDecl.{TypeDecl}
use Rattle.kat_value.specs.declared.value.Value.{Value}
use Rattle.kat_value.specs.Typing.{HasType}
use Rattle.kat_term.specs.declared.term.Term.{Term}
use Rattle.kat_term.specs.declared.fresh.GrowError.{GrowError}
use Rattle.kat_term.specs.declared.fresh.GrowError.TheVariants.{Vars, Memory}
use Rattle.kat_term.specs.Fresh.{Fresh, fresh_of}
use Rattle.kat_term.specs.Limits.{max_vars}
use Rattle.kat_term.specs.Types.{IsTermOf, IsValuation}
use Rattle.kat_term.specs.Values.{Valuation, IsKept, value_of}
use Rattle.kat_term.specs.Worlds.{World, IsWorldOf, IsFormulaOf, Fits, IsTrueUnder, with_formula}

-- a world with the variables of a fresh value
abbrev pub with_fresh : World → Fresh → World
with_fresh world fresh = record world { vars = world.vars ++ fresh.vars }

-- more variables than a world may have
abbrev pub PassesVars : List Ty → List Ty → Type 0
PassesVars old more = max_vars < length old + length more

-- what an answer says: the fresh value and its variables, within the limit, or that they pass it
abbrev pub AnswersFresh : Result Term GrowError → List Ty → List Ty → Fresh → Type 0
AnswersFresh (Ok term) old new fresh =
    (term ≡ fresh.term) × (new ≡ old ++ fresh.vars) × (length new ≤ max_vars)
AnswersFresh (Err Vars) old new fresh = PassesVars old fresh.vars
AnswersFresh (Err Memory) old new fresh = Unit {0}

-- each valuation that fitted extends by every value of the type, which is then that of the term
abbrev pub ExtendsBy : List TypeDecl → Ty → World → World → Term → Type 0
ExtendsBy types t old new term =
    (v : Valuation) → Fits types old v → (x : Value) → HasType types t x →
    (more : Valuation) × Fits types new (v ++ more) × (value_of types (v ++ more) term ≡ Some x)

-- a world that grows by a fresh value of a type extends by every value of it
abbrev pub FreshValuesExtend : Type 0
FreshValuesExtend =
    (types : List TypeDecl) (t : Ty) (world : World) →
    ExtendsBy types t world (with_fresh world (fresh_of types t (length world.vars)))
    (fresh_of types t (length world.vars)).term

-- a fresh value is a term of its type
abbrev pub FreshValuesAreTerms : Type 0
FreshValuesAreTerms =
    (types : List TypeDecl) (t : Ty) (vars : List Ty) →
    let fresh = fresh_of types t (length vars) in
    IsTermOf types (vars ++ fresh.vars) t fresh.term

-- a term keeps its value as the valuation is extended
abbrev pub ValuesStay : Type 0
ValuesStay =
    (types : List TypeDecl) (v more : Valuation) (t : Term) →
    IsKept (value_of types v t) (value_of types (v ++ more) t)

-- a term keeps its type as variables are added
abbrev pub TypesStay : Type 0
TypesStay =
    (types : List TypeDecl) (vars more : List Ty) (t : Ty) (term : Term) →
    IsTermOf types vars t term → IsTermOf types (vars ++ more) t term

-- what fits is then what fitted and makes the formula true
abbrev pub NarrowsBy : World → World → Term → Type 0
NarrowsBy old new formula =
    (types : List TypeDecl) (v : Valuation) →
    Fits types new v ↔ (Fits types old v × IsTrueUnder types v formula)

-- with one more formula a world narrows by it
abbrev pub FormulasNarrow : Type 0
FormulasNarrow =
    (world : World) (formula : Term) → NarrowsBy world (with_formula world formula) formula

-- a world stays one as it grows by a fresh value of a type that has one, and by a formula
abbrev pub WorldsStay : Type 0
WorldsStay =
    (types : List TypeDecl) (world : World) → IsWorldOf types world →
    ((t : Ty) (x : Value) → HasType types t x →
    IsWorldOf types (with_fresh world (fresh_of types t (length world.vars))))
    × ((formula : Term) → IsFormulaOf types world.vars formula →
    IsWorldOf types (with_formula world formula))

-- each world has a value for each of its variables
abbrev pub WorldsHaveValuations : Type 0
WorldsHaveValuations =
    (types : List TypeDecl) (world : World) → IsWorldOf types world →
    (v : Valuation) × IsValuation types world.vars v
