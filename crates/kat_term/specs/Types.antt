-- The type of a term.
use Rattle.std.specs.Prelude.{◌≡◌, ◌↔◌, ℕ, if◌then◌else◌, List, [], ◌∷◌, map, Option, Some, None, slice_get, option_and_then}
use Rattle.std.specs.Option.{option_map}
use Rattle.kat_value.specs.declared.types.Ty.{Ty}
use Rattle.kat_value.specs.declared.types.TypeDecl.{TypeDecl}
use Rattle.kat_value.specs.declared.value.Value.{Value}
use Rattle.kat_value.specs.Typing.{HasType}
use Rattle.kat_term.specs.declared.term.Term.{Term}
use Rattle.kat_term.specs.declared.term.Term.TheOpen.{Term-F, Var, Lit, Apply, Make, Rec}
use Rattle.kat_term.specs.declared.term.Term.TheFolds.{fold-Term}
use Rattle.kat_value.specs.OperationTypes.{type_of_application, type_of_making, type_of_record}
use Rattle.kat_value.specs.Shown.{type_of_value}
use Rattle.kat_value.specs.Making.{all_there}
use Rattle.kat_term.specs.Values.{Valuation, literal_value, value_of}

-- one layer of a term, with the type of each part in its place
abbrev pub type_layer : List TypeDecl → List Ty → Term-F (Option Ty) → Option Ty
type_layer types vars (Var i) = slice_get vars i
type_layer types vars (Lit x) = option_map type_of_value (literal_value types x)
type_layer types vars (Apply op args) =
    option_and_then (type_of_application types op) (all_there args)
type_layer types vars (Make of ctor inner) = option_and_then (type_of_making types of ctor) inner
type_layer types vars (Rec of fields) =
    option_and_then (type_of_record types of) (all_there fields)

-- the type of a term over variables of these types; none where it is not well typed
abbrev pub type_of : List TypeDecl → List Ty → Term → Option Ty
type_of types vars = fold-Term (Option Ty) (type_layer types vars)

-- a term over variables of these types that is of a type: each literal fits its type, and each
-- operation, constructor and record has parts of the number and types that it takes
abbrev pub IsTermOf : List TypeDecl → List Ty → Ty → Term → Type 0
IsTermOf types vars t term = type_of types vars term ≡ Some t

-- a value for each variable, of its type
abbrev pub IsValuation : List TypeDecl → List Ty → Valuation → Type 0
IsValuation types [] [] = Unit {0}
IsValuation types [] (x ∷ v) = ⊥
IsValuation types (t ∷ vars) [] = ⊥
IsValuation types (t ∷ vars) (x ∷ v) = HasType types t x × IsValuation types vars v

-- a term has a value of a type under a valuation
abbrev pub HasValueOf : List TypeDecl → Valuation → Ty → Term → Type 0
HasValueOf types v t term = (x : Value) × (value_of types v term ≡ Some x) × HasType types t x

-- a term is of a type exactly where it has a value of that type, under every valuation alike
abbrev pub TypesAreValues : Type 0
TypesAreValues =
    (types : List TypeDecl) (vars : List Ty) (v : Valuation) → IsValuation types vars v →
    (t : Ty) (term : Term) → IsTermOf types vars t term ↔ HasValueOf types v t term
