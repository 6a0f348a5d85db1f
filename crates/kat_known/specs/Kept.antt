-- What is known of an atom is so, and reducing keeps values and types.
use Rattle.std.specs.Prelude.{◌≡◌, true, Bool, List, Option, Some}
use Rattle.kat_value.specs.declared.types.Ty.{Ty}
use Rattle.kat_value.specs.declared.types.TypeDecl.{TypeDecl}
use Rattle.kat_value.specs.declared.value.Value.TheVariants.{Bool as Truth}
use Rattle.kat_term.specs.declared.term.Term.{Term}
use Rattle.kat_term.specs.Types.{IsTermOf, IsValuation}
use Rattle.kat_term.specs.Values.{Valuation, IsKept, value_of}
use Rattle.kat_term.specs.Worlds.{AreTrueUnder, HaveValues}
use Rattle.kat_rules.specs.Keeps.{KeepsValues}
use Rattle.kat_rules.specs.Widths.{is_bool}
use Rattle.kat_known.specs.Known.{known, known_atom}
use Rattle.kat_known.specs.Normal.{norm_in}
use Rattle.kat_known.specs.Reduce.{reduced, reduced_strictly}

-- a term has no other value than this truth
abbrev pub IsAtMost : List TypeDecl → Valuation → Term → Bool → Type 0
IsAtMost types v t p = IsKept (value_of types v t) (Some (Truth p))

-- under a valuation that makes the list true, what is known of a term of type bool is so
abbrev pub KnownHolds : Type 0
KnownHolds =
    (types : List TypeDecl) (vars : List Ty) (v : Valuation) → IsValuation types vars v →
    (norm : Term → Option Term) → KeepsValues types v norm →
    (list : List Term) → AreTrueUnder types v list →
    (t : Term) → is_bool vars t ≡ true → (p : Bool) → known vars norm list t ≡ Some p →
    IsAtMost types v t p

-- and so the literal of a known atom has its value
abbrev pub AtomsKeepValues : Type 0
AtomsKeepValues =
    (types : List TypeDecl) (vars : List Ty) (v : Valuation) → IsValuation types vars v →
    (norm : Term → Option Term) → KeepsValues types v norm →
    (list : List Term) → AreTrueUnder types v list → KeepsValues types v (known_atom vars norm list)

-- what a rule gives is of the type of the term, over variables of these types
abbrev pub KeepsTypes : List TypeDecl → List Ty → (Term → Option Term) → Type 0
KeepsTypes types vars rule =
    (t right : Term) → rule t ≡ Some right →
    (ty : Ty) → IsTermOf types vars ty t → IsTermOf types vars ty right

-- the literal of a known atom is of its type
abbrev pub AtomsKeepTypes : Type 0
AtomsKeepTypes =
    (types : List TypeDecl) (vars : List Ty) → HaveValues types vars →
    (norm : Term → Option Term) (list : List Term) →
    KeepsTypes types vars (known_atom vars norm list)

-- the normal form has the value of the term
abbrev pub NormalKeepsValues : Type 0
NormalKeepsValues =
    (types : List TypeDecl) (vars : List Ty) (v : Valuation) → IsValuation types vars v →
    KeepsValues types v (norm_in vars)

-- and it is of the type of the term
abbrev pub NormalKeepsTypes : Type 0
NormalKeepsTypes =
    (types : List TypeDecl) (vars : List Ty) → HaveValues types vars →
    KeepsTypes types vars (norm_in vars)

-- where atoms and normal forms keep values, a reduced term has the value of the term
abbrev pub ReducedKeepsValues : Type 0
ReducedKeepsValues =
    (types : List TypeDecl) (v : Valuation) (atoms norm : Term → Option Term) →
    KeepsValues types v atoms → KeepsValues types v norm →
    (t : Term) → IsKept (value_of types v t) (value_of types v (reduced atoms norm t))

-- and so has one that is reduced strictly
abbrev pub StrictlyKeepsValues : Type 0
StrictlyKeepsValues =
    (types : List TypeDecl) (v : Valuation) (atoms norm : Term → Option Term) →
    KeepsValues types v atoms → KeepsValues types v norm →
    KeepsValues types v (reduced_strictly atoms norm)

-- where they keep types, it is of the type of the term
abbrev pub ReducedKeepsTypes : Type 0
ReducedKeepsTypes =
    (types : List TypeDecl) (vars : List Ty) (atoms norm : Term → Option Term) →
    KeepsTypes types vars atoms → KeepsTypes types vars norm →
    (t : Term) (ty : Ty) → IsTermOf types vars ty t → IsTermOf types vars ty (reduced atoms norm t)

-- and so is one that is reduced strictly
abbrev pub StrictlyKeepsTypes : Type 0
StrictlyKeepsTypes =
    (types : List TypeDecl) (vars : List Ty) (atoms norm : Term → Option Term) →
    KeepsTypes types vars atoms → KeepsTypes types vars norm →
    KeepsTypes types vars (reduced_strictly atoms norm)
