-- What a normal form keeps of the term.
use Rattle.std.specs.Prelude.{◌≡◌, ℕ, List, Option, Ok}
use Rattle.kat_value.specs.declared.types.Ty.{Ty}
use Rattle.kat_value.specs.declared.types.TypeDecl.{TypeDecl}
use Rattle.kat_term.specs.declared.term.Term.{Term}
use Rattle.kat_term.specs.Types.{IsTermOf, IsValuation}
use Rattle.kat_term.specs.Values.{Valuation, IsKept, value_of}
use Rattle.kat_term.specs.Worlds.{HaveValues}
use Rattle.kat_rules.specs.Keeps.{KeepsValues}
use Rattle.kat_norm.specs.Norm.{Done, norm_from, norm_of}
use Rattle.kat_norm.specs.Substitution.{Substitution, substituted, AreEqual, ArePairsOf}

-- under every valuation that makes each pair equal, a term has the value of another
abbrev pub HasItsValue : List Ty → Substitution → Term → Term → Type 0
HasItsValue vars pairs t normal =
    (types : List TypeDecl) (v : Valuation) → IsValuation types vars v → AreEqual types v pairs →
    IsKept (value_of types v t) (value_of types v normal)

-- over the variables of a world, and with terms of their types in their places, a term is of the
-- type of another
abbrev pub HasItsType : List Ty → Substitution → Term → Term → Type 0
HasItsType vars pairs t normal =
    (types : List TypeDecl) → HaveValues types vars → ArePairsOf types vars pairs →
    (ty : Ty) → IsTermOf types vars ty t → IsTermOf types vars ty normal

-- what rules that keep values lead to has the value of the term
abbrev pub KeptByRules : Type 0
KeptByRules =
    (types : List TypeDecl) (v : Valuation) (rule : Term → Option Term) →
    KeepsValues types v rule →
    (left rest : ℕ) (t normal : Term) → norm_from rule left t ≡ Done normal rest →
    IsKept (value_of types v t) (value_of types v normal)

-- a term with pairs put in has its own value, under every valuation that makes each pair equal
abbrev pub KeptBySubstitution : Type 0
KeptBySubstitution =
    (types : List TypeDecl) (v : Valuation) (pairs : Substitution) (t : Term) →
    AreEqual types v pairs → value_of types v (substituted pairs t) ≡ value_of types v t

-- a normal form has the value of the term
abbrev pub ValuesAreKept : Type 0
ValuesAreKept =
    (vars : List Ty) (pairs : Substitution) (t normal : Term) →
    norm_of vars pairs t ≡ Ok normal → HasItsValue vars pairs t normal

-- and it is of its type
abbrev pub TypesAreKept : Type 0
TypesAreKept =
    (vars : List Ty) (pairs : Substitution) (t normal : Term) →
    norm_of vars pairs t ≡ Ok normal → HasItsType vars pairs t normal
