-- What it is for rules and normal forms to keep values.
use Rattle.std.specs.Prelude.{◌≡◌, List, [], ◌∷◌, Option, Some}
use Rattle.kat_value.specs.declared.types.Ty.{Ty}
use Rattle.kat_value.specs.declared.types.TypeDecl.{TypeDecl}
use Rattle.kat_term.specs.declared.term.Term.{Term}
use Rattle.kat_term.specs.Types.{IsValuation}
use Rattle.kat_term.specs.Values.{Valuation, IsKept, value_of}
use Rattle.kat_rules.specs.Patterns.{Rule}

-- the right side has the value of the term wherever a left side is there, under this valuation
abbrev pub KeepsValues : List TypeDecl → Valuation → (Term → Option Term) → Type 0
KeepsValues types v rule =
    (t right : Term) → rule t ≡ Some right → IsKept (value_of types v t) (value_of types v right)

-- a rule keeps values under every valuation of the variables
abbrev pub Keeps : Rule → Type 0
Keeps rule =
    (types : List TypeDecl) (vars : List Ty) (v : Valuation) → IsValuation types vars v →
    KeepsValues types v (rule vars)

-- each of these rules keeps values
abbrev pub AllKeep : List Rule → Type 0
AllKeep [] = Unit {0}
AllKeep (rule ∷ more) = Keeps rule × AllKeep more
