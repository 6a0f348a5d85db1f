-- A normal form has no rule left.
use Rattle.std.specs.Prelude.{◌≡◌, ℕ, List, [], Option, Ok}
use Rattle.kat_value.specs.declared.types.Ty.{Ty}
use Rattle.kat_term.specs.declared.term.Term.{Term}
use Rattle.kat_rules.specs.Rules.{rule_of}
use Rattle.kat_norm.specs.Norm.{Done, IsNormal, norm_from, norm_of}
use Rattle.kat_norm.specs.Substitution.{Substitution}

-- what rules lead to has none left, and is its own normal form, whatever rules are left to use
abbrev pub RestsByRules : Type 0
RestsByRules =
    (rule : Term → Option Term) (left rest more : ℕ) (t normal : Term) →
    norm_from rule left t ≡ Done normal rest →
    IsNormal rule normal × (norm_from rule more normal ≡ Done normal more)

-- a normal form has no rule left, and is its own normal form
abbrev pub NormalFormsRest : Type 0
NormalFormsRest =
    (vars : List Ty) (pairs : Substitution) (t normal : Term) →
    norm_of vars pairs t ≡ Ok normal →
    IsNormal (rule_of vars) normal × (norm_of vars [] normal ≡ Ok normal)
