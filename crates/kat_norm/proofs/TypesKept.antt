-- The normal form is of the type of the term.
use Rattle.std.proofs.Common.{◌∙◌, List, []}
use Rattle.kat_value.specs.declared.types.Ty.{Ty}
use Rattle.kat_value.specs.declared.types.TypeDecl.{TypeDecl}
use Rattle.kat_term.specs.declared.term.Term.{Term}
use Rattle.kat_term.specs.Growth.{WorldsHaveValuations}
use Rattle.kat_term.specs.Parts.{TermsByParts}
use Rattle.kat_term.specs.Types.{IsTermOf, IsValuation, TypesAreValues}
use Rattle.kat_term.specs.Values.{Valuation, IsKept, value_of}
use Rattle.kat_rules.specs.Keeps.{Keeps}
use Rattle.kat_rules.specs.Rules.{rule_of}
use Rattle.kat_norm.specs.Kept.{TypesAreKept}
use Rattle.kat_norm.specs.Limits.{max_rules}
use Rattle.kat_norm.specs.Substitution.{substituted}
use Rattle.kat_norm.proofs.NormKeeps.{norm_kept}
use Rattle.kat_norm.proofs.PutKeeps.{substituted_typed}
use Rattle.kat_norm.proofs.Runs.{norm_by_parts}

-- what has the value of a term under one valuation has its type
type_by : TypesAreValues → (types : List TypeDecl) (vars : List Ty) (v : Valuation) → IsValuation types vars v →
    (t normal : Term) → IsKept (value_of types v t) (value_of types v normal) →
    (of : Ty) → IsTermOf types vars of t → IsTermOf types vars of normal
type_by typed types vars v fits t normal kept of is =
    let there = (typed types vars v fits of t).0 is in
    (typed types vars v fits of normal).1 (there.0, kept there.0 there.1, there.2)

-- a normal form is of the type of the term
pub types_are_kept : TermsByParts → Keeps rule_of → TypesAreValues → WorldsHaveValuations → TypesAreKept
types_are_kept by keep typed valued vars pairs t normal e types has fit of is =
    let p = norm_by_parts (rule_of vars) (substituted pairs t) normal e in
    let some = valued types (record { vars = vars; formulas = [] }) (record { vars = has; formulas = tt }) in
    type_by typed types vars some.0 some.1 (substituted pairs t) normal
    (norm_kept types some.0 (by.0 types some.0) (rule_of vars) (keep types vars some.0 some.1) max_rules (substituted pairs t) normal p.rest p.comes)
    of (substituted_typed types vars pairs t fit ∙ is)
