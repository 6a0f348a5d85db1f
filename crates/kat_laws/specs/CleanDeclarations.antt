-- What a specification without faults of typing says of its declarations, one by one.
use Rattle.std.specs.Prelude.{◌≡◌, ◌≤◌, ℕ, Bool, true, List, [], ◌++◌, length}
use Rattle.std.specs.List.{AllByRecursion}
use Rattle.kat_ast.specs.declared.decl.DeclForm.{DeclForm}
use Rattle.kat_ast.specs.Spec.{Spec}
use Rattle.kat_syntax.specs.Limits.{most_declarations}
use Rattle.kat_syntax.specs.declared.type_rule.TypeRule.{TypeRule}
use Rattle.kat_syntax.specs.TypeRules.{Fault, unless}
use Rattle.kat_syntax.specs.Around.{Around}
use Rattle.kat_syntax.specs.TypingDeclarations.{decl_faults, inner_faults, taken_names, own_names}
use Rattle.kat_syntax.specs.FirstTypeFault.{IsTyped, faults_from}

-- the declarations from a number on have no faults
abbrev pub AreClean : List DeclForm → ℕ → List DeclForm → Type 0
AreClean all k decls =
    AllByRecursion (λ (faults : List Fault). faults ≡ []) (faults_from all k decls)

-- the declaration that stands here has no faults
abbrev pub IsClean : Around → DeclForm → Type 0
IsClean around decl = decl_faults around decl ≡ []

-- where faults together are none, each are none; a condition without a fault is met; the own names
-- of a declaration without faults are the first of their kind, and what stands inside it has no
-- faults; a typed specification has no more declarations than there may be
pub record CleanDeclarations : Type 0 where
  pub first : (faults more : List Fault) → faults ++ more ≡ [] → faults ≡ []
  pub second : (faults more : List Fault) → faults ++ more ≡ [] → more ≡ []
  pub met : (b : Bool) (tree : ℕ) (rule : TypeRule) → unless b tree rule ≡ [] → b ≡ true
  pub names :
      (around : Around) (decl : DeclForm) → IsClean around decl →
      taken_names around (own_names around decl) ≡ []
  pub inner :
      (around : Around) (decl : DeclForm) → IsClean around decl → inner_faults around decl ≡ []
  pub few : (spec : Spec) → IsTyped spec → length spec.decls ≤ most_declarations
