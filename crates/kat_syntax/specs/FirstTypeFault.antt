-- Which specifications are typed, and the first fault of the others: the least in the order of
-- declaration, tree and condition.
use Rattle.std.specs.Prelude.{◌≡◌, ◌⊎◌, ℕ, ◌+◌, ◌++◌, List, [], ◌∷◌, Option, None, Some}
use Rattle.std.specs.List.{list_any, AllByRecursion}
use Rattle.kat_ast.specs.declared.decl.DeclForm.{DeclForm}
use Rattle.kat_ast.specs.Spec.{Spec}
use Rattle.kat_syntax.specs.declared.type_rule.TypeRule.{TypeRule}
use Rattle.kat_syntax.specs.declared.type_rule.TypeRule.TheVariants.{NotOnce}
use Rattle.kat_syntax.specs.TypeRules.{Fault, IsLeastOf, least_of, unless}
use Rattle.kat_syntax.specs.TypingDeclarations.{decl_faults, is_step, is_dispatch, is_untrusted, is_boot}

-- a fault of a specification: its declaration, its tree in the declaration, and the condition
pub record TypeFault : Type 0 where
  pub decl : ℕ
  pub tree : ℕ
  pub rule : TypeRule

-- the faults of what has to stand once and does not stand at all, behind the last declaration
abbrev pub missing_faults : List DeclForm → List Fault
missing_faults decls =
    unless (list_any is_step decls) 0 NotOnce
    ++ (unless (list_any is_dispatch decls) 0 NotOnce
    ++ (unless (list_any is_untrusted decls) 0 NotOnce
    ++ unless (list_any is_boot decls) 0 NotOnce))

-- the faults of declarations among all of them, the first having the number k, one list for each;
-- behind them the list of those of what is missing
abbrev pub faults_from : List DeclForm → ℕ → List DeclForm → List (List Fault)
faults_from all k [] = missing_faults all ∷ []
faults_from all k (decl ∷ decls) =
    decl_faults (record { decls = all; number = k }) decl ∷ faults_from all (k + 1) decls

-- all faults of a specification, by declaration
abbrev pub type_faults : Spec → List (List Fault)
type_faults spec = faults_from spec.decls 0 spec.decls

-- a specification is typed where no condition of a fault holds at any tree
abbrev pub IsTyped : Spec → Type 0
IsTyped spec = AllByRecursion (λ faults. faults ≡ []) (type_faults spec)

-- the least fault of the declaration of this number, or else of those behind it
abbrev pub or_first : ℕ → Option Fault → Option TypeFault → Option TypeFault
or_first k None later = later
or_first k (Some fault) later =
    Some (record { decl = k; tree = fault.tree; rule = fault.rule })

-- the least of faults by declaration, the first having the number k
abbrev pub first_from : ℕ → List (List Fault) → Option TypeFault
first_from k [] = None
first_from k (faults ∷ more) = or_first k (least_of faults) (first_from (k + 1) more)

-- the first fault of a specification, if it has one
abbrev pub first_type_fault : Spec → Option TypeFault
first_type_fault spec = first_from 0 (type_faults spec)

-- a fault stands in the first of these declarations that has any, the first of them having the
-- number k, and is the least there
abbrev pub IsFirstFrom : ℕ → List (List Fault) → TypeFault → Type 0
IsFirstFrom k [] found = ⊥
IsFirstFrom k (faults ∷ more) found =
    ((found.decl ≡ k) × IsLeastOf faults (record { tree = found.tree; rule = found.rule }))
    ⊎ ((faults ≡ []) × IsFirstFrom (k + 1) more found)

-- a fault is the first of a specification
abbrev pub IsFirstTypeFault : Spec → TypeFault → Type 0
IsFirstTypeFault spec found = IsFirstFrom 0 (type_faults spec) found
