-- What is met where a declaration has no faults of typing.
use Rattle.std.proofs.Common.{◌≡◌, ℕ, Bool, true, false, List, [], ◌∷◌, ◌++◌, refl}
use Rattle.std.specs.List.{AllByRecursion}
use Rattle.kat_ast.specs.declared.decl.DeclForm.{DeclForm}
use Rattle.kat_syntax.specs.declared.type_rule.TypeRule.{TypeRule}
use Rattle.kat_syntax.specs.Around.{Around}
use Rattle.kat_syntax.specs.FirstTypeFault.{faults_from}
use Rattle.kat_syntax.specs.TypeRules.{Fault, unless}
use Rattle.kat_syntax.specs.TypingDeclarations.{decl_faults, inner_faults, own_names, taken_names}

-- where two lists together are empty, each is
pub no_first : {A : Type 0} (xs ys : List A) → xs ++ ys ≡ [] → xs ≡ []
no_first [] ys e = refl
no_first (x ∷ xs) ys e = absurd (let f : x ∷ (xs ++ ys) ≡ [] = e in cc)

pub no_second : {A : Type 0} (xs ys : List A) → xs ++ ys ≡ [] → ys ≡ []
no_second [] ys e = e
no_second (x ∷ xs) ys e = absurd (let f : x ∷ (xs ++ ys) ≡ [] = e in cc)

-- where a condition has no fault it is met
pub met : (b : Bool) (tree : ℕ) (rule : TypeRule) → unless b tree rule ≡ [] → b ≡ true
met true tree rule e = refl
met false tree rule e = absurd (cc)

-- the declarations from a number on have no faults
abbrev pub AreClean : List DeclForm → ℕ → List DeclForm → Type 0
AreClean all k decls =
    AllByRecursion (λ (faults : List Fault). faults ≡ []) (faults_from all k decls)

-- a declaration's own names are the first of their kind
pub names_clean :
    (around : Around) (decl : DeclForm) → decl_faults around decl ≡ [] →
    taken_names around (own_names around decl) ≡ []
names_clean around decl e = no_first _ _ e

-- what stands behind its names and the limits has no faults
pub inner_clean :
    (around : Around) (decl : DeclForm) → decl_faults around decl ≡ [] →
    inner_faults around decl ≡ []
inner_clean around decl e = no_second _ _ (no_second _ _ e)
