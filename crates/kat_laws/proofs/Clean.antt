-- What a specification without faults of typing says of its declarations, one by one.
use Rattle.std.proofs.Common.{◌≡◌, ◌≢◌, ℕ, ◌+◌, ◌≤◌, eqb, not, Bool, true, false, List, [], ◌∷◌, ◌++◌, length, refl, arith}
use Rattle.std.proofs.lemmas.Bool.{and_parts, eq-eqb, false≢true}
use Rattle.kat_ast.specs.declared.decl.DeclForm.{DeclForm}
use Rattle.kat_ast.specs.Spec.{Spec}
use Rattle.kat_syntax.specs.Limits.{most_declarations}
use Rattle.kat_syntax.specs.declared.type_rule.TypeRule.{TypeRule}
use Rattle.kat_syntax.specs.declared.type_rule.TypeRule.TheVariants.{TooMany}
use Rattle.kat_syntax.specs.TypeRules.{unless}
use Rattle.kat_syntax.specs.Around.{Around}
use Rattle.kat_syntax.specs.TypingDeclarations.{decl_faults, inner_faults, taken_names, own_names, is_in_limits}
use Rattle.kat_syntax.specs.FirstTypeFault.{IsTyped}
use Rattle.kat_laws.specs.CleanDeclarations.{AreClean, CleanDeclarations}

-- where two lists together are empty, each is
pub empty_first : {A : Type 0} (xs ys : List A) → xs ++ ys ≡ [] → xs ≡ []
empty_first [] ys e = refl
empty_first (x ∷ xs) ys e = absurd (let f : x ∷ (xs ++ ys) ≡ [] = e in cc)

pub empty_second : {A : Type 0} (xs ys : List A) → xs ++ ys ≡ [] → ys ≡ []
empty_second [] ys e = e
empty_second (x ∷ xs) ys e = absurd (let f : x ∷ (xs ++ ys) ≡ [] = e in cc)

-- where a condition has no fault it is met
pub met : (b : Bool) (tree : ℕ) (rule : TypeRule) → unless b tree rule ≡ [] → b ≡ true
met true tree rule e = refl
met false tree rule e = absurd (cc)

-- a declaration's own names are the first of their kind
pub names_clean : (all : List DeclForm) (k : ℕ) (decl : DeclForm) →
    decl_faults (record { decls = all; number = k }) decl ≡ [] →
    taken_names (record { decls = all; number = k }) (own_names (record { decls = all; number = k })
    decl) ≡ []
names_clean all k decl e =
    let around : Around = record { decls = all; number = k } in
    empty_first (taken_names around (own_names around decl)) (unless (is_in_limits around decl) 0
    TooMany ++ inner_faults around decl) e

-- what stands behind its names and the limits has no faults
pub inner_clean : (all : List DeclForm) (k : ℕ) (decl : DeclForm) →
    decl_faults (record { decls = all; number = k }) decl ≡ [] → inner_faults
    (record { decls = all; number = k }) decl ≡ []
inner_clean all k decl e =
    let around : Around = record { decls = all; number = k } in
    let inner = inner_faults around decl in
    let limits = unless (is_in_limits around decl) 0 TooMany in
    empty_second limits inner (empty_second (taken_names around (own_names around decl))
    (limits ++ inner) e)

never : (b : Bool) → not b ≡ true → b ≡ true → ⊥
never true fails holds = false≢true fails
never false fails holds = false≢true holds

-- a declaration does not stand behind the last one that may be there
not_too_many : (all : List DeclForm) (k : ℕ) (decl : DeclForm) →
    decl_faults (record { decls = all; number = k }) decl ≡ [] → k ≢ most_declarations
not_too_many all k decl e = λ same.
    let around : Around = record { decls = all; number = k } in
    let inner = inner_faults around decl in
    let limits = unless (is_in_limits around decl) 0 TooMany in
    let within : is_in_limits around decl ≡ true =
    met (is_in_limits around decl) 0 TooMany
    (empty_first limits inner (empty_second (taken_names around (own_names around decl))
    (limits ++ inner) e)) in
    let not_last : not (eqb k most_declarations) ≡ true = (and_parts _ _ within).0 in
    never (eqb k most_declarations) not_last (eq-eqb k most_declarations same)

pub few_from : (all : List DeclForm) (k : ℕ) (decls : List DeclForm) → k ≤ most_declarations →
    AreClean all k decls →
    k + length decls ≤ most_declarations
few_from all k [] few clean = omega arith
few_from all k (decl ∷ decls) few clean =
    let other = not_too_many all k decl clean.0 in
    let more = few_from all (k + 1) decls (omega arith) clean.1 in
    omega (arith, more)

-- a typed specification has few declarations
pub few_declarations : (spec : Spec) → IsTyped spec → length spec.decls ≤ most_declarations
few_declarations spec typed =
    let all = few_from spec.decls 0 spec.decls (omega arith) typed in
    omega (arith, all)

pub clean_declarations : CleanDeclarations
clean_declarations = record {
  first = λ faults more e. empty_first faults more e;
  second = λ faults more e. empty_second faults more e;
  met = met;
  names = λ around decl e. names_clean around.decls around.number decl e;
  inner = λ around decl e. inner_clean around.decls around.number decl e;
  few = few_declarations;
}
