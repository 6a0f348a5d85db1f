-- A typed specification has a step function.
use Rattle.std.proofs.Common.{◌≡◌, ◌∙◌, ℕ, ◌+◌, ◌⊎◌, inl, inr, ⊎_elim, Bool, true, false, ◌||◌, if◌then◌else◌, List, [], ◌∷◌, ◌++◌, Option, Some, None, is_some, option_and_then, refl, ap, sym, subst}
use Rattle.std.specs.List.{AllByRecursion, list_any}
use Rattle.std.specs.Option.{option_or}
use Rattle.std.specs.Str.{bytes_eq}
use Rattle.kat_ast.specs.Spec.{Spec}
use Rattle.kat_ast.specs.declared.decl.DeclForm.{DeclForm}
use Rattle.kat_ast.specs.declared.decl.DeclForm.TheVariants as d
use Rattle.kat_ast.specs.declared.type_name.Param.{Param}
use Rattle.kat_ast.specs.Types.{trees_of_param}
use Rattle.kat_syntax.specs.declared.type_rule.TypeRule.{TypeRule}
use Rattle.kat_syntax.specs.declared.type_rule.TypeRule.TheVariants as rule
use Rattle.kat_syntax.specs.Tables.{Name, function_at, function_from, is_function, step_of, step_function_of}
use Rattle.kat_syntax.specs.TypeRules.{Fault, unless}
use Rattle.kat_syntax.specs.Declares.{Declared, AFunction, typed_params, type_of_name, declared_in, declared_from, declared_by, members_from, ctors_from, look_up, is_type_decl}
use Rattle.kat_syntax.specs.Around.{Around, FunctionSeen, a_function, meant}
use Rattle.kat_syntax.specs.TypingExpressions.{unknown}
use Rattle.kat_syntax.specs.TypingDeclarations.{is_step, own_names, taken_names, is_in_limits, inner_faults, decl_faults}
use Rattle.kat_syntax.specs.FirstTypeFault.{IsTyped, faults_from, missing_faults}

pub empty_first : {A : Type 0} (xs ys : List A) → xs ++ ys ≡ [] → xs ≡ []
empty_first [] ys e = refl
empty_first (x ∷ xs) ys e = absurd (let f : x ∷ (xs ++ ys) ≡ [] = e in cc)

pub empty_second : {A : Type 0} (xs ys : List A) → xs ++ ys ≡ [] → ys ≡ []
empty_second [] ys e = e
empty_second (x ∷ xs) ys e = absurd (let f : x ∷ (xs ++ ys) ≡ [] = e in cc)

-- where there is no fault, the condition is met
pub met : (b : Bool) (at : ℕ) (rule : TypeRule) → unless b at rule ≡ [] → b ≡ true
met true at rule e = refl
met false at rule e = absurd (let f : record { tree = at; rule = rule } ∷ [] ≡ [] = e in cc)

-- a declaration names the step function, or it does not count for it
abbrev StepCases : DeclForm → Type 0
StepCases decl =
    ((f : Name) × (decl ≡ d.Step f))
    ⊎ ((is_step decl ≡ false) × ((decls : List DeclForm) → step_of (decl ∷ decls) ≡ step_of decls))

step_cases : (decl : DeclForm) → StepCases decl
step_cases (d.Enum x members) = inr (refl, λ decls. refl)
step_cases (d.Union x ctors) = inr (refl, λ decls. refl)
step_cases (d.Record x fields) = inr (refl, λ decls. refl)
step_cases (d.Register x type kind) = inr (refl, λ decls. refl)
step_cases (d.Memory a c lo hi) = inr (refl, λ decls. refl)
step_cases (d.Cells kind lo hi) = inr (refl, λ decls. refl)
step_cases (d.Code lo values) = inr (refl, λ decls. refl)
step_cases (d.Region x params i e) = inr (refl, λ decls. refl)
step_cases (d.Predicate x inputs outputs definition) = inr (refl, λ decls. refl)
step_cases (d.Fun x params result body) = inr (refl, λ decls. refl)
step_cases (d.Contract f names pre x post) = inr (refl, λ decls. refl)
step_cases (d.Lemma x params names pre post steps) = inr (refl, λ decls. refl)
step_cases (d.Step f) = inl (f, refl)
step_cases (d.Dispatch cases otherwise) = inr (refl, λ decls. refl)
step_cases (d.Untrusted holds) = inr (refl, λ decls. refl)
step_cases (d.Block block) = inr (refl, λ decls. refl)
step_cases (d.Boot x) = inr (refl, λ decls. refl)

-- nothing is missing
none_missing : (all : List DeclForm) (k : ℕ) (decls : List DeclForm) →
    AllByRecursion (λ faults. faults ≡ []) (faults_from all k decls) → missing_faults all ≡ []
none_missing all k [] typed = typed.0
none_missing all k (decl ∷ decls) typed = none_missing all (k + 1) decls typed.1

-- where some declaration is a `step`, it names a function
names_step : (decls : List DeclForm) → list_any is_step decls ≡ true →
    (f : Name) × (step_of decls ≡ Some f)
names_step [] e = absurd cc
names_step (decl ∷ decls) e = by (names_step decls) (step_cases decl) where
  by : (list_any is_step decls ≡ true → (f : Name) × (step_of decls ≡ Some f)) → StepCases decl →
      (f : Name) × (step_of (decl ∷ decls) ≡ Some f)
  by behind (inl s) = (s.0, ap (λ x. step_of (x ∷ decls)) s.1)
  by behind (inr n) =
      let later : list_any is_step decls ≡ true =
      sym (ap (λ b. b || list_any is_step decls) n.0) ∙ e in
      let rest = behind later in (rest.0, n.1 decls ∙ rest.1)

-- a function of this name is known
abbrev IsKnown : List DeclForm → Name → Type 0
IsKnown all f = is_some (look_up a_function (declared_by all) f) ≡ true

-- the step function's name is known
step_known : (all : List DeclForm) (k : ℕ) (decls : List DeclForm) (f : Name) →
    AllByRecursion (λ faults. faults ≡ []) (faults_from all k decls) → step_of decls ≡ Some f →
    IsKnown all f
step_known all k [] f typed e = absurd (let g : None ≡ Some f = e in cc)
step_known all k (decl ∷ decls) f typed e =
    by (step_known all (k + 1) decls f typed.1) (step_cases decl) where
      by : (step_of decls ≡ Some f → IsKnown all f) → StepCases decl → IsKnown all f
      by behind (inl s) =
          let around : Around = record { decls = all; number = k } in
          let none : decl_faults around (d.Step s.0) ≡ [] =
          sym (ap (decl_faults around) s.1) ∙ typed.0 in
          let inner : inner_faults around (d.Step s.0) ≡ [] =
          empty_second (unless (is_in_limits around (d.Step s.0)) 0 rule.TooMany) _
          (empty_second (taken_names around (own_names around (d.Step s.0))) _ none) in
          let known : IsKnown all s.0 =
          met (is_some (meant a_function around s.0)) 2 rule.NameUnknown
          (empty_first (unknown 2 (meant a_function around s.0)) _ inner) in
          let same : Some s.0 ≡ Some f = sym (ap (λ x. step_of (x ∷ decls)) s.1) ∙ e in
          let name : s.0 ≡ f = cc in
          subst (IsKnown all) name known
      by behind (inr n) = behind (sym (n.1 decls) ∙ e)

-- a declared name that is no function changes nothing
other_name : (b : Bool) {A : Type 0} (o : Option A) → (if b then option_or None o else o) ≡ o
other_name true o = refl
other_name false o = refl

module _ (all : List DeclForm) (f : Name) where
  abbrev seek : List Declared → Option FunctionSeen
  seek declared = look_up a_function declared f

  -- members and constructors are no functions
  skip_members : (k p at : ℕ) (members : List Name) (rest : List Declared) →
      seek (members_from k p at members ++ rest) ≡ seek rest
  skip_members k p at [] rest = refl
  skip_members k p at (x ∷ members) rest =
      other_name (bytes_eq x f) (seek (members_from k p (at + 1) members ++ rest))
      ∙ skip_members k p (at + 1) members rest

  skip_ctors : (k p at : ℕ) (ctors : List Param) (rest : List Declared) →
      seek (ctors_from all k p at ctors ++ rest) ≡ seek rest
  skip_ctors k p at [] rest = refl
  skip_ctors k p at (ctor ∷ ctors) rest =
      other_name (bytes_eq ctor.name f) (seek (ctors_from all k p (at + trees_of_param ctor) ctors ++ rest))
      ∙ skip_ctors k p (at + trees_of_param ctor) ctors rest

  -- a declaration is the function, or what it declares does not count for it
  abbrev FunctionCases : ℕ → ℕ → DeclForm → Type 0
  FunctionCases k p decl =
      ((j : ℕ) (decls : List DeclForm) → is_some (function_from j (decl ∷ decls) f) ≡ true)
      ⊎ (((j : ℕ) (decls : List DeclForm) →
      function_from j (decl ∷ decls) f ≡ function_from (j + 1) decls f)
      × ((rest : List Declared) → seek (declared_in all k p decl ++ rest) ≡ seek rest))

  function_cases : (k p : ℕ) (decl : DeclForm) → FunctionCases k p decl
  function_cases k p (d.Enum x members) =
      inr (
        λ j decls. refl,
        λ rest.
            other_name (bytes_eq x f) (seek (members_from k p 4 members ++ rest))
            ∙ skip_members k p 4 members rest,
      )
  function_cases k p (d.Union x ctors) =
      inr (
        λ j decls. refl,
        λ rest.
            other_name (bytes_eq x f) (seek (ctors_from all k p 4 ctors ++ rest))
            ∙ skip_ctors k p 4 ctors rest,
      )
  function_cases k p (d.Record x fields) =
      inr (λ j decls. refl, λ rest. other_name (bytes_eq x f) (seek rest))
  function_cases k p (d.Register x type kind) =
      inr (λ j decls. refl, λ rest. other_name (bytes_eq x f) (seek rest))
  function_cases k p (d.Memory a c lo hi) = inr (λ j decls. refl, λ rest. refl)
  function_cases k p (d.Cells kind lo hi) = inr (λ j decls. refl, λ rest. refl)
  function_cases k p (d.Code lo values) = inr (λ j decls. refl, λ rest. refl)
  function_cases k p (d.Region x params i e) =
      inr (λ j decls. refl, λ rest. other_name (bytes_eq x f) (seek rest))
  function_cases k p (d.Predicate x inputs outputs definition) =
      inr (λ j decls. refl, λ rest. other_name (bytes_eq x f) (seek rest))
  function_cases k p (d.Fun x params result body) = by (bytes_eq x f) refl where
    by : (b : Bool) → bytes_eq x f ≡ b → FunctionCases k p (d.Fun x params result body)
    by true same =
        inl (λ j decls. ap (λ (b : Bool). is_some (if b then function_at j (d.Fun x params result body) else function_from (j + 1) decls f)) same)
    by false same =
        inr (
          λ j decls. ap (λ (b : Bool). if b then function_at j (d.Fun x params result body) else function_from (j + 1) decls f) same,
          λ rest. ap (λ (b : Bool). if b then option_or (a_function k (AFunction (typed_params all k params) (type_of_name all k result))) (seek rest) else seek rest) same,
        )
  function_cases k p (d.Contract g names pre x post) = inr (λ j decls. refl, λ rest. refl)
  function_cases k p (d.Lemma x params names pre post steps) =
      inr (λ j decls. refl, λ rest. other_name (bytes_eq x f) (seek rest))
  function_cases k p (d.Step g) = inr (λ j decls. refl, λ rest. refl)
  function_cases k p (d.Dispatch cases otherwise) = inr (λ j decls. refl, λ rest. refl)
  function_cases k p (d.Untrusted holds) = inr (λ j decls. refl, λ rest. refl)
  function_cases k p (d.Block block) =
      inr (λ j decls. refl, λ rest. other_name (bytes_eq block.name f) (seek rest))
  function_cases k p (d.Boot x) = inr (λ j decls. refl, λ rest. refl)

  -- a function that is known is declared
  is_declared : (k p j : ℕ) (decls : List DeclForm) →
      is_some (seek (declared_from all k p decls)) ≡ true →
      is_some (function_from j decls f) ≡ true
  is_declared k p j [] e = e
  is_declared k p j (decl ∷ decls) e =
      by (is_declared (k + 1) (if is_type_decl decl then p + 1 else p) (j + 1) decls) (function_cases k p decl) where
        by : (is_some (seek (declared_from all (k + 1) (if is_type_decl decl then p + 1 else p) decls)) ≡ true → is_some (function_from (j + 1) decls f) ≡ true) → FunctionCases k p decl →
            is_some (function_from j (decl ∷ decls) f) ≡ true
        by behind (inl here) = here j decls
        by behind (inr other) =
            ap is_some (other.0 j decls) ∙ behind (sym (ap is_some (other.1 (declared_from all (k + 1) (if is_type_decl decl then p + 1 else p) decls))) ∙ e)

-- a typed specification has a step function
pub has_step_function : (spec : Spec) → IsTyped spec → is_some (step_function_of spec.decls) ≡ true
has_step_function spec typed =
    let all = spec.decls in
    let named = names_step all (met (list_any is_step all) 0 rule.NotOnce
    (empty_first (unless (list_any is_step all) 0 rule.NotOnce) _ (none_missing all 0 all typed))) in
    let known : IsKnown all named.0 = step_known all 0 all named.0 typed named.1 in
    ap (λ (o : Option Name). is_some (option_and_then (function_from 0 all) o)) named.1
    ∙ is_declared all named.0 0 0 0 all known
