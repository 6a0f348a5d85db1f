-- Where no name stands twice, each is the first of its name, and no declaration's name is taken.
use Rattle.std.proofs.Common.{◌≡◌, ℕ, zero, suc, ◌+◌, Bool, ◌==◌, ◌&&◌, true, if◌then◌else◌, List, [], ◌∷◌, ◌++◌, map, slice_get, Some, refl, sym, ap, ◌∙◌, arith}
use Rattle.std.specs.Prelude.{unwrap_or}
use Rattle.std.specs.List.{AllByRecursion}
use Rattle.std.proofs.lemmas.Option.{slice_get_within}
use Rattle.std.proofs.lemmas.Bool.Decides.{nat_tests}
use Rattle.kat_ast.specs.declared.type_name.Param.{Param}
use Rattle.kat_ast.specs.declared.decl.DeclForm.{DeclForm}
use Rattle.kat_ast.specs.declared.decl.DeclForm.TheVariants as d
use Rattle.kat_ast.specs.Types.{trees_of_param}
use Rattle.kat_syntax.specs.Tables.{Name}
use Rattle.kat_syntax.specs.declared.type_rule.TypeRule.TheVariants.{NameTaken}
use Rattle.kat_syntax.specs.TypeRules.{Fault, unless}
use Rattle.kat_syntax.specs.Around.{Around, first_named}
use Rattle.kat_syntax.specs.Declares.{Declared, is_type_decl, declared_by, declared_from, declared_in, members_from, ctors_from}
use Rattle.kat_syntax.specs.TypingDeclarations.{stands_at, taken_names, own_names}
use Rattle.kat_tables.specs.Meanings.{noted, AreFirst}
use Rattle.kat_tables.proofs.Lookups.{place_of, stands_as_found}

-- each of some declared names stands first of its name among all
abbrev pub StandFirst : List Declared → List Declared → Type 0
StandFirst all some = AllByRecursion
    (λ (one : Declared). stands_at one.decl one.tree (first_named all one.name) ≡ true) some

same_number : (n : ℕ) → (n == n) ≡ true
same_number n = grind (arith, nat_tests)

-- noted names that stand first are declared names that do
pub stand_first : (all some : List Declared) → AreFirst (map noted all) (map noted some) →
    StandFirst all some
stand_first all [] are = tt
stand_first all (one ∷ more) are = (
  sym (stands_as_found all one.name one.decl one.tree (Some (place_of one)) (sym are.0))
      ∙ ap (λ b. b && (one.tree == one.tree)) (same_number one.decl) ∙ same_number one.tree,
  stand_first all more are.1,
)

-- names that stand first are not taken
none_taken : (around : Around) (some : List Declared) →
    StandFirst (declared_by around.decls) some → taken_names around some ≡ []
none_taken around [] are = refl
none_taken around (one ∷ more) are =
    ap (λ (b : Bool). unless b one.tree NameTaken ++ taken_names around more) are.0
    ∙ none_taken around more are.1

first_part : {A : Type 0} (P : A → Type 0) (xs ys : List A) → AllByRecursion P (xs ++ ys) →
    AllByRecursion P xs
first_part P [] ys all = tt
first_part P (x ∷ xs) ys all = (all.0, first_part P xs ys all.1)

last_part : {A : Type 0} (P : A → Type 0) (xs ys : List A) → AllByRecursion P (xs ++ ys) →
    AllByRecursion P ys
last_part P [] ys all = all
last_part P (x ∷ xs) ys all = last_part P xs ys all.1

-- the fault of one name before those of others
abbrev one_taken : Around → ℕ → ℕ → Name → List Fault → List Fault
one_taken around k tree x rest =
    unless (stands_at k tree (first_named (declared_by around.decls) x)) tree NameTaken ++ rest

taken_members : (around : Around) (k p q tree : ℕ) (members : List Name) →
    taken_names around (members_from k p tree members)
    ≡ taken_names around (members_from k q tree members)
taken_members around k p q tree [] = refl
taken_members around k p q tree (x ∷ more) =
    ap (one_taken around k tree x) (taken_members around k p q (tree + 1) more)

taken_ctors : (around : Around) (k p q at : ℕ) (ctors : List Param) →
    taken_names around (ctors_from around.decls k p at ctors)
    ≡ taken_names around (ctors_from around.decls k q at ctors)
taken_ctors around k p q at [] = refl
taken_ctors around k p q at (ctor ∷ more) =
    ap (one_taken around k (at + 1) ctor.name)
    (taken_ctors around k p q (at + trees_of_param ctor) more)

-- which names are taken, whatever the position of the type
taken_any : (around : Around) (k p q : ℕ) (form : DeclForm) →
    taken_names around (declared_in around.decls k p form)
    ≡ taken_names around (declared_in around.decls k q form)
taken_any around k p q (d.Enum x members) =
    ap (one_taken around k 2 x) (taken_members around k p q 4 members)
taken_any around k p q (d.Union x ctors) =
    ap (one_taken around k 2 x) (taken_ctors around k p q 4 ctors)
taken_any around k p q (d.Record x fields) = refl
taken_any around k p q (d.Register x type kind) = refl
taken_any around k p q (d.Memory w v lo hi) = refl
taken_any around k p q (d.Cells kind lo hi) = refl
taken_any around k p q (d.Code lo values) = refl
taken_any around k p q (d.Region x params n t) = refl
taken_any around k p q (d.Predicate x inputs outputs definition) = refl
taken_any around k p q (d.Fun x params result body) = refl
taken_any around k p q (d.Contract x names pre y post) = refl
taken_any around k p q (d.Lemma x params names pre post steps) = refl
taken_any around k p q (d.Step x) = refl
taken_any around k p q (d.Dispatch cases otherwise) = refl
taken_any around k p q (d.Untrusted holds) = refl
taken_any around k p q (d.Block block) = refl
taken_any around k p q (d.Boot x) = refl

-- no name of the declaration of a number is taken, the first having the number k
free_from : (around : Around) (forms : List DeclForm) (k p n : ℕ) (form : DeclForm) →
    StandFirst (declared_by around.decls) (declared_from around.decls k p forms) →
    slice_get forms n ≡ Some form →
    taken_names around (declared_in around.decls (k + n) 0 form) ≡ []
free_from around [] k p n form are is =
    let within = slice_get_within [] n form is in absurd (omega (arith, within))
free_from around (one ∷ forms) k p zero form are is =
    let same : one ≡ form = ap (λ o. unwrap_or o form) is in
    let here : k + zero ≡ k = omega arith in
    ap (λ m. taken_names around (declared_in around.decls m 0 form)) here
    ∙ ap (λ f. taken_names around (declared_in around.decls k 0 f)) (sym same)
    ∙ taken_any around k 0 p one
    ∙ none_taken around (declared_in around.decls k p one) (first_part _
    (declared_in around.decls k p one)
    (declared_from around.decls (k + 1) (if is_type_decl one then p + 1 else p) forms) are)
free_from around (one ∷ forms) k p (suc n) form are is =
    let next : k + suc n ≡ k + 1 + n = omega arith in
    ap (λ m. taken_names around (declared_in around.decls m 0 form)) next
    ∙ free_from around forms (k + 1) (if is_type_decl one then p + 1 else p) n form
    (last_part _ (declared_in around.decls k p one)
    (declared_from around.decls (k + 1) (if is_type_decl one then p + 1 else p) forms) are)
    is

-- where each name stands first, no name of a declaration is taken
pub names_free : (around : Around) (form : DeclForm) →
    AreFirst (map noted (declared_by around.decls)) (map noted (declared_by around.decls)) →
    slice_get around.decls around.number ≡ Some form →
    taken_names around (own_names around form) ≡ []
names_free around form are is =
    let all = declared_by around.decls in
    let here : around.number ≡ 0 + around.number = omega arith in
    ap (λ n. taken_names around (declared_in around.decls n 0 form)) here
    ∙ free_from around around.decls 0 0 around.number form (stand_first all all are) is
