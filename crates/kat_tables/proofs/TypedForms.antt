-- The declarations of types, by position.
use Rattle.std.proofs.Common.{◌≡◌, ℕ, zero, suc, ◌+◌, ◌<◌, ◌==◌, Bool, true, false, cond, if◌then◌else◌, List, [], ◌∷◌, ◌++◌, map, filter, slice_get, Option, None, Some, refl, sym, ap, ◌∙◌, arith}
use Rattle.std.specs.Prelude.{option_and_then, unwrap_or}
use Rattle.std.specs.Option.{option_map}
use Rattle.std.specs.List.{AllByRecursion}
use Rattle.std.proofs.lemmas.Bool.Decides.{nat_tests}
use Rattle.std.proofs.lemmas.List.{map-append}
use Rattle.std.proofs.lemmas.List.Elements.{filter-append}
use Rattle.std.proofs.lemmas.Option.{slice_get-map}
use Rattle.kat_ast.specs.declared.type_name.Param.{Param}
use Rattle.kat_ast.specs.declared.decl.DeclForm.{DeclForm}
use Rattle.kat_ast.specs.declared.decl.DeclForm.TheVariants as d
use Rattle.kat_ast.specs.Types.{trees_of_param}
use Rattle.kat_syntax.specs.Tables.{Name}
use Rattle.kat_syntax.specs.Declares.{Declared, Meant, AMember, ACtor, TypedName, typed_params, type_of_name, type_heads_from, type_heads, fields_from, members_from, ctors_from, declared_in, declared_from, declared_by, is_type_decl}
use Rattle.kat_syntax.specs.Around.{is_member_of, is_ctor_of}
use Rattle.kat_syntax.specs.DeclaredTypes.{head_numbers}
use Rattle.kat_tables.specs.Forms.{members_of, ctors_of, fields_of}
use Rattle.kat_tables.proofs.DeclaredForms.{StandFrom, stand_here, stand_on, all_stand}

-- the names of which a test holds
abbrev pub names_in : (Meant → Bool) → List Declared → List Name
names_in test ones =
    map (λ (one : Declared). one.name) (filter (λ (one : Declared). test one.is) ones)

names_in-append : (test : Meant → Bool) (xs ys : List Declared) →
    names_in test (xs ++ ys) ≡ names_in test xs ++ names_in test ys
names_in-append test xs ys =
    ap (map (λ (one : Declared). one.name))
    (filter-append (λ (one : Declared). test one.is) xs ys)
    ∙ map-append (λ (one : Declared). one.name)
    (filter (λ (one : Declared). test one.is) xs) (filter (λ (one : Declared). test one.is) ys)

-- the names of constructors
abbrev pub ctor_names : DeclForm → List Name
ctor_names form = map (λ (ctor : Param). ctor.name) (ctors_of form)

-- the numbers and forms of the declarations of types, the first declaration having the number k
abbrev pub typed_forms : ℕ → List DeclForm → List (ℕ × DeclForm)
typed_forms k [] = []
typed_forms k (decl ∷ decls) =
    if is_type_decl decl then (k, decl) ∷ typed_forms (k + 1) decls else typed_forms (k + 1) decls

next_number : (k p : ℕ) (decl : DeclForm) (decls : List DeclForm) →
    head_numbers (type_heads_from k p (decl ∷ decls))
    ≡ (if is_type_decl decl then k ∷ head_numbers (type_heads_from (k + 1) (p + 1) decls)
    else head_numbers (type_heads_from (k + 1) p decls))
next_number k p (d.Enum x members) decls = refl
next_number k p (d.Union x ctors) decls = refl
next_number k p (d.Record x fields) decls = refl
next_number k p _ decls = refl

next_fields : (all : List DeclForm) (k : ℕ) (decl : DeclForm) (decls : List DeclForm) →
    fields_from all k (decl ∷ decls)
    ≡ (if is_type_decl decl
    then typed_params all k (fields_of decl) ∷ fields_from all (k + 1) decls
    else fields_from all (k + 1) decls)
next_fields all k (d.Enum x members) decls = refl
next_fields all k (d.Union x ctors) decls = refl
next_fields all k (d.Record x fields) decls = refl
next_fields all k _ decls = refl

-- the numbers of the declared types
pub numbers_are : (k p : ℕ) (decls : List DeclForm) →
    head_numbers (type_heads_from k p decls)
    ≡ map (λ (one : ℕ × DeclForm). one.0) (typed_forms k decls)
numbers_are k p [] = refl
numbers_are k p (decl ∷ decls) =
    next_number k p decl decls
    ∙ elim (is_type_decl decl) as (λ b.
    (if b then k ∷ head_numbers (type_heads_from (k + 1) (p + 1) decls)
    else head_numbers (type_heads_from (k + 1) p decls))
    ≡ map (λ (one : ℕ × DeclForm). one.0)
    (if b then (k, decl) ∷ typed_forms (k + 1) decls else typed_forms (k + 1) decls)) [
      | true ↦ ap (λ ns. k ∷ ns) (numbers_are (k + 1) (p + 1) decls)
      | false ↦ numbers_are (k + 1) p decls
    ]

-- the fields of the type of a number and form
abbrev pub fields_in : List DeclForm → ℕ × DeclForm → List TypedName
fields_in all one = typed_params all one.0 (fields_of one.1)

-- the fields of the declared types
pub fields_are : (all : List DeclForm) (k : ℕ) (decls : List DeclForm) →
    fields_from all k decls ≡ map (fields_in all) (typed_forms k decls)
fields_are all k [] = refl
fields_are all k (decl ∷ decls) =
    next_fields all k decl decls
    ∙ elim (is_type_decl decl) as (λ b.
    (if b then typed_params all k (fields_of decl) ∷ fields_from all (k + 1) decls
    else fields_from all (k + 1) decls)
    ≡ map (fields_in all)
    (if b then (k, decl) ∷ typed_forms (k + 1) decls else typed_forms (k + 1) decls)) [
      | true ↦ ap (λ ns. typed_params all k (fields_of decl) ∷ ns) (fields_are all (k + 1) decls)
      | false ↦ fields_are all (k + 1) decls
    ]

-- a form stands at its number
abbrev pub Stands : List DeclForm → ℕ × DeclForm → Type 0
Stands all one = slice_get all one.0 ≡ Some one.1

forms_stand : (all : List DeclForm) (k : ℕ) (decls : List DeclForm) → StandFrom all k decls →
    AllByRecursion (Stands all) (typed_forms k decls)
forms_stand all k [] stand = tt
forms_stand all k (decl ∷ decls) stand =
    let rest = forms_stand all (k + 1) decls (stand_on stand) in
    elim (is_type_decl decl) as (λ b. AllByRecursion (Stands all)
    (if b then (k, decl) ∷ typed_forms (k + 1) decls else typed_forms (k + 1) decls))
    [ true ↦ (stand_here stand, rest) | false ↦ rest ]

form_at_number : (all : List DeclForm) (ones : List (ℕ × DeclForm)) (j : ℕ) →
    AllByRecursion (Stands all) ones →
    option_and_then (slice_get all) (slice_get (map (λ (one : ℕ × DeclForm). one.0) ones) j)
    ≡ option_map (λ (one : ℕ × DeclForm). one.1) (slice_get ones j)
form_at_number all [] j stand = refl
form_at_number all (one ∷ ones) zero stand = stand.0
form_at_number all (one ∷ ones) (suc j) stand = form_at_number all ones j stand.1

-- the form of the type at a position
pub type_form_is : (all : List DeclForm) (j : ℕ) →
    option_and_then (slice_get all) (slice_get (head_numbers (type_heads all)) j)
    ≡ option_map (λ (one : ℕ × DeclForm). one.1) (slice_get (typed_forms 0 all) j)
type_form_is all j =
    ap (λ ns. option_and_then (slice_get all) (slice_get ns j)) (numbers_are 0 0 all)
    ∙ form_at_number all (typed_forms 0 all) j (forms_stand all 0 all (all_stand all))

-- names that a test of a position picks are those that the form of the type at it gives
pub record IsPicked (all : List DeclForm) (test : ℕ → Meant → Bool)
    (gives : DeclForm → List Name) : Type 0 where
  pub picks : (k q p : ℕ) (decl : DeclForm) →
      names_in (test q) (declared_in all k p decl)
      ≡ (if is_type_decl decl then if q == p then gives decl else [] else [])

-- the names that a form gives, where there is one
abbrev pub names_given : (DeclForm → List Name) → Option (ℕ × DeclForm) → List Name
names_given gives None = []
names_given gives (Some one) = gives one.1

other_position : (q p : ℕ) (names : List Name) → (q ≡ p → ⊥) →
    (if q == p then names else []) ≡ []
other_position q p names differ = grind (arith, nat_tests)

same_position : (q p : ℕ) (names : List Name) → q ≡ p → (if q == p then names else []) ≡ names
same_position q p names same = grind (arith, nat_tests)

append_none : (names : List Name) → names ++ [] ≡ names
append_none [] = refl
append_none (x ∷ names) = ap (λ l. x ∷ l) (append_none names)

-- nothing is picked for a position before the next type
none_before : (all : List DeclForm) (test : ℕ → Meant → Bool) (gives : DeclForm → List Name) →
    IsPicked all test gives → (k q p : ℕ) (decls : List DeclForm) → q < p →
    names_in (test q) (declared_from all k p decls) ≡ []
none_before all test gives picked k q p [] before = refl
none_before all test gives picked k q p (decl ∷ decls) before =
    names_in-append (test q) (declared_in all k p decl)
    (declared_from all (k + 1) (if is_type_decl decl then p + 1 else p) decls)
    ∙ ap (λ l. l ++ names_in (test q)
    (declared_from all (k + 1) (if is_type_decl decl then p + 1 else p) decls))
    (picked.picks k q p decl)
    ∙ elim (is_type_decl decl) as (λ b.
    (if b then if q == p then gives decl else [] else [])
    ++ names_in (test q) (declared_from all (k + 1) (if b then p + 1 else p) decls) ≡ []) [
      | true ↦ ap (λ l. l ++ names_in (test q) (declared_from all (k + 1) (p + 1) decls))
          (other_position q p (gives decl) (λ same. omega arith))
          ∙ none_before all test gives picked (k + 1) q (p + 1) decls (omega arith)
      | false ↦ none_before all test gives picked (k + 1) q p decls before
    ]

-- where the next declaration is one of a type
first_names : (all : List DeclForm) (test : ℕ → Meant → Bool) (gives : DeclForm → List Name) →
    IsPicked all test gives → (k p j q : ℕ) (decl : DeclForm) (decls : List DeclForm) →
    q ≡ p + j →
    ((i : ℕ) → q ≡ p + 1 + i → names_in (test q) (declared_from all (k + 1) (p + 1) decls)
    ≡ names_given gives (slice_get (typed_forms (k + 1) decls) i)) →
    (if q == p then gives decl else [])
    ++ names_in (test q) (declared_from all (k + 1) (p + 1) decls)
    ≡ names_given gives (slice_get ((k, decl) ∷ typed_forms (k + 1) decls) j)
first_names all test gives picked k p zero q decl decls is rest =
    ap (λ l. l ++ names_in (test q) (declared_from all (k + 1) (p + 1) decls))
    (same_position q p (gives decl) (omega arith))
    ∙ ap (λ l. gives decl ++ l)
    (none_before all test gives picked (k + 1) q (p + 1) decls (omega arith))
    ∙ append_none (gives decl)
first_names all test gives picked k p (suc j) q decl decls is rest =
    ap (λ l. l ++ names_in (test q) (declared_from all (k + 1) (p + 1) decls))
    (other_position q p (gives decl) (λ same. omega arith))
    ∙ rest j (omega arith)

-- what is picked is what the form at the position gives, counted from the next type on
names_from : (all : List DeclForm) (test : ℕ → Meant → Bool) (gives : DeclForm → List Name) →
    IsPicked all test gives → (k p j q : ℕ) (decls : List DeclForm) → q ≡ p + j →
    names_in (test q) (declared_from all k p decls)
    ≡ names_given gives (slice_get (typed_forms k decls) j)
names_from all test gives picked k p j q [] is = refl
names_from all test gives picked k p j q (decl ∷ decls) is =
    names_in-append (test q) (declared_in all k p decl)
    (declared_from all (k + 1) (if is_type_decl decl then p + 1 else p) decls)
    ∙ ap (λ l. l ++ names_in (test q)
    (declared_from all (k + 1) (if is_type_decl decl then p + 1 else p) decls))
    (picked.picks k q p decl)
    ∙ elim (is_type_decl decl) as (λ b.
    (if b then if q == p then gives decl else [] else [])
    ++ names_in (test q) (declared_from all (k + 1) (if b then p + 1 else p) decls)
    ≡ names_given gives (slice_get
    (if b then (k, decl) ∷ typed_forms (k + 1) decls else typed_forms (k + 1) decls) j)) [
      | true ↦ first_names all test gives picked k p j q decl decls is
          (λ i e. names_from all test gives picked (k + 1) (p + 1) i q decls e)
      | false ↦ names_from all test gives picked (k + 1) p j q decls is
    ]

given_by_form : (gives : DeclForm → List Name) (one : Option (ℕ × DeclForm))
    (form : Option DeclForm) → form ≡ option_map (λ (one : ℕ × DeclForm). one.1) one →
    names_given gives one ≡ unwrap_or (option_map gives form) []
given_by_form gives None form is = ap (λ f. unwrap_or (option_map gives f) []) (sym is)
given_by_form gives (Some one) form is = ap (λ f. unwrap_or (option_map gives f) []) (sym is)

-- the names that are picked of all that is declared, by the form of the type at the position
pub names_are : (all : List DeclForm) (test : ℕ → Meant → Bool) (gives : DeclForm → List Name) →
    IsPicked all test gives → (j : ℕ) (form : Option DeclForm) →
    form ≡ option_and_then (slice_get all) (slice_get (head_numbers (type_heads all)) j) →
    unwrap_or (option_map gives form) [] ≡ names_in (test j) (declared_by all)
names_are all test gives picked j form is =
    sym (names_from all test gives picked 0 0 j j all (omega arith)
    ∙ given_by_form gives (slice_get (typed_forms 0 all) j) form (is ∙ type_form_is all j))

one_picked : (b : Bool) (one : Declared) (more : List Declared) (names : List Name) →
    map (λ (one : Declared). one.name) more ≡ (if b then names else []) →
    map (λ (one : Declared). one.name) (cond b (one ∷ more) more)
    ≡ (if b then one.name ∷ names else [])
one_picked true one more names rest = ap (λ l. one.name ∷ l) rest
one_picked false one more names rest = rest

none_either : (b : Bool) → ◌≡◌ {A = List Name} [] (if b then [] else [])
none_either true = refl
none_either false = refl

members_picked : (k q p tree : ℕ) (members : List Name) →
    names_in (is_member_of q) (members_from k p tree members)
    ≡ (if q == p then members else [])
members_picked k q p tree [] = none_either (q == p)
members_picked k q p tree (x ∷ members) =
    one_picked (q == p) (record { decl = k; tree = tree; name = x; is = AMember p })
    (filter (λ (one : Declared). is_member_of q one.is) (members_from k p (tree + 1) members))
    members (members_picked k q p (tree + 1) members)

no_members : (all : List DeclForm) (k q p at : ℕ) (ctors : List Param) →
    names_in (is_member_of q) (ctors_from all k p at ctors) ≡ []
no_members all k q p at [] = refl
no_members all k q p at (ctor ∷ ctors) = no_members all k q p (at + trees_of_param ctor) ctors

members_in : (all : List DeclForm) (k q p : ℕ) (decl : DeclForm) →
    names_in (is_member_of q) (declared_in all k p decl)
    ≡ (if is_type_decl decl then if q == p then members_of decl else [] else [])
members_in all k q p (d.Enum x members) = members_picked k q p 4 members
members_in all k q p (d.Union x ctors) =
    no_members all k q p 4 ctors ∙ none_either (q == p)
members_in all k q p (d.Record x fields) = none_either (q == p)
members_in all k q p _ = refl

-- the members of an enum are those of its declaration
pub members_by_form : (all : List DeclForm) → IsPicked all is_member_of members_of
members_by_form all = record { picks = members_in all }

ctors_picked : (all : List DeclForm) (k q p at : ℕ) (ctors : List Param) →
    names_in (is_ctor_of q) (ctors_from all k p at ctors)
    ≡ (if q == p then map (λ (ctor : Param). ctor.name) ctors else [])
ctors_picked all k q p at [] = none_either (q == p)
ctors_picked all k q p at (ctor ∷ ctors) =
    one_picked (q == p)
    (record {
      decl = k;
      tree = at + 1;
      name = ctor.name;
      is = ACtor p (type_of_name all k ctor.ty);
    })
    (filter (λ (one : Declared). is_ctor_of q one.is)
    (ctors_from all k p (at + trees_of_param ctor) ctors))
    (map (λ (ctor : Param). ctor.name) ctors)
    (ctors_picked all k q p (at + trees_of_param ctor) ctors)

no_ctors : (k q p tree : ℕ) (members : List Name) →
    names_in (is_ctor_of q) (members_from k p tree members) ≡ []
no_ctors k q p tree [] = refl
no_ctors k q p tree (x ∷ members) = no_ctors k q p (tree + 1) members

ctors_in : (all : List DeclForm) (k q p : ℕ) (decl : DeclForm) →
    names_in (is_ctor_of q) (declared_in all k p decl)
    ≡ (if is_type_decl decl then if q == p then ctor_names decl else [] else [])
ctors_in all k q p (d.Enum x members) = no_ctors k q p 4 members ∙ none_either (q == p)
ctors_in all k q p (d.Union x ctors) = ctors_picked all k q p 4 ctors
ctors_in all k q p (d.Record x fields) = none_either (q == p)
ctors_in all k q p _ = refl

-- the constructors of a union are those of its declaration
pub ctors_by_form : (all : List DeclForm) → IsPicked all is_ctor_of ctor_names
ctors_by_form all = record { picks = ctors_in all }

fields_at_place : (all : List DeclForm) (ones : List (ℕ × DeclForm)) (j : ℕ) →
    unwrap_or (slice_get (map (fields_in all) ones) j) []
    ≡ unwrap_or (option_map (fields_in all) (slice_get ones j)) []
fields_at_place all ones j =
    ap (λ o. unwrap_or o []) (slice_get-map (fields_in all) ones j)

number_and_form : (all : List DeclForm) (one : Option (ℕ × DeclForm)) (k : ℕ)
    (form : Option DeclForm) →
    k ≡ unwrap_or (option_map (λ (one : ℕ × DeclForm). one.0) one) 0 →
    form ≡ option_map (λ (one : ℕ × DeclForm). one.1) one →
    unwrap_or (option_map (λ form. typed_params all k (fields_of form)) form) []
    ≡ unwrap_or (option_map (fields_in all) one) []
number_and_form all None k form number is =
    ap (λ f. unwrap_or (option_map (λ form. typed_params all k (fields_of form)) f) []) is
number_and_form all (Some one) k form number is =
    ap (λ f. unwrap_or (option_map (λ form. typed_params all k (fields_of form)) f) []) is
    ∙ ap (λ n. typed_params all n (fields_of one.1)) number

-- the fields of the type at a position, by its number and form
pub fields_by_form : (all : List DeclForm) (j k : ℕ) (form : Option DeclForm) →
    k ≡ unwrap_or (slice_get (head_numbers (type_heads all)) j) 0 →
    form ≡ option_and_then (slice_get all) (slice_get (head_numbers (type_heads all)) j) →
    unwrap_or (option_map (λ form. typed_params all k (fields_of form)) form) []
    ≡ unwrap_or (slice_get (fields_from all 0 all) j) []
fields_by_form all j k form number is =
    number_and_form all (slice_get (typed_forms 0 all) j) k form
    (number ∙ ap (λ ns. unwrap_or (slice_get ns j) 0) (numbers_are 0 0 all)
    ∙ ap (λ o. unwrap_or o 0) (slice_get-map (λ (one : ℕ × DeclForm). one.0) (typed_forms 0 all) j))
    (is ∙ type_form_is all j)
    ∙ sym (fields_at_place all (typed_forms 0 all) j)
    ∙ ap (λ fs. unwrap_or (slice_get fs j) []) (sym (fields_are all 0 all))
