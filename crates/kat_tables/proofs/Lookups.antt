-- What the tables tell of a name, and what the name means.
use Rattle.std.proofs.Common.{◌≡◌, ℕ, Bool, true, false, ◌&&◌, ◌||◌, ◌==◌, if◌then◌else◌, is_some, List, [], ◌∷◌, map, slice_get, Option, None, Some, refl, ap, ◌∙◌}
use Rattle.std.specs.Prelude.{option_and_then}
use Rattle.std.specs.List.{list_any, AllByRecursion}
use Rattle.std.specs.Option.{option_map, option_or}
use Rattle.std.specs.Str.{bytes_eq}
use Rattle.kat_ast.specs.declared.decl.DeclForm.{DeclForm}
use Rattle.kat_syntax.specs.Tables.{Name}
use Rattle.kat_syntax.specs.Declares.{Declared, Meant, Kind, look_up, declared_by, TypedName}
use Rattle.kat_syntax.specs.Declares as meant
use Rattle.kat_syntax.specs.Around.{Around, FunctionSeen, ProofSeen, first_named, meant as meant_as, a_member, a_ctor, a_register, a_region, a_predicate, a_function, a_lemma, a_block}
use Rattle.kat_syntax.specs.TypingDeclarations.{stands_at}
use Rattle.kat_tables.specs.declared.seen.Stand.{Stand}
use Rattle.kat_tables.specs.Meanings.{Wanted, noted, meaning_of, first_with, place_in, member_in, ctor_in, register_in, region_in, predicate_in, function_in, lemma_in, block_in}
use Rattle.kat_tables.proofs.DeclaredForms.{IsSaid, Says, all_said, region_form, predicate_form, function_form, lemma_form}

no_value : {A : Type 0} {v : A} → None ≡ Some v → ⊥
no_value e = cc

-- the place of a declared name
abbrev pub place_of : Declared → Stand
place_of one = record { decl = one.decl; tree = one.tree }

-- the place of the first of a name
pub first_place : (all : List Declared) (x : Name) →
    first_with place_in (map noted all) x ≡ option_map place_of (first_named all x)
first_place [] x = refl
first_place (one ∷ more) x =
    elim (bytes_eq one.name x) as (λ b.
    (if b then option_or (Some (place_of one)) (first_with place_in (map noted more) x)
    else first_with place_in (map noted more) x)
    ≡ option_map place_of (if b then Some one else first_named more x))
    [ true ↦ refl | false ↦ first_place more x ]

-- whether there is one of the name
pub is_there : (all : List Declared) (x : Name) →
    is_some (first_with place_in (map noted all) x)
    ≡ list_any (λ (one : Declared). bytes_eq one.name x) all
is_there [] x = refl
is_there (one ∷ more) x =
    elim (bytes_eq one.name x) as (λ b.
    is_some (if b then option_or (Some (place_of one)) (first_with place_in (map noted more) x)
    else first_with place_in (map noted more) x)
    ≡ (b || list_any (λ (one : Declared). bytes_eq one.name x) more))
    [ true ↦ refl | false ↦ is_there more x ]

-- whether a place is this one
abbrev is_place : ℕ → ℕ → Option Stand → Bool
is_place decl tree None = false
is_place decl tree (Some place) = (place.decl == decl) && (place.tree == tree)

stands_by_place : (decl tree : ℕ) (first : Option Declared) →
    is_place decl tree (option_map place_of first) ≡ stands_at decl tree first
stands_by_place decl tree None = refl
stands_by_place decl tree (Some one) = refl

-- whether the first of a name stands at this place, by what was found
pub stands_as_found : (all : List Declared) (x : Name) (decl tree : ℕ) (found : Option Stand) →
    found ≡ first_with place_in (map noted all) x →
    is_place decl tree found ≡ stands_at decl tree (first_named all x)
stands_as_found all x decl tree found is =
    ap (is_place decl tree) (is ∙ first_place all x)
    ∙ stands_by_place decl tree (first_named all x)

-- what is wanted of a name is what it means, where this holds of each name
pub same_kind : {A : Type 0} (wanted : Wanted A) (kind : Kind A) →
    ((k tree : ℕ) (is : Meant) →
    wanted (record { decl = k; tree = tree }) (meaning_of is) ≡ kind k is) →
    (all : List Declared) (x : Name) → first_with wanted (map noted all) x ≡ look_up kind all x
same_kind wanted kind each [] x = refl
same_kind wanted kind each (one ∷ more) x =
    ap (λ o. if bytes_eq one.name x then option_or o (first_with wanted (map noted more) x)
    else first_with wanted (map noted more) x) (each one.decl one.tree one.is)
    ∙ ap (λ o. if bytes_eq one.name x then option_or (kind one.decl one.is) o else o)
    (same_kind wanted kind each more x)

member_kind : (k tree : ℕ) (is : Meant) →
    member_in (record { decl = k; tree = tree }) (meaning_of is) ≡ a_member k is
member_kind k tree (meant.AMember of) = refl
member_kind k tree _ = refl

pub members_same : (all : List Declared) (x : Name) →
    first_with member_in (map noted all) x ≡ look_up a_member all x
members_same all x = same_kind member_in a_member member_kind all x

ctor_kind : (k tree : ℕ) (is : Meant) →
    ctor_in (record { decl = k; tree = tree }) (meaning_of is) ≡ a_ctor k is
ctor_kind k tree (meant.ACtor of payload) = refl
ctor_kind k tree _ = refl

pub ctors_same : (all : List Declared) (x : Name) →
    first_with ctor_in (map noted all) x ≡ look_up a_ctor all x
ctors_same all x = same_kind ctor_in a_ctor ctor_kind all x

register_kind : (k tree : ℕ) (is : Meant) →
    register_in (record { decl = k; tree = tree }) (meaning_of is) ≡ a_register k is
register_kind k tree (meant.ARegister kind type) = refl
register_kind k tree _ = refl

pub registers_same : (all : List Declared) (x : Name) →
    first_with register_in (map noted all) x ≡ look_up a_register all x
registers_same all x = same_kind register_in a_register register_kind all x

block_kind : (k tree : ℕ) (is : Meant) →
    block_in (record { decl = k; tree = tree }) (meaning_of is) ≡ a_block k is
block_kind k tree meant.ABlock = refl
block_kind k tree _ = refl

pub blocks_same : (all : List Declared) (x : Name) →
    first_with block_in (map noted all) x ≡ look_up a_block all x
blocks_same all x = same_kind block_in a_block block_kind all x

-- a kind of which the tables keep the number of the declaration, whose form gives the rest
pub record IsByForm (A : Type 0) (all : List DeclForm) (wanted : Wanted ℕ) (kind : Kind A)
    (gives : ℕ → DeclForm → Option A) : Type 0 where
  pub wants : (k tree : ℕ) (is : Meant) →
      wanted (record { decl = k; tree = tree }) (meaning_of is)
      ≡ (if is_some (kind k is) then Some k else None)
  pub said : (k : ℕ) (form : DeclForm) (is : Meant) (v : A) →
      Says all k form is → kind k is ≡ Some v → gives k form ≡ Some v

-- what the form of a declaration gives, by its number
abbrev pub given_at : {A : Type 0} → List DeclForm → (ℕ → DeclForm → Option A) → ℕ → Option A
given_at all gives k = option_and_then (gives k) (slice_get all k)

one_more : {A : Type 0} (at : ℕ → Option A) (k : ℕ) (w rest : Option ℕ) (v more : Option A) →
    w ≡ (if is_some v then Some k else None) → ((a : A) → v ≡ Some a → at k ≡ Some a) →
    option_and_then at rest ≡ more → option_and_then at (option_or w rest) ≡ option_or v more
one_more at k w rest None more is same also =
    ap (λ o. option_and_then at (option_or o rest)) is ∙ also
one_more at k w rest (Some a) more is same also =
    ap (λ o. option_and_then at (option_or o rest)) is ∙ same a refl

-- the form at the number that was found gives what the name means
pub by_form : {A : Type 0} (all : List DeclForm) (wanted : Wanted ℕ) (kind : Kind A)
    (gives : ℕ → DeclForm → Option A) → IsByForm A all wanted kind gives →
    (some : List Declared) (x : Name) → AllByRecursion (IsSaid all) some →
    option_and_then (given_at all gives) (first_with wanted (map noted some) x)
    ≡ look_up kind some x
by_form all wanted kind gives by [] x said = refl
by_form all wanted kind gives by (one ∷ more) x said =
    let rest = by_form all wanted kind gives by more x said.1 in
    elim (bytes_eq one.name x) as (λ b.
    option_and_then (given_at all gives)
    (if b then option_or (wanted (place_of one) (meaning_of one.is))
    (first_with wanted (map noted more) x) else first_with wanted (map noted more) x)
    ≡ (if b then option_or (kind one.decl one.is) (look_up kind more x) else look_up kind more x)) [
      | true ↦ one_more (given_at all gives) one.decl (wanted (place_of one) (meaning_of one.is))
          (first_with wanted (map noted more) x) (kind one.decl one.is) (look_up kind more x)
          (by.wants one.decl one.tree one.is)
          (λ a e. ap (option_and_then (gives one.decl)) said.0.at
          ∙ by.said one.decl said.0.form one.is a said.0.says e)
          rest
      | false ↦ rest
    ]

region_wants : (k tree : ℕ) (is : Meant) →
    region_in (record { decl = k; tree = tree }) (meaning_of is)
    ≡ (if is_some (a_region k is) then Some k else None)
region_wants k tree (meant.ARegion params) = refl
region_wants k tree _ = refl

region_said : (all : List DeclForm) (k : ℕ) (form : DeclForm) (is : Meant)
    (v : List TypedName) → Says all k form is → a_region k is ≡ Some v →
    region_form all k form ≡ Some v
region_said all k form (meant.ARegion params) v says e = says ∙ e
region_said all k form _ v says e = absurd (no_value e)

-- a region's parameters are those of the form of its declaration
pub regions_by_form : (all : List DeclForm) →
    IsByForm (List TypedName) all region_in a_region (region_form all)
regions_by_form all = record { wants = region_wants; said = region_said all }

predicate_wants : (k tree : ℕ) (is : Meant) →
    predicate_in (record { decl = k; tree = tree }) (meaning_of is)
    ≡ (if is_some (a_predicate k is) then Some k else None)
predicate_wants k tree (meant.APredicate inputs outputs) = refl
predicate_wants k tree _ = refl

predicate_said : (all : List DeclForm) (k : ℕ) (form : DeclForm) (is : Meant) (v : ProofSeen) →
    Says all k form is → a_predicate k is ≡ Some v → predicate_form all k form ≡ Some v
predicate_said all k form (meant.APredicate inputs outputs) v says e = says ∙ e
predicate_said all k form _ v says e = absurd (no_value e)

-- a predicate's inputs and outputs are those of the form of its declaration
pub predicates_by_form : (all : List DeclForm) →
    IsByForm ProofSeen all predicate_in a_predicate (predicate_form all)
predicates_by_form all = record { wants = predicate_wants; said = predicate_said all }

function_wants : (k tree : ℕ) (is : Meant) →
    function_in (record { decl = k; tree = tree }) (meaning_of is)
    ≡ (if is_some (a_function k is) then Some k else None)
function_wants k tree (meant.AFunction params result) = refl
function_wants k tree _ = refl

function_said : (all : List DeclForm) (k : ℕ) (form : DeclForm) (is : Meant)
    (v : FunctionSeen) → Says all k form is → a_function k is ≡ Some v →
    function_form all k form ≡ Some v
function_said all k form (meant.AFunction params result) v says e = says ∙ e
function_said all k form _ v says e = absurd (no_value e)

-- a function's parameters and result are those of the form of its declaration
pub functions_by_form : (all : List DeclForm) →
    IsByForm FunctionSeen all function_in a_function (function_form all)
functions_by_form all = record { wants = function_wants; said = function_said all }

lemma_wants : (k tree : ℕ) (is : Meant) →
    lemma_in (record { decl = k; tree = tree }) (meaning_of is)
    ≡ (if is_some (a_lemma k is) then Some k else None)
lemma_wants k tree (meant.ALemma params) = refl
lemma_wants k tree _ = refl

lemma_said : (all : List DeclForm) (k : ℕ) (form : DeclForm) (is : Meant) (v : ProofSeen) →
    Says all k form is → a_lemma k is ≡ Some v → lemma_form all k form ≡ Some v
lemma_said all k form (meant.ALemma params) v says e = says ∙ e
lemma_said all k form _ v says e = absurd (no_value e)

-- a lemma's parameters are those of the form of its declaration
pub lemmas_by_form : (all : List DeclForm) →
    IsByForm ProofSeen all lemma_in a_lemma (lemma_form all)
lemmas_by_form all = record { wants = lemma_wants; said = lemma_said all }

-- nothing was found of a name, and it means nothing of the kind
pub means_none : {A : Type 0} (all : List DeclForm) (wanted : Wanted ℕ) (kind : Kind A)
    (gives : ℕ → DeclForm → Option A) → IsByForm A all wanted kind gives → (around : Around) →
    all ≡ around.decls → (x : Name) → None ≡ first_with wanted (map noted (declared_by all)) x →
    None ≡ meant_as kind around x
means_none all wanted kind gives by around same x none =
    ap (option_and_then (given_at all gives)) none
    ∙ by_form all wanted kind gives by (declared_by all) x (all_said all)
    ∙ ap (λ ds. look_up kind (declared_by ds) x) same

-- the number that was found gives, by its form, what the name means
pub means_given : {A : Type 0} (all : List DeclForm) (wanted : Wanted ℕ) (kind : Kind A)
    (gives : ℕ → DeclForm → Option A) → IsByForm A all wanted kind gives → (around : Around) →
    all ≡ around.decls → (x : Name) (k : ℕ) →
    Some k ≡ first_with wanted (map noted (declared_by all)) x →
    (form : Option DeclForm) → form ≡ slice_get all k →
    option_and_then (gives k) form ≡ meant_as kind around x
means_given all wanted kind gives by around same x k found form stands =
    ap (option_and_then (gives k)) stands
    ∙ ap (option_and_then (given_at all gives)) found
    ∙ by_form all wanted kind gives by (declared_by all) x (all_said all)
    ∙ ap (λ ds. look_up kind (declared_by ds) x) same
