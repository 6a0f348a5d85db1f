-- What both tables say of a name behind one more noted name.
use Rattle.std.proofs.Common.{◌≡◌, Bool, true, false, if◌then◌else◌, List, [], ◌∷◌, ◌++◌, Option, None, Some, refl, sym, ap, ◌∙◌}
use Rattle.std.specs.Prelude.{unwrap_or, option_and_then, Result, Ok, Err}
use Rattle.std.specs.Result.{OnOk}
use Rattle.std.specs.Option.{option_map, option_or}
use Rattle.std.specs.Str.{bytes_eq}
use Rattle.std.proofs.lemmas.Slice.Eq.{bytes_eq-Decides}
use Rattle.kat_syntax.specs.Tables.{Name}
use Rattle.kat_tables.specs.declared.seen.Stand.{Stand}
use Rattle.kat_tables.specs.declared.placed.Placed.{Placed}
use Rattle.kat_tables.specs.declared.kinds.Firsts.{Firsts}
use Rattle.kat_tables.specs.declared.kinds.Kinds.{Kinds}
use Rattle.kat_tables.specs.Meanings.{Noted, Entries, firsts_of, firsts_both, joined, found, found_in, found_by, once_in, IsPut, first_with, place_in, place_of, AreFirst, IsKinds, member_of, ctor_of, register_of, region_of, predicate_of, function_of, lemma_of, block_of}
use Rattle.kat_tables.proofs.Noting.{placed, or_none, same_turned, first_push, IsWith, kinds_push}

-- nothing stands beside something
some_none : {A : Type 0} {v : A} → Some v ≡ None → ⊥
some_none e = cc

-- the name is new: it was in neither table
new_by : (b : Bool) (tx t : Option Firsts) (ex e : Option Placed) (one : Placed) →
    (b ≡ true → tx ≡ t) → t ≡ None → e ≡ None →
    option_or tx (option_map firsts_of (if b then Some one else ex))
    ≡ (if b then Some (joined (option_or t (option_map firsts_of e)) (firsts_of one))
    else option_or tx (option_map firsts_of ex))
new_by false tx t ex e one same none free = refl
new_by true tx None ex None one same none free =
    ap (λ o. option_or o (Some (firsts_of one))) (same refl)
new_by true tx None ex (Some v) one same none free = absurd (some_none free)
new_by true tx (Some v) ex e one same none free = absurd (some_none none)

-- the name was there: it stands in the table of names that stand twice
again_by : (b : Bool) (tx t : Option Firsts) (ex e : Option Placed) (first one : Placed) →
    Some first ≡ e →
    option_or (if b then Some (firsts_both (unwrap_or t (firsts_of first)) (firsts_of one)) else tx)
    (option_map firsts_of ex)
    ≡ (if b then Some (joined (option_or t (option_map firsts_of e)) (firsts_of one))
    else option_or tx (option_map firsts_of ex))
again_by false tx t ex e first one is = refl
again_by true tx None ex e first one is =
    ap (λ o. Some (joined (option_map firsts_of o) (firsts_of one))) is
again_by true tx (Some v) ex e first one is = refl

-- what was there where it is put back
same_by : {A : Type 0} (b : Bool) (v w old : A) → (b ≡ true → v ≡ old) →
    (if b then v else (if b then w else old)) ≡ old
same_by true v w old same = same refl
same_by false v w old same = refl

-- a new name behind those that are noted
pub put_new : (kinds now : Kinds) (one : Noted) →
    IsPut kinds.names one.name (placed one) now.names →
    now.again.entries ≡ kinds.again.entries →
    found_in kinds.names one.name ≡ None → found_in kinds.again.entries one.name ≡ None →
    IsWith kinds one now
put_new kinds now one put kept free none = λ x.
    let again = kinds.again.entries in
    ap (λ es. option_or (found_in es x) (once_in now.names x)) kept
    ∙ ap (λ o. option_or (found_in again x) (option_map firsts_of o)) (put x)
    ∙ new_by (bytes_eq x one.name) (found_in again x) (found_in again one.name)
    (found_in kinds.names x) (found_in kinds.names one.name) (placed one)
    (λ e. ap (found_in again) ((bytes_eq-Decides x one.name).0 e)) none free

-- a name that was there already is what it was first
pub same_names : (before mid now : Entries Placed) (name : Name) (one first : Placed) →
    IsPut before name one mid → Some first ≡ found_in before name → IsPut mid name first now →
    (x : Name) → found_in now x ≡ found_in before x
same_names before mid now name one first put is back x =
    back x
    ∙ ap (λ o. if bytes_eq x name then Some first else o) (put x)
    ∙ same_by (bytes_eq x name) (Some first) (Some one) (found_in before x)
    (λ e. is ∙ sym (ap (found_in before) ((bytes_eq-Decides x name).0 e)))

-- a name that was there already
pub put_again : (kinds now : Kinds) (one : Noted) (first : Placed) →
    ((x : Name) → found_in now.names x ≡ found_in kinds.names x) →
    Some first ≡ found_in kinds.names one.name →
    IsPut kinds.again.entries one.name
    (firsts_both (unwrap_or (found_in kinds.again.entries one.name) (firsts_of first))
    (firsts_of (placed one))) now.again.entries → IsWith kinds one now
put_again kinds now one first same is twice = λ x.
    let again = kinds.again.entries in
    ap (λ o. option_or o (once_in now.names x)) (twice x)
    ∙ ap (λ o. option_or (if bytes_eq x one.name then
    Some (firsts_both (unwrap_or (found_in again one.name) (firsts_of first))
    (firsts_of (placed one))) else found_in again x) (option_map firsts_of o)) (same x)
    ∙ again_by (bytes_eq x one.name) (found_in again x) (found_in again one.name)
    (found_in kinds.names x) (found_in kinds.names one.name) first (placed one) is

-- a name that is put is there, and others are as they were
not_put : {V : Type 0} (b : Bool) (v : V) (ex : Option V) → (if b then Some v else ex) ≡ None →
    (b ≡ true → ⊥) × (ex ≡ None)
not_put true v ex none = absurd (some_none none)
not_put false v ex none = ((λ e. cc), none)

-- what is in neither table behind a name that was put into the first
pub among_put : (names now : Entries Placed) (again : Entries Firsts) (name : Name) (one : Placed) →
    IsPut names name one now →
    ((x : Name) → found_in names x ≡ None → found_in again x ≡ None) →
    (x : Name) → found_in now x ≡ None → found_in again x ≡ None
among_put names now again name one put among x none =
    among x (not_put (bytes_eq x name) one (found_in names x) (sym (put x) ∙ none)).1

-- the other of two
other_one : {A : Type 0} (b : Bool) (v w : Option A) → (b ≡ true → ⊥) →
    (if b then v else w) ≡ w
other_one true v w other = absurd (other refl)
other_one false v w other = refl

-- two that are not beside each other are not the same
not_same : {A : Type 0} {v : A} (found : Name → Option A) (x name : Name) → Some v ≡ found name →
    found x ≡ None → bytes_eq x name ≡ true → ⊥
not_same found x name there none e =
    some_none (there ∙ sym (ap found ((bytes_eq-Decides x name).0 e)) ∙ none)

-- what is in neither table behind a name that was there already
pub among_again : (names now : Entries Placed) (again after : Entries Firsts) (name : Name)
    (first : Placed) (firsts : Firsts) → ((x : Name) → found_in now x ≡ found_in names x) →
    Some first ≡ found_in names name → IsPut again name firsts after →
    ((x : Name) → found_in names x ≡ None → found_in again x ≡ None) →
    (x : Name) → found_in now x ≡ None → found_in after x ≡ None
among_again names now again after name first firsts same there twice among x none =
    let free : found_in names x ≡ None = sym (same x) ∙ none in
    twice x ∙ other_one (bytes_eq x name) (Some firsts) (found_in again x)
    (not_same (found_in names) x name there free) ∙ among x free

-- the place of a name behind a new one
new_place : (b c : Bool) (ex e : Option Placed) (one : Placed) (found first : Option Stand) →
    b ≡ c → (b ≡ true → found ≡ first) → e ≡ None →
    option_map (λ (p : Placed). p.at) e ≡ first →
    option_map (λ (p : Placed). p.at) ex ≡ found →
    option_map (λ (p : Placed). p.at) (if b then Some one else ex)
    ≡ option_or found (if c then Some one.at else None)
new_place true true ex e one found first same here free none is =
    ap (λ o. option_or o (Some one.at))
    (ap (option_map (λ (p : Placed). p.at)) (sym free) ∙ none ∙ sym (here refl))
new_place false false ex e one found first same here free none is = is ∙ sym (or_none found)
new_place true false ex e one found first same here free none is = absurd (cc)
new_place false true ex e one found first same here free none is = absurd (cc)

-- places behind a new name
pub places_new : (all : List Noted) (one : Noted) (kinds now : Kinds) →
    IsPut kinds.names one.name (placed one) now.names →
    found_in kinds.names one.name ≡ None →
    ((x : Name) → place_of kinds x ≡ first_with place_in all x) →
    (x : Name) → place_of now x ≡ first_with place_in (all ++ one ∷ []) x
places_new all one kinds now put free are x =
    ap (option_map (λ (p : Placed). p.at)) (put x)
    ∙ new_place (bytes_eq x one.name) (bytes_eq one.name x) (found_in kinds.names x)
    (found_in kinds.names one.name) (placed one) (first_with place_in all x)
    (first_with place_in all one.name) (same_turned x one.name)
    (λ e. ap (first_with place_in all) ((bytes_eq-Decides x one.name).0 e)) free (are one.name)
    (are x)
    ∙ sym (first_push place_in all one x)

-- the place of a name that was there stays
same_place : {A : Type 0} (c : Bool) (v w : A) (first : Option A) → (c ≡ true → Some v ≡ first) →
    first ≡ option_or first (if c then Some w else None)
same_place true v w (Some u) there = refl
same_place true v w None there = absurd (some_none (there refl))
same_place false v w first there = sym (or_none first)

-- places behind a name that was there already
pub places_again : (all : List Noted) (one : Noted) (first : Placed) (kinds now : Kinds) →
    ((x : Name) → found_in now.names x ≡ found_in kinds.names x) →
    Some first ≡ found_in kinds.names one.name →
    ((x : Name) → place_of kinds x ≡ first_with place_in all x) →
    (x : Name) → place_of now x ≡ first_with place_in (all ++ one ∷ []) x
places_again all one first kinds now same there are x =
    ap (option_map (λ (p : Placed). p.at)) (same x) ∙ are x
    ∙ same_place (bytes_eq one.name x) first.at one.stand (first_with place_in all x)
    (λ e. ap (option_map (λ (p : Placed). p.at)) there ∙ are one.name
    ∙ ap (first_with place_in all) ((bytes_eq-Decides one.name x).0 e))
    ∙ sym (first_push place_in all one x)

-- each still stands first where one name more is noted
still_first : (all some : List Noted) (one : Noted) → AreFirst all some →
    AreFirst (all ++ one ∷ []) some
still_first all [] one are = tt
still_first all (first ∷ more) one are = (
  first_push place_in all one first.name
      ∙ ap (λ o. option_or o (if bytes_eq one.name first.name then place_in one.stand one.meaning
      else None)) are.0,
  still_first all more one are.1,
)

-- one more that stands first
one_more_first : (all some : List Noted) (one : Noted) → AreFirst all some →
    first_with place_in all one.name ≡ Some one.stand → AreFirst all (some ++ one ∷ [])
one_more_first all [] one are is = (is, tt)
one_more_first all (first ∷ more) one are is = (are.0, one_more_first all more one are.1 is)

-- a new name stands first
pub first_new : (all : List Noted) (one : Noted) → first_with place_in all one.name ≡ None →
    AreFirst all all → AreFirst (all ++ one ∷ []) (all ++ one ∷ [])
first_new all one none are =
    one_more_first (all ++ one ∷ []) all one (still_first all all one are)
    (first_push place_in all one one.name
    ∙ ap (λ o. option_or o (if bytes_eq one.name one.name then Some one.stand else None)) none
    ∙ ap (λ (b : Bool). if b then Some one.stand else None)
    ((bytes_eq-Decides one.name one.name).1 refl))

-- a table into which a name was put is not empty
pub put_is_there : {V : Type 0} (before : Entries V) (name : Name) (value : V) (now : Entries V) →
    IsPut before name value now → now ≡ [] → ⊥
put_is_there before name value now put none =
    some_none (sym (ap (λ (b : Bool). if b then Some value else found_in before name)
    ((bytes_eq-Decides name name).1 refl))
    ∙ sym (put name) ∙ ap (λ es. found_in es name) none)

-- all kinds with a new name
pub with_new : (all : List Noted) (one : Noted) (kinds now : Kinds) →
    IsPut kinds.names one.name (placed one) now.names →
    now.again.entries ≡ kinds.again.entries → found_in kinds.names one.name ≡ None →
    IsKinds all kinds → IsKinds (all ++ one ∷ []) now
with_new all one kinds now put kept free is =
    kinds_push all one kinds now (put_new kinds now one put kept free (is.among one.name free))
    (places_new all one kinds now put free is.places)
    (λ x gone. ap (λ es. found_in es x) kept ∙ among_put kinds.names now.names
    kinds.again.entries one.name (placed one) put is.among x gone)
    (λ empty. first_new all one
    (sym (is.places one.name) ∙ ap (option_map (λ (p : Placed). p.at)) free)
    (is.once (sym kept ∙ empty)))
    is

-- all kinds with a name that was there already
pub with_again : (all : List Noted) (one : Noted) (first : Placed) (kinds now : Kinds)
    (mid : Entries Placed) → IsPut kinds.names one.name (placed one) mid →
    Some first ≡ found_in kinds.names one.name →
    IsPut mid one.name first now.names →
    IsPut kinds.again.entries one.name
    (firsts_both (unwrap_or (found_in kinds.again.entries one.name) (firsts_of first))
    (firsts_of (placed one))) now.again.entries →
    IsKinds all kinds → IsKinds (all ++ one ∷ []) now
with_again all one first kinds now mid put there back twice is =
    let same = same_names kinds.names mid now.names one.name (placed one) first put
    there back in
    kinds_push all one kinds now (put_again kinds now one first same there twice)
    (places_again all one first kinds now same there is.places)
    (among_again kinds.names now.names kinds.again.entries now.again.entries
    one.name first _ same there twice is.among)
    (λ empty. absurd (put_is_there kinds.again.entries one.name _ now.again.entries twice empty))
    is

-- tables with the same entries are of the same names
pub same_kinds : (all : List Noted) (kinds now : Kinds) →
    now.names ≡ kinds.names → now.again.entries ≡ kinds.again.entries →
    IsKinds all kinds → IsKinds all now
same_kinds all kinds now names again is =
    let same : (x : Name) → found now x ≡ found kinds x = λ x.
    ap (λ es. found_by es now.again.entries x) names
    ∙ ap (λ es. found_by kinds.names es x) again in
    record {
      places = λ x.
          ap (λ es. option_map (λ (p : Placed). p.at) (found_in es x)) names ∙ is.places x;
      members = λ x. ap (option_and_then member_of) (same x) ∙ is.members x;
      ctors = λ x. ap (option_and_then ctor_of) (same x) ∙ is.ctors x;
      registers = λ x. ap (option_and_then register_of) (same x) ∙ is.registers x;
      regions = λ x. ap (option_and_then region_of) (same x) ∙ is.regions x;
      predicates = λ x. ap (option_and_then predicate_of) (same x) ∙ is.predicates x;
      functions = λ x. ap (option_and_then function_of) (same x) ∙ is.functions x;
      lemmas = λ x. ap (option_and_then lemma_of) (same x) ∙ is.lemmas x;
      blocks = λ x. ap (option_and_then block_of) (same x) ∙ is.blocks x;
      among = λ x none.
          ap (λ es. found_in es x) again
          ∙ is.among x (sym (ap (λ es. found_in es x) names) ∙ none);
      once = λ empty. is.once (sym again ∙ empty);
    }

-- what holds in any case holds where there is a value
pub always_ok : {T E : Type 0} {P : Type 0} (result : Result T E) → P → OnOk result P
always_ok (Ok value) holds = holds
always_ok (Err error) holds = tt
