-- The table of all kinds with one more noted name.
use Rattle.std.proofs.Common.{◌≡◌, Bool, true, false, if◌then◌else◌, List, [], ◌∷◌, ◌++◌, Option, None, Some, refl, sym, ap, ◌∙◌}
use Rattle.std.specs.Prelude.{Result, Ok, Err, option_and_then}
use Rattle.std.specs.Result.{OnOk}
use Rattle.std.specs.Option.{option_or}
use Rattle.std.specs.Str.{bytes_eq}
use Rattle.std.proofs.lemmas.Slice.Eq.{bytes_eq-Decides}
use Rattle.kat_syntax.specs.Tables.{Name}
use Rattle.kat_tables.specs.declared.seen.Stand.{Stand}
use Rattle.kat_tables.specs.declared.placed.Placed.{Placed}
use Rattle.kat_tables.specs.declared.kinds.Firsts.{Firsts}
use Rattle.kat_tables.specs.declared.placed.Meaning.{Meaning}
use Rattle.kat_tables.specs.declared.kinds.Kinds.{Kinds}
use Rattle.kat_tables.specs.Meanings.{Noted, Wanted, Getter, first_with, place_in, member_in, ctor_in, register_in, region_in, predicate_in, function_in, lemma_in, block_in, Finds, AreFirst, IsKinds}
use Rattle.kat_tables.specs.Meanings.{found, found_in, firsts_of, firsts_both, joined, place_of, member_of, ctor_of, register_of, region_of, predicate_of, function_of, lemma_of, block_of}

-- nothing after an answer changes nothing
pub or_none : {A : Type 0} (first : Option A) → option_or first None ≡ first
or_none None = refl
or_none (Some item) = refl

-- two choices, one after the other
or_or : {A : Type 0} (first second third : Option A) →
    option_or first (option_or second third) ≡ option_or (option_or first second) third
or_or None second third = refl
or_or (Some item) second third = refl

-- one more noted name is looked at last
pub first_push : {A : Type 0} (wanted : Wanted A) (all : List Noted) (one : Noted) (x : Name) →
    first_with wanted (all ++ one ∷ []) x
    ≡ option_or (first_with wanted all x)
    (if bytes_eq one.name x then wanted one.stand one.meaning else None)
first_push wanted [] one x =
    elim (bytes_eq one.name x) as
    (λ b. (if b then option_or (wanted one.stand one.meaning) None else None)
    ≡ (if b then wanted one.stand one.meaning else None))
    [ true ↦ or_none (wanted one.stand one.meaning) | false ↦ refl ]
first_push wanted (first ∷ more) one x =
    let found_here = wanted first.stand first.meaning in
    let last = (if bytes_eq one.name x then wanted one.stand one.meaning else None) in
    elim (bytes_eq first.name x) as
    (λ b. (if b then option_or found_here (first_with wanted (more ++ one ∷ []) x)
    else first_with wanted (more ++ one ∷ []) x)
    ≡ option_or
    (if b then option_or found_here (first_with wanted more x) else first_with wanted more x)
    last) [
      | true ↦ ap (option_or found_here) (first_push wanted more one x)
          ∙ or_or found_here (first_with wanted more x) last
      | false ↦ first_push wanted more one x
    ]

-- what a noted name is
abbrev pub placed : Noted → Placed
placed one = record { at = one.stand; meaning = one.meaning }

-- a getter that takes the first of two
pub record TakesFirst (A : Type 0) (get : Getter A) (wanted : Wanted A) : Type 0 where
  pub both : (first later : Firsts) →
      get (firsts_both first later) ≡ option_or (get first) (get later)
  pub one : (stand : Stand) (meaning : Meaning) →
      get (firsts_of (record { at = stand; meaning = meaning })) ≡ wanted stand meaning

-- what is got of what a name is with what it is further on
got_joined : {A : Type 0} (get : Getter A) (wanted : Wanted A) → TakesFirst A get wanted →
    (first : Option Firsts) (stand : Stand) (meaning : Meaning) →
    get (joined first (firsts_of (record { at = stand; meaning = meaning })))
    ≡ option_or (option_and_then get first) (wanted stand meaning)
got_joined get wanted takes None stand meaning = takes.one stand meaning
got_joined get wanted takes (Some earlier) stand meaning =
    takes.both earlier (firsts_of (record { at = stand; meaning = meaning }))
    ∙ ap (option_or (get earlier)) (takes.one stand meaning)

-- what is got of one name by whether it is the one that was added
got_by : {A : Type 0} (get : Getter A) (wanted : Wanted A) → TakesFirst A get wanted →
    (kinds : Kinds) (one : Noted) (x : Name) (b c : Bool) → b ≡ c → (b ≡ true → x ≡ one.name) →
    option_and_then get (if b then
    Some (joined (found kinds one.name) (firsts_of (placed one))) else found kinds x)
    ≡ option_or (option_and_then get (found kinds x))
    (if c then wanted one.stand one.meaning else None)
got_by get wanted takes kinds one x true true e same =
    got_joined get wanted takes (found kinds one.name) one.stand one.meaning
    ∙ ap (λ y. option_or (option_and_then get (found kinds y)) (wanted one.stand one.meaning))
    (sym (same refl))
got_by get wanted takes kinds one x false false e same =
    sym (or_none (option_and_then get (found kinds x)))
got_by get wanted takes kinds one x true false e same = absurd (cc)
got_by get wanted takes kinds one x false true e same = absurd (cc)

turned : (b c : Bool) → (b ≡ true → c ≡ true) → (c ≡ true → b ≡ true) → b ≡ c
turned true c there back = sym (there refl)
turned false true there back = back refl
turned false false there back = refl

-- two names are the same both ways
pub same_turned : (x y : Name) → bytes_eq x y ≡ bytes_eq y x
same_turned x y = turned (bytes_eq x y) (bytes_eq y x)
    (λ e. (bytes_eq-Decides y x).1 (sym ((bytes_eq-Decides x y).0 e)))
    (λ e. (bytes_eq-Decides x y).1 (sym ((bytes_eq-Decides y x).0 e)))

-- tables in which this noted name is one more
abbrev pub IsWith : Kinds → Noted → Kinds → Type 0
IsWith kinds one now = (x : Name) → found now x ≡ (if bytes_eq x one.name
    then Some (joined (found kinds one.name) (firsts_of (placed one))) else found kinds x)

-- tables with one more noted name
tells_push : {A : Type 0} (get : Getter A) (wanted : Wanted A) → TakesFirst A get wanted →
    (all : List Noted) (one : Noted) (kinds now : Kinds) → IsWith kinds one now →
    Finds get wanted all kinds → Finds get wanted (all ++ one ∷ []) now
tells_push get wanted takes all one kinds now finds tells =
    λ x. ap (option_and_then get) (finds x)
    ∙ got_by get wanted takes kinds one x (bytes_eq x one.name) (bytes_eq one.name x)
    (same_turned x one.name) (bytes_eq-Decides x one.name).0
    ∙ ap (λ f. option_or f (if bytes_eq one.name x then wanted one.stand one.meaning else None))
    (tells x)
    ∙ sym (first_push wanted all one x)

-- the tables of all kinds with one more noted name
pub kinds_push : (all : List Noted) (one : Noted) (kinds now : Kinds) → IsWith kinds one now →
    ((x : Name) → place_of now x ≡ first_with place_in (all ++ one ∷ []) x) →
    ((x : Name) → found_in now.names x ≡ None → found_in now.again.entries x ≡ None) →
    (now.again.entries ≡ [] → AreFirst (all ++ one ∷ []) (all ++ one ∷ [])) →
    IsKinds all kinds → IsKinds (all ++ one ∷ []) now
kinds_push all one kinds now finds places among once is = record {
  places = places;
  members = tells_push member_of member_in
      (record { both = λ f l. refl; one = λ s m. refl }) all one kinds now finds is.members;
  ctors = tells_push ctor_of ctor_in
      (record { both = λ f l. refl; one = λ s m. refl }) all one kinds now finds is.ctors;
  registers = tells_push register_of register_in
      (record { both = λ f l. refl; one = λ s m. refl }) all one kinds now finds is.registers;
  regions = tells_push region_of region_in
      (record { both = λ f l. refl; one = λ s m. refl }) all one kinds now finds is.regions;
  predicates = tells_push predicate_of predicate_in
      (record { both = λ f l. refl; one = λ s m. refl }) all one kinds now finds is.predicates;
  functions = tells_push function_of function_in
      (record { both = λ f l. refl; one = λ s m. refl }) all one kinds now finds is.functions;
  lemmas = tells_push lemma_of lemma_in
      (record { both = λ f l. refl; one = λ s m. refl }) all one kinds now finds is.lemmas;
  blocks = tells_push block_of block_in
      (record { both = λ f l. refl; one = λ s m. refl }) all one kinds now finds is.blocks;
  among = among;
  once = once;
}

-- what follows from what holds where there is a value
pub on_ok : {T E : Type 0} {P Q : Type 0} (result : Result T E) → OnOk result P → (P → Q) →
    OnOk result Q
on_ok (Ok value) holds follows = follows holds
on_ok (Err error) holds follows = holds

-- what follows from two facts that hold where there is a value
pub both_ok : {T E : Type 0} {P Q R : Type 0} (result : Result T E) → OnOk result P →
    OnOk result Q → (P → Q → R) → OnOk result R
both_ok (Ok value) one two follows = follows one two
both_ok (Err error) one two follows = one
