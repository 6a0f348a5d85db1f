-- Tables that find the first item of each name, made name by name.
use Rattle.std.proofs.Common.{◌≡◌, ◌∙◌, ℕ, suc, ◌+◌, ◌<◌, ◌≤◌, Bool, true, false, cond, not, List, [], ◌∷◌, map, drop, length, get_or, Option, Some, None, refl, ap, sym, if◌then◌else◌, add-one, arith}
use Rattle.std.proofs.Math.Seq.{drop-cons}
use Rattle.std.proofs.lemmas.List.{drop_all}
use Rattle.std.specs.Prelude.{nat_lt}
use Rattle.std.specs.List.{position_or_len}
use Rattle.std.specs.Option.{option_map, option_or}
use Rattle.std.specs.Str.{bytes_eq}
use Rattle.kat_names.specs.Names.{position_of}
use Rattle.kat_syntax.specs.NamedItems.{Item, found, added}
use Rattle.kat_syntax.specs.Tables.{Name}
use Rattle.kat_syntax.proofs.Finding.{same_either_way, found_added, both_further, first_below}

-- one thing or another, or a third
pub or_either : {A : Type 0} (first second third : Option A) →
    option_or (option_or first second) third ≡ option_or first (option_or second third)
or_either None second third = refl
or_either (Some a) second third = refl

-- one thing or none
pub or_none : {A : Type 0} (first : Option A) → option_or first None ≡ first
or_none None = refl
or_none (Some a) = refl

-- what stands at an index, and behind it
pub next_of : {A : Type 0} (xs : List A) (k : ℕ) (x : A) → k < length xs → x ≡ get_or xs k x →
    drop k xs ≡ x ∷ drop (k + 1) xs
next_of xs k x within is =
    drop-cons xs k x within ∙ ap (λ y. y ∷ drop (suc k) xs) (sym is)
    ∙ ap (λ n. x ∷ drop n xs) (sym (add-one k))

-- what a table finds, or else what is found of the rest, is what is found of all
pub record FindsWith {A : Type 0} (named : List (Item A)) (rest all : Name → Option A) :
    Type 0 where
  pub finds : (x : Name) → option_or (found named x) (rest x) ≡ all x

-- a thing where a test holds, or else another
chosen : {A : Type 0} (b : Bool) (item : A) (more : Option A) →
    option_or (if b then Some item else None) more ≡ (if b then Some item else more)
chosen true item more = refl
chosen false item more = refl

-- one more name, which the rest finds first
pub finds_next : {A : Type 0} (named : List (Item A)) (rest more all : Name → Option A) (n : Name)
    (item : A) → FindsWith named rest all →
    ((x : Name) → rest x ≡ (if bytes_eq n x then Some item else more x)) →
    FindsWith (added named n item) more all
finds_next named rest more all n item so next = record {
  finds = λ x. ap (λ o. option_or o (more x)) (found_added named n item x)
      ∙ or_either (found named x) (if bytes_eq n x then Some item else None) (more x)
      ∙ ap (option_or (found named x)) (chosen (bytes_eq n x) item (more x) ∙ sym (next x))
      ∙ so.finds x;
}

-- the rest said in another way
pub finds_same : {A : Type 0} (named : List (Item A)) (rest more all : Name → Option A) →
    FindsWith named rest all → ((x : Name) → rest x ≡ more x) → FindsWith named more all
finds_same named rest more all so same = record {
  finds = λ x. ap (option_or (found named x)) (sym (same x)) ∙ so.finds x;
}

-- the first position of a name, the first name having this number
abbrev pub first_from : ℕ → List Name → Name → Option ℕ
first_from k [] x = None
first_from k (n ∷ ns) x = if bytes_eq n x then Some k else first_from (k + 1) ns x

-- one more position
pub next_position : (k : ℕ) (here rest : List Name) (n : Name) (named : List (Item ℕ))
    (all : Name → Option ℕ) → here ≡ n ∷ rest → FindsWith named (first_from k here) all →
    FindsWith (added named n k) (first_from (k + 1) rest) all
next_position k here rest n named all is so =
    finds_next named (first_from k here) (first_from (k + 1) rest) all n k so
    (λ x. ap (λ ns. first_from k ns x) is)

-- a position one further, in a list that is one longer
one_later : (k m l : ℕ) →
    option_map (λ i. k + i) (cond (nat_lt (1 + m) (suc l)) (Some (1 + m)) None)
    ≡ option_map (λ i. k + 1 + i) (cond (nat_lt m l) (Some m) None)
one_later k m l =
    let one : 1 + m ≡ suc m = omega arith in
    let same : k + (1 + m) ≡ k + 1 + m = omega arith in
    ap (λ b. option_map (λ i. k + i) (cond b (Some (1 + m)) None))
    (ap (λ j. nat_lt j (suc l)) one ∙ both_further m l)
    ∙ elim (nat_lt m l) as
    (λ b. option_map (λ i. k + i) (cond b (Some (1 + m)) None)
    ≡ option_map (λ i. k + 1 + i) (cond b (Some m) None)) [ true ↦ ap Some same | false ↦ refl ]

-- the first name, or one behind it
here_or_later : (k : ℕ) (b : Bool) (m l : ℕ) (f : Option ℕ) →
    option_map (λ i. k + 1 + i) (cond (nat_lt m l) (Some m) None) ≡ f →
    option_map (λ i. k + i)
    (cond (nat_lt (cond (not b) (1 + m) 0) (suc l)) (Some (cond (not b) (1 + m) 0)) None)
    ≡ (if b then Some k else f)
here_or_later k true m l f is =
    let same : k + 0 ≡ k = omega arith in
    ap (λ b. option_map (λ i. k + i) (cond b (Some 0) None)) (first_below l) ∙ ap Some same
here_or_later k false m l f is = one_later k m l ∙ is

-- the first position of a name, counted from a number on
pub counted_from : (k : ℕ) (names : List Name) (x : Name) →
    option_map (λ i. k + i) (position_of names x) ≡ first_from k names x
counted_from k [] x = refl
counted_from k (n ∷ ns) x =
    here_or_later k (bytes_eq x n) (position_or_len (bytes_eq x) ns) (length ns)
    (first_from (k + 1) ns x) (counted_from (k + 1) ns x)
    ∙ ap (λ b. if b then Some k else first_from (k + 1) ns x) (same_either_way x n)

-- the first position of a name
pub position_is : (names : List Name) (x : Name) → first_from 0 names x ≡ position_of names x
position_is names x = sym (counted_from 0 names x) ∙ as_it_is (position_of names x) where
  as_it_is : (o : Option ℕ) → option_map (λ i. 0 + i) o ≡ o
  as_it_is None = refl
  as_it_is (Some i) = let same : 0 + i ≡ i = omega arith in ap Some same

-- where nothing is left, the table finds the first positions
pub finds_positions : (names : List Name) (named : List (Item ℕ)) (rest : Name → Option ℕ) →
    FindsWith named rest (first_from 0 names) → ((x : Name) → rest x ≡ None) → (x : Name) →
    found named x ≡ position_of names x
finds_positions names named rest so none x =
    sym (or_none (found named x)) ∙ ap (option_or (found named x)) (sym (none x)) ∙ so.finds x
    ∙ position_is names x

-- one more of those whose names are found
pub one_position : {T : Type 0} (name_of : T → Name) (xs : List T) (k : ℕ) (x : T)
    (named : List (Item ℕ)) (all : Name → Option ℕ) →
    FindsWith named (first_from k (map name_of (drop k xs))) all → k < length xs →
    x ≡ get_or xs k x →
    FindsWith (added named (name_of x) k) (first_from (k + 1) (map name_of (drop (k + 1) xs))) all
one_position name_of xs k x named all so within is =
    next_position k (map name_of (drop k xs)) (map name_of (drop (k + 1) xs)) (name_of x) named all
    (ap (map name_of) (next_of xs k x within is)) so

-- where none is left
pub all_positions : {T : Type 0} (name_of : T → Name) (xs : List T) (k : ℕ)
    (named : List (Item ℕ)) →
    FindsWith named (first_from k (map name_of (drop k xs))) (first_from 0 (map name_of xs)) →
    length xs ≤ k → (x : Name) → found named x ≡ position_of (map name_of xs) x
all_positions name_of xs k named so past =
    finds_positions (map name_of xs) named (first_from k (map name_of (drop k xs))) so
    (λ x. ap (λ ys. first_from k (map name_of ys) x) (drop_all k xs past))
