-- Where a name stands in a list of names that differ, and what one more name does to the list.
use Rattle.std.proofs.Common.{◌≡◌, ◌≢◌, ℕ, suc, ◌+◌, ◌<◌, ◌↔◌, ◌||◌, Bool, true, false, nat_lt, cond, not, if◌then◌else◌, List, [], ◌∷◌, ◌++◌, map, length, get_or, slice_get, position, Option, None, Some, Result, Ok, Err, IsSome, Contains, Global, String, refl, sym, ap, subst, ◌∙◌, arith, true≢false, length-append}
use Rattle.std.proofs.lemmas.Bool.Decides.{nat_tests}
use Rattle.std.proofs.lemmas.List.{length-map, map-append}
use Rattle.std.proofs.lemmas.List.Quantifiers.{position-Some, all_pairs_push}
use Rattle.std.proofs.lemmas.List.Sums.{fails_before_first}
use Rattle.std.proofs.lemmas.Option.{slice_get-get_or, slice_get_within, get_or_from_slice_get}
use Rattle.std.proofs.lemmas.Slice.Eq.{bytes_eq-Decides}
use Rattle.std.specs.List.{position_or_len, list_any}
use Rattle.std.specs.Str.{bytes_eq}
use Rattle.std.specs.String.{string_bytes, string_eq}
use Rattle.indexmap.specs.IndexSet.{insert_key}
use Rattle.kat_names.specs.declared.names.NameError.{NameError}
use Rattle.kat_names.specs.declared.names.NameError.TheVariants.{Twice, Memory}
use Rattle.kat_names.specs.NameError.{twice_of}
use Rattle.kat_names.specs.Names.{most_names, position_of, AllDiffer, IsTable}

position_or_len-map : {A B : Type 0} (f : A → B) (p : B → Bool) (xs : List A) →
    position_or_len p (map f xs) ≡ position_or_len (λ x. p (f x)) xs
position_or_len-map f p [] = refl
position_or_len-map f p (x ∷ xs) =
    ap (λ n. cond (not (p (f x))) (1 + n) 0) (position_or_len-map f p xs)

-- the first element that passes stands where its image does
position-map : {A B : Type 0} (f : A → B) (p : B → Bool) (xs : List A) →
    position (λ x. p (f x)) xs ≡ position p (map f xs)
position-map f p xs = rw (position_or_len-map f p xs, length-map xs f) refl

-- where none is found, no element passes
position-None : {X : Type 0} (p : X → Bool) (xs : List X) (k : ℕ) (d : X) → position p xs ≡ None →
    k < length xs → p (get_or xs k d) ≡ false
position-None p xs k d none within = grind (arith, nat_tests, fails_before_first p xs k d)

-- a name stands at its position
stands_at_position : (names : List (List ℕ)) (name : List ℕ) (i : ℕ) →
    position_of names name ≡ Some i → slice_get names i ≡ Some name
stands_at_position names name i at =
    let first = position-Some (bytes_eq name) names i [] at in
    let same : name ≡ get_or names i [] = (bytes_eq-Decides name (get_or names i [])).0 first.1 in
    slice_get-get_or names i [] first.0 ∙ ap (λ n. Some n) (sym same)

-- a name that has no position stands nowhere
stands_nowhere : (names : List (List ℕ)) (name : List ℕ) (i : ℕ) → position_of names name ≡ None →
    slice_get names i ≡ Some name → ⊥
stands_nowhere names name i none at =
    let differs =
    position-None (bytes_eq name) names i [] none (slice_get_within names i name at) in
    let same : get_or names i [] ≡ name = get_or_from_slice_get names i name [] at in
    true≢false (sym ((bytes_eq-Decides name (get_or names i [])).1 (sym same)) ∙ differs)

-- a name stands at one position alone
one_position : (names : List (List ℕ)) (name : List ℕ) (i j : ℕ) → AllDiffer names →
    slice_get names i ≡ Some name → slice_get names j ≡ Some name → i ≡ j
one_position names name i j differ at_i at_j =
    let here : get_or names i [] ≡ name = get_or_from_slice_get names i name [] at_i in
    let there : get_or names j [] ≡ name = get_or_from_slice_get names j name [] at_j in
    let not_below : i < j → ⊥ =
    λ below. differ i j [] below (slice_get_within names j name at_j) (here ∙ sym there) in
    let not_above : j < i → ⊥ =
    λ above. differ j i [] above (slice_get_within names i name at_i) (there ∙ sym here) in
    grind (arith, not_below, not_above)

-- what an answer says that is the position of a name
pub record IsPositionOf (names : List (List ℕ)) (name : List ℕ) (answer : Option ℕ) : Type 0 where
  pub position : answer ≡ position_of names name
  pub found : (i : ℕ) → (answer ≡ Some i) ↔ (slice_get names i ≡ Some name)
  pub known : IsSome answer ↔ Contains names name

found_from_place : (names : List (List ℕ)) (name : List ℕ) (answer : Option ℕ) → AllDiffer names →
    answer ≡ position_of names name →
    (i : ℕ) → slice_get names i ≡ Some name → answer ≡ Some i
found_from_place names name None differ is i at = absurd (stands_nowhere names name i (sym is) at)
found_from_place names name (Some first) differ is i at =
    let stands = stands_at_position names name first (sym is) in
    ap (λ n. Some n) (one_position names name first i differ stands at)

known_from_position : (names : List (List ℕ)) (name : List ℕ) (answer : Option ℕ) →
    answer ≡ position_of names name → IsSome answer ↔ Contains names name
known_from_position names name None is = (
  λ some. absurd (true≢false (sym some)),
  λ there.
      let stands = slice_get-get_or names there.0 name there.1 ∙ ap (λ n. Some n) there.2 in
      absurd (stands_nowhere names name there.0 (sym is) stands),
)
known_from_position names name (Some i) is =
    let at = stands_at_position names name i (sym is) in
    let there = get_or_from_slice_get names i name name at in
    (λ _. (i, slice_get_within names i name at, there), λ _. refl)

-- a look-up among the keys of a table answers the position of the name
pub position_of-keys : (keys : List (String Global)) (names : List (List ℕ)) (name : List ℕ)
    (answer : Option ℕ) →
    map string_bytes keys ≡ names → AllDiffer (map string_bytes keys) →
    answer ≡ position (λ key. bytes_eq name (string_bytes key)) keys →
    IsPositionOf names name answer
position_of-keys keys names name answer view_is differ looked_up =
    let is : answer ≡ position_of names name =
    looked_up ∙ position-map string_bytes (bytes_eq name) keys
    ∙ ap (λ l. position_of l name) view_is in
    let distinct = subst AllDiffer view_is differ in
    record {
      position = is;
      found = λ i. (
        λ e. stands_at_position names name i (sym is ∙ e),
        found_from_place names name answer distinct is i,
      );
      known = known_from_position names name answer is;
    }

-- a table with one more name, which did not stand in it, is a table
IsTable-push : (names : List (List ℕ)) (name : List ℕ) → IsTable names → length names < most_names →
    position_of names name ≡ None → IsTable (names ++ name ∷ [])
IsTable-push names name table room none = record {
  distinct = all_pairs_push (λ x y. x ≢ y) names name table.distinct
      (λ k d within same. stands_nowhere names name k none
      (slice_get-get_or names k d within ∙ ap (λ n. Some n) same));
  fits = omega (arith, length-append names (name ∷ []));
}

-- whether any element passes is whether the first that does stands within
any_within : {X : Type 0} (p : X → Bool) (xs : List X) →
    list_any p xs ≡ nat_lt (position_or_len p xs) (length xs)
any_within p [] = refl
any_within p (x ∷ xs) = by (p x) (any_within p xs) where
  by : (b : Bool) → list_any p xs ≡ nat_lt (position_or_len p xs) (length xs) →
      (b || list_any p xs)
      ≡ nat_lt (cond (not b) (1 + position_or_len p xs) 0) (suc (length xs))
  by true behind = grind (arith, nat_tests)
  by false behind = grind (arith, nat_tests, behind)

-- the position of a key's name among the names of keys, by whether a key has that name
position-among : (keys : List (String Global)) (key : String Global) →
    position_of (map string_bytes keys) (string_bytes key)
    ≡ (if list_any (string_eq key) keys then Some (position_or_len (string_eq key) keys) else None)
position-among keys key =
    sym (position-map string_bytes (bytes_eq (string_bytes key)) keys)
    ∙ ap (λ b. if b then Some (position_or_len (string_eq key) keys) else None)
    (sym (any_within (string_eq key) keys))

-- a name that no key has does not stand in the table
pub absent-names : (keys : List (String Global)) (key : String Global) (names : List (List ℕ)) →
    map string_bytes keys ≡ names → list_any (string_eq key) keys ≡ false →
    position_of names (string_bytes key) ≡ None
absent-names keys key names view_is lacks =
    ap (λ ns. position_of ns (string_bytes key)) (sym view_is) ∙ position-among keys key
    ∙ ap (λ b. if b then Some (position_or_len (string_eq key) keys) else None) lacks

-- what the insertion of a key does to a table: its name stood at this position, or it goes last
pub record IsInserted (names after : List (List ℕ)) (name : List ℕ) (at : ℕ) (anew : Bool) :
    Type 0 where
  pub stood : position_of names name ≡ (if anew then None else Some at)
  pub added : after ≡ (if anew then names ++ name ∷ [] else names)
  pub last : anew ≡ true → at ≡ length names
  pub table : IsTable after

-- the position of a first one that there is not is the length
past_the_last : {X : Type 0} (p : X → Bool) (xs : List X) → list_any p xs ≡ false →
    position_or_len p xs ≡ length xs
past_the_last p [] none = refl
past_the_last p (x ∷ xs) none = by (p x) none (past_the_last p xs) where
  by : (b : Bool) → (b || list_any p xs) ≡ false →
      (list_any p xs ≡ false → position_or_len p xs ≡ length xs) →
      cond (not b) (1 + position_or_len p xs) 0 ≡ suc (length xs)
  by true none behind = absurd (true≢false none)
  by false none behind = omega (arith, behind none)

pub insert_full-names : (keys after : List (String Global)) (key : String Global)
    (names : List (List ℕ)) (at : ℕ) (anew : Bool) →
    map string_bytes keys ≡ names → IsTable (map string_bytes keys) → length names < most_names →
    anew ≡ not (list_any (string_eq key) keys) → at ≡ position_or_len (string_eq key) keys →
    after ≡ insert_key string_eq keys key →
    IsInserted names (map string_bytes after) (string_bytes key) at anew
insert_full-names keys after key names at anew view_is table room told place inserted =
    subst (λ ns. IsInserted ns (map string_bytes after) (string_bytes key) at anew) view_is
    (subst (λ b. IsInserted (map string_bytes keys) (map string_bytes after) (string_bytes key) at b)
    (sym told) (by (list_any (string_eq key) keys) refl)) where
      few : length (map string_bytes keys) < most_names
      few = subst (λ ns. length ns < most_names) (sym view_is) room

      by : (b : Bool) → list_any (string_eq key) keys ≡ b →
          IsInserted (map string_bytes keys) (map string_bytes after) (string_bytes key) at (not b)
      by true any = record {
        stood = position-among keys key
            ∙ ap (λ b. if b then Some (position_or_len (string_eq key) keys) else None) any
            ∙ ap (λ n. Some n) (sym place);
        added = ap (map string_bytes)
            (inserted ∙ ap (λ b. if b then keys else keys ++ key ∷ []) any);
        last = λ e. absurd (true≢false (sym e));
        table = subst (λ ks. IsTable (map string_bytes ks))
            (sym (inserted ∙ ap (λ b. if b then keys else keys ++ key ∷ []) any)) table;
      }
      by false any =
          let none = absent-names keys key (map string_bytes keys) refl any in
          let appended : map string_bytes after ≡ map string_bytes keys ++ string_bytes key ∷ [] =
          ap (map string_bytes) (inserted ∙ ap (λ b. if b then keys else keys ++ key ∷ []) any)
          ∙ map-append string_bytes keys (key ∷ []) in
          record {
            stood = none;
            added = appended;
            last = λ e.
                place ∙ past_the_last (string_eq key) keys any ∙ sym (length-map keys string_bytes);
            table = subst IsTable (sym appended)
                (IsTable-push (map string_bytes keys) (string_bytes key) table few none);
          }

-- an answer that tells this position is that the name stands there
told_twice : (answer : Result ℕ NameError) (i : ℕ) → twice_of answer ≡ Some i →
    answer ≡ Err (Twice i)
told_twice (Ok position) i e = absurd (let f : None ≡ Some i = e in cc)
told_twice (Err (Twice j)) i e =
    let f : Some j ≡ Some i = e in
    let same : j ≡ i = cc in
    ap (λ n. Err (Twice n)) same
told_twice (Err Memory) i e = absurd (let f : None ≡ Some i = e in cc)

-- an answer that tells the position of a name tells where it stands
pub twice_where_it_stands : (keys : List (String Global)) (names : List (List ℕ)) (name : List ℕ)
    (answer : Result ℕ NameError) →
    map string_bytes keys ≡ names → AllDiffer (map string_bytes keys) →
    twice_of answer ≡ position_of names name →
    (i : ℕ) → (answer ≡ Err (Twice i)) ↔ (slice_get names i ≡ Some name)
twice_where_it_stands keys names name answer view_is differ is i = (
  λ e. stands_at_position names name i (sym is ∙ ap twice_of e),
  λ at.
      told_twice answer i
      (found_from_place names name (twice_of answer) (subst AllDiffer view_is differ) is i at),
)
