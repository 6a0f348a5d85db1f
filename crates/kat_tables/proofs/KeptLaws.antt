-- What kept names are, where one is put and where a meaning is added.
use Rattle.std.proofs.Common.{◌≡◌, inl, inr, ℕ, ◌<◌, ◌≤◌, Bool, true, false, if◌then◌else◌, List, [], ◌∷◌, length, get_or, Option, Some, refl, sym, ap, subst, ◌∙◌, lt_of_lt_of_le, arith, length-append}
use Rattle.std.specs.Prelude.{slice_get, Result, Ok, Err}
use Rattle.std.specs.Result.{OnErr}
use Rattle.std.specs.Option.{option_map}
use Rattle.std.specs.Borrow.{Bor}
use Rattle.std.specs.Str.{bytes_eq}
use Rattle.std.proofs.lemmas.List.{get_or_append_left}
use Rattle.std.proofs.lemmas.Option.{none-some, same_Some, slice_get_within, get_or_from_slice_get}
use Rattle.indexmap.specs.IndexMap.{insert_entry}
use Rattle.kat_syntax.specs.Tables.{Name}
use Rattle.kat_tables.specs.declared.placed.Kept.{Kept}
use Rattle.kat_tables.specs.declared.placed.Meaning.{Meaning}
use Rattle.kat_tables.specs.declared.placed.Meaning.TheVariants.{AType}
use Rattle.kat_tables.specs.declared.placed.Placed.{Placed}
use Rattle.kat_tables.specs.Entries.{Entries, found_in, IsPut}
use Rattle.kat_tables.specs.KeptNames.{placed_by, all_placed, AreBelow, HasAtMost}
use Rattle.kat_tables.proofs.Adding.{put_once}

-- what is found of a name, by what is kept of it
pub found_kept : (meanings : List Meaning) (kept : Entries Kept) (x : Name) →
    found_in (all_placed meanings kept) x ≡ option_map (placed_by meanings) (found_in kept x)
found_kept meanings [] x = refl
found_kept meanings (first ∷ more) x =
    elim (bytes_eq x first.0.now) as
    (λ b. (if b then Some (placed_by meanings first.1) else found_in (all_placed meanings more) x)
    ≡ option_map (placed_by meanings) (if b then Some first.1 else found_in more x))
    [ true ↦ refl | false ↦ found_kept meanings more x ]

-- what is kept of a first name, or of others, has a number below the count
below_by : (count : ℕ) (b : Bool) (first one : Kept) (rest : Option Kept) →
    first.meaning < count → (rest ≡ Some one → one.meaning < count) →
    (if b then Some first else rest) ≡ Some one → one.meaning < count
below_by count true first one rest is others same =
    subst (λ (k : Kept). k.meaning < count) (same_Some first one same) is
below_by count false first one rest is others there = others there

-- what is kept of a name has a number below the count
pub found_below : (count : ℕ) (kept : Entries Kept) (x : Name) (one : Kept) →
    AreBelow count kept → found_in kept x ≡ Some one → one.meaning < count
found_below count [] x one are is = absurd (none-some one is)
found_below count (first ∷ more) x one are is =
    below_by count (bytes_eq x first.0.now) first.1 one (found_in more x) are.0
    (found_below count more x one are.1) is

-- numbers below a count are below a greater one
pub below_more : (count more : ℕ) (kept : Entries Kept) → count ≤ more → AreBelow count kept →
    AreBelow more kept
below_more count more [] le are = tt
below_more count more (first ∷ rest) le are =
    (lt_of_lt_of_le are.0 le, below_more count more rest le are.1)

-- kept names with one more
pub below_put : (count : ℕ) (kept : Entries Kept) (name : Bor Name) (one : Kept) →
    one.meaning < count → AreBelow count kept →
    AreBelow count (insert_entry (λ (a b : Bor Name). bytes_eq a.now b.now) kept name one)
below_put count [] name one is are = (is, tt)
below_put count (first ∷ more) name one is are =
    elim (bytes_eq name.now first.0.now) as
    (λ b. AreBelow count (if b then (first.0, one) ∷ more
    else first ∷ insert_entry (λ (a b : Bor Name). bytes_eq a.now b.now) more name one))
    [ true ↦ (is, are.1) | false ↦ (are.0, below_put count more name one is are.1) ]

-- a meaning that is added does not shorten the list
pub at_most : (before now : List Meaning) (meaning : Meaning) → HasAtMost before meaning now →
    length before ≤ length now
at_most before now meaning (inl same) = omega (arith, ap length same)
at_most before now meaning (inr more) =
    omega (arith, ap length more, length-append before (meaning ∷ []))

-- a meaning that is added changes none of those before
same_meaning : (before now : List Meaning) (meaning : Meaning) → HasAtMost before meaning now →
    (number : ℕ) → number < length before → get_or now number AType ≡ get_or before number AType
same_meaning before now meaning (inl same) number within = ap (λ l. get_or l number AType) same
same_meaning before now meaning (inr more) number within =
    ap (λ l. get_or l number AType) more
    ∙ get_or_append_left before (meaning ∷ []) AType number within

-- a meaning that is added changes nothing that is kept
pub same_placed : (before now : List Meaning) (meaning : Meaning) → HasAtMost before meaning now →
    (kept : Entries Kept) → AreBelow (length before) kept →
    all_placed now kept ≡ all_placed before kept
same_placed before now meaning most [] are = refl
same_placed before now meaning most (first ∷ more) are =
    ap (λ m. (first.0, record { at = first.1.at; meaning = m }) ∷ all_placed now more)
    (same_meaning before now meaning most first.1.meaning are.0)
    ∙ ap (λ es. (first.0, placed_by before first.1) ∷ es)
    (same_placed before now meaning most more are.1)

-- what a name was, where a meaning is added
pub was_placed : (before now : List Meaning) (meaning : Meaning) → HasAtMost before meaning now →
    (kept : Entries Kept) → AreBelow (length before) kept → (x : Name) (was : Option Kept) →
    was ≡ found_in kept x →
    option_map (placed_by now) was ≡ found_in (all_placed before kept) x
was_placed before now meaning most kept are x was is =
    ap (option_map (placed_by now)) is ∙ sym (found_kept now kept x)
    ∙ ap (λ es. found_in es x) (same_placed before now meaning most kept are)

-- kept names in which one name has the number of its meaning
pub put_kept : (before now : List Meaning) (kept later : Entries Kept) (name : Bor Name)
    (one : Placed) (number : ℕ) → HasAtMost before one.meaning now →
    AreBelow (length before) kept → slice_get now number ≡ Some one.meaning →
    later ≡ insert_entry (λ (a b : Bor Name). bytes_eq a.now b.now) kept name
    (record { at = one.at; meaning = number }) →
    IsPut (all_placed before kept) name.now one (all_placed now later)
put_kept before now kept later name one number most are is inserts = λ x.
    found_kept now later x
    ∙ ap (option_map (placed_by now)) (put_once kept later name _ name.now refl inserts x)
    ∙ by x (bytes_eq x name.now)
  where
    by : (x : Name) (b : Bool) → option_map (placed_by now)
        (if b then Some (record { at = one.at; meaning = number }) else found_in kept x)
        ≡ (if b then Some one else found_in (all_placed before kept) x)
    by x true = ap (λ m. Some (record { at = one.at; meaning = m }))
        (get_or_from_slice_get now number one.meaning AType is)
    by x false = sym (found_kept now kept x)
        ∙ ap (λ es. found_in es x) (same_placed before now one.meaning most kept are)

-- kept names, with one more
pub kept_below : (before now : List Meaning) (kept later : Entries Kept) (name : Bor Name)
    (one : Placed) (number : ℕ) → HasAtMost before one.meaning now →
    AreBelow (length before) kept → slice_get now number ≡ Some one.meaning →
    later ≡ insert_entry (λ (a b : Bor Name). bytes_eq a.now b.now) kept name
    (record { at = one.at; meaning = number }) → AreBelow (length now) later
kept_below before now kept later name one number most are is inserts =
    subst (AreBelow (length now)) (sym inserts)
    (below_put (length now) kept name _ (slice_get_within now number one.meaning is)
    (below_more (length before) (length now) kept (at_most before now one.meaning most) are))

-- what holds in any case holds where there is an error
pub always_err : {T E : Type 0} {P : Type 0} (result : Result T E) → P → OnErr result P
always_err (Ok value) holds = tt
always_err (Err error) holds = holds
