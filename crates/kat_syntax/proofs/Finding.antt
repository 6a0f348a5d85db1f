-- The item of a name, by its position; and what one more name does.
use Rattle.std.proofs.Common.{◌≡◌, ℕ, suc, ◌+◌, ◌<◌, Bool, true, false, cond, not, if◌then◌else◌, List, [], ◌∷◌, ◌++◌, length, slice_get, Option, None, Some, refl, sym, ap, subst, ◌∙◌, arith, get_or, length-append}
use Rattle.std.proofs.lemmas.Bool.Decides.{nat_tests}
use Rattle.std.specs.Prelude.{option_and_then, nat_lt, is_some, MatchOption}
use Rattle.std.specs.Option.{option_or}
use Rattle.std.specs.List.{position_or_len}
use Rattle.std.specs.Str.{bytes_eq}
use Rattle.std.proofs.lemmas.Slice.Eq.{bytes_eq-Decides}
use Rattle.std.proofs.lemmas.List.Quantifiers.{position-Some}
use Rattle.std.proofs.lemmas.Option.{slice_get-get_or}
use Rattle.kat_names.specs.Names.{position_of}
use Rattle.kat_syntax.specs.NamedItems.{Item, items_of, found, added}

-- two tests that follow from each other are one
pub one_truth : (a b : Bool) → (a ≡ true → b ≡ true) → (b ≡ true → a ≡ true) → a ≡ b
one_truth true true f g = refl
one_truth false false f g = refl
one_truth true false f g = sym (f refl)
one_truth false true f g = g refl

-- whether two names are the same does not depend on their order
pub same_either_way : (x y : List ℕ) → bytes_eq x y ≡ bytes_eq y x
same_either_way x y =
    one_truth (bytes_eq x y) (bytes_eq y x)
    (λ e. (bytes_eq-Decides y x).1 (sym ((bytes_eq-Decides x y).0 e)))
    (λ e. (bytes_eq-Decides x y).1 (sym ((bytes_eq-Decides y x).0 e)))

-- both sides of a comparison one higher
pub both_further : (m l : ℕ) → nat_lt (suc m) (suc l) ≡ nat_lt m l
both_further m l =
    one_truth (nat_lt (suc m) (suc l)) (nat_lt m l)
    (λ e. grind (arith, nat_tests)) (λ e. grind (arith, nat_tests))

-- zero is below what is one more
pub first_below : (l : ℕ) → nat_lt 0 (suc l) ≡ true
first_below l = grind (arith, nat_tests)

-- a place one further in a list that is one longer
one_further : {A : Type 0} (v : A) (vs : List A) (m l : ℕ) →
    option_and_then (slice_get (v ∷ vs)) (cond (nat_lt (suc m) (suc l)) (Some (suc m)) None)
    ≡ option_and_then (slice_get vs) (cond (nat_lt m l) (Some m) None)
one_further {A = A} v vs m l =
    ap (λ b. option_and_then (slice_get (v ∷ vs)) (cond b (Some (suc m)) None)) (both_further m l)
    ∙ elim (nat_lt m l) as
    (λ b. option_and_then (slice_get (v ∷ vs)) (cond b (Some (suc m)) None)
    ≡ option_and_then (slice_get vs) (cond b (Some m) None)) [ true ↦ refl | false ↦ refl ]

-- the item of the first name, or one behind it
here_or_further : {A : Type 0} (v : A) (vs : List A) (b : Bool) (m l : ℕ) (f : Option A) →
    option_and_then (slice_get vs) (cond (nat_lt m l) (Some m) None) ≡ f →
    option_and_then (slice_get (v ∷ vs))
    (cond (nat_lt (cond (not b) (1 + m) 0) (suc l)) (Some (cond (not b) (1 + m) 0)) None)
    ≡ (if b then Some v else f)
here_or_further v vs true m l f is =
    ap (λ b. option_and_then (slice_get (v ∷ vs)) (cond b (Some 0) None)) (first_below l)
here_or_further v vs false m l f is =
    let one : 1 + m ≡ suc m = omega arith in
    ap (λ k. option_and_then (slice_get (v ∷ vs)) (cond (nat_lt k (suc l)) (Some k) None)) one
    ∙ one_further v vs m l ∙ is

-- the item at a name's position is that of the name
pub by_position : {A : Type 0} (names : List (List ℕ)) (items : List A) (x : List ℕ) →
    option_and_then (slice_get items) (position_of names x) ≡ found (items_of names items) x
by_position [] items x = refl
by_position {A = A} (n ∷ ns) [] x =
    elim (position_of (n ∷ ns) x) as (λ p. option_and_then {U = A} (slice_get []) p ≡ None)
    [ None ↦ refl | Some i ↦ refl ]
by_position {A = A} (n ∷ ns) (v ∷ vs) x =
    here_or_further v vs (bytes_eq x n) (position_or_len (bytes_eq x) ns) (length ns)
    (found (items_of ns vs) x) (by_position ns vs x)
    ∙ ap (λ (b : Bool). if b then Some v else found (items_of ns vs) x) (same_either_way x n)

-- one more name and one more item
items_push : {A : Type 0} (names : List (List ℕ)) (items : List A) (name : List ℕ) (item : A) →
    length names ≡ length items →
    items_of (names ++ name ∷ []) (items ++ item ∷ [])
    ≡ items_of names items ++ record { name = name; item = item } ∷ []
items_push [] [] name item paired = refl
items_push [] (v ∷ vs) name item paired = absurd (omega arith)
items_push (n ∷ ns) [] name item paired = absurd (omega arith)
items_push (n ∷ ns) (v ∷ vs) name item paired =
    ap (λ more. record { name = n; item = v } ∷ more) (items_push ns vs name item (omega arith))

-- an item that is there at a position within the list
there_from : {A : Type 0} (found_item : Option A) (at : Option ℕ) (items : List A) (i l : ℕ) →
    at ≡ Some i → l ≡ length items → i < l →
    option_and_then (slice_get items) at ≡ found_item → is_some found_item ≡ true
there_from found_item at [] i l is paired within found_is = absurd (omega arith)
there_from found_item at (v ∷ vs) i l is paired within found_is =
    ap is_some
    (sym found_is ∙ ap (option_and_then (slice_get (v ∷ vs))) is
    ∙ slice_get-get_or (v ∷ vs) i v (omega arith))

-- a name that is not there is added
pub added_new : {A : Type 0} (names : List (List ℕ)) (items : List A) (name : List ℕ) (item : A) →
    length names ≡ length items → position_of names name ≡ None →
    items_of (names ++ name ∷ []) (items ++ item ∷ []) ≡ added (items_of names items) name item
added_new {A = A} names items name item paired at =
    let all : List (Item A) = items_of names items in
    let more : List (Item A) = all ++ record { name = name; item = item } ∷ [] in
    let none : None ≡ found all name =
    ap (option_and_then (slice_get items)) (sym at) ∙ by_position names items name in
    items_push names items name item paired
    ∙ ap (λ (f : Option A). if is_some f then all else more) none

-- a name that is there changes nothing
pub added_again : {A : Type 0} (names : List (List ℕ)) (items : List A) (name : List ℕ) (item : A)
    (i : ℕ) → length names ≡ length items → position_of names name ≡ Some i →
    items_of names items ≡ added (items_of names items) name item
added_again {A = A} names items name item i paired at =
    let all : List (Item A) = items_of names items in
    let more : List (Item A) = all ++ record { name = name; item = item } ∷ [] in
    let there : is_some (found all name) ≡ true =
    there_from (found all name) (position_of names name) items i (length names) at paired
    (position-Some (bytes_eq name) names i [] at).0 (by_position names items name) in
    ap (λ (b : Bool). if b then all else more) (sym there)

-- a list without its first item
abbrev pub rest_of : {A : Type 0} → List A → List A
rest_of [] = []
rest_of (x ∷ xs) = xs

-- a list with one item at its end is not empty
none_at_end : {A : Type 0} (items : List A) (item : A) → items ++ item ∷ [] ≡ [] → ⊥
none_at_end items item is = omega (arith, ap length is, length-append items (item ∷ []))

-- two lists with an item each at their ends are one list and one item
same_before : {A : Type 0} (xs ys : List A) (x y : A) → xs ++ x ∷ [] ≡ ys ++ y ∷ [] → xs ≡ ys
same_before [] [] x y is = refl
same_before [] (v ∷ ys) x y is = absurd (none_at_end ys y (sym (ap rest_of is)))
same_before (u ∷ xs) [] x y is = absurd (none_at_end xs x (ap rest_of is))
same_before (u ∷ xs) (v ∷ ys) x y is =
    ap (λ w. get_or w 0 u ∷ xs) is ∙ ap (λ zs. v ∷ zs) (same_before xs ys x y (ap rest_of is))

-- what is left when an item that was pushed is taken away again
pub popped : {A : Type 0} (result : Option A) (before pushed after : List A) (item : A) →
    pushed ≡ before ++ item ∷ [] →
    MatchOption result ((pushed ≡ []) × (after ≡ [])) (λ last. pushed ≡ after ++ last ∷ []) →
    after ≡ before
popped None before pushed after item is was = absurd (none_at_end before item (sym is ∙ was.0))
popped (Some last) before pushed after item is was =
    same_before after before last item (sym was ∙ is)

-- one more name is found where no earlier one is the same
found_push : {A : Type 0} (all : List (Item A)) (name : List ℕ) (item : A) (x : List ℕ) →
    found (all ++ record { name = name; item = item } ∷ []) x
    ≡ option_or (found all x) (if bytes_eq name x then Some item else None)
found_push [] name item x = refl
found_push (one ∷ more) name item x =
    elim (bytes_eq one.name x) as
    (λ b. (if b then Some one.item
    else found (more ++ record { name = name; item = item } ∷ []) x)
    ≡ option_or (if b then Some one.item else found more x)
    (if bytes_eq name x then Some item else None))
    [ true ↦ refl | false ↦ found_push more name item x ]

-- a name that is found already changes nothing
again_from : {A : Type 0} (item : A) (f : Option A) (b : Bool) → (b ≡ true → is_some f ≡ true) →
    f ≡ option_or f (if b then Some item else None)
again_from item (Some v) b there = refl
again_from item None false there = refl
again_from item None true there = absurd (cc (there refl))

-- what is found, by whether the name is there already
added_from : {A : Type 0} (all : List (Item A)) (name : List ℕ) (item : A) (x : List ℕ) (b : Bool) →
    is_some (found all name) ≡ b →
    found (if b then all else all ++ record { name = name; item = item } ∷ []) x
    ≡ option_or (found all x) (if bytes_eq name x then Some item else None)
added_from all name item x false is = found_push all name item x
added_from all name item x true is =
    again_from item (found all x) (bytes_eq name x)
    (λ e. subst (λ y. is_some (found all y) ≡ true) ((bytes_eq-Decides name x).0 e) is)

-- what is found when a name is added
pub found_added : {A : Type 0} (all : List (Item A)) (name : List ℕ) (item : A) (x : List ℕ) →
    found (added all name item) x
    ≡ option_or (found all x) (if bytes_eq name x then Some item else None)
found_added all name item x = added_from all name item x (is_some (found all name)) refl
