-- The least fault of a list, and the first fault of a specification.
use Rattle.std.specs.Prelude.{◌≡◌, ℕ, ◌+◌, ◌==◌, ◌&&◌, ◌||◌, ◌⊎◌, nat_lt, true, false, if◌then◌else◌, List, [], ◌∷◌, Option, None, Some, IsSome, IfSome, MatchOption, refl}
use Rattle.std.specs.List.{AllByRecursion}
use Rattle.std.proofs.Common.{arith, inl, inr, ⊎_elim}
use Rattle.std.proofs.lemmas.Bool.Decides.{nat_tests}
use Rattle.kat_syntax.specs.TypeRules.{Fault, IsAmong, IsLeastOf, code_of, comes_before, least_with, least_of}
use Rattle.kat_syntax.specs.FirstTypeFault.{TypeFault, IsFirstFrom, or_first, first_from}

-- what stands before neither of two, by numbers
later_numbers : (a c b d x y : ℕ) →
    (nat_lt a b || (a == b && nat_lt c d)) ≡ true →
    (nat_lt a x || (a == x && nat_lt c y)) ≡ false →
    (nat_lt b x || (b == x && nat_lt d y)) ≡ false
later_numbers a c b d x y below e = grind (arith, nat_tests)

kept_numbers : (a c b d x y : ℕ) →
    (nat_lt a b || (a == b && nat_lt c d)) ≡ false →
    (nat_lt b x || (b == x && nat_lt d y)) ≡ false →
    (nat_lt a x || (a == x && nat_lt c y)) ≡ false
kept_numbers a c b d x y below e = grind (arith, nat_tests)

same_numbers : (a c : ℕ) → (nat_lt a a || (a == a && nat_lt c c)) ≡ false
same_numbers a c = grind (arith, nat_tests)

-- what is known of the least fault that is found behind a known one
record IsLeastWith (known : Fault) (faults : List Fault) (found : Fault) : Type 0 where
  before : comes_before known found ≡ false
  one : (known ≡ found) ⊎ IsAmong faults found
  least : AllByRecursion (λ other. comes_before other found ≡ false) faults

-- the next fault comes earlier than the known one, and is kept in its place
take_next : (known fault found : Fault) (faults : List Fault) → comes_before fault known ≡ true →
    IsLeastWith fault faults found → IsLeastWith known (fault ∷ faults) found
take_next known fault found faults e h = record {
  before = later_numbers fault.tree (code_of fault.rule) known.tree (code_of known.rule) found.tree
      (code_of found.rule) e h.before;
  one = inr h.one;
  least = (h.before, h.least);
}

-- the next fault does not, and the known one is kept
keep_known : (known fault found : Fault) (faults : List Fault) → comes_before fault known ≡ false →
    IsLeastWith known faults found → IsLeastWith known (fault ∷ faults) found
keep_known known fault found faults e h = record {
  before = h.before;
  one = ⊎_elim (λ same. inl same) (λ among. inr (inr among)) h.one;
  least = (
    kept_numbers fault.tree (code_of fault.rule) known.tree (code_of known.rule) found.tree
        (code_of found.rule) e h.before,
    h.least,
  );
}

take_found : (known fault : Fault) (faults : List Fault) (found : Option Fault) →
    comes_before fault known ≡ true →
    IfSome found (IsLeastWith fault faults) → IfSome found (IsLeastWith known (fault ∷ faults))
take_found known fault faults None e h = h
take_found known fault faults (Some found) e h = take_next known fault found faults e h

keep_found : (known fault : Fault) (faults : List Fault) (found : Option Fault) →
    comes_before fault known ≡ false →
    IfSome found (IsLeastWith known faults) → IfSome found (IsLeastWith known (fault ∷ faults))
keep_found known fault faults None e h = h
keep_found known fault faults (Some found) e h = keep_known known fault found faults e h

least_from : (known : Fault) (faults : List Fault) →
    IfSome (least_with (Some known) faults) (IsLeastWith known faults)
least_from known [] = record {
  before = same_numbers known.tree (code_of known.rule);
  one = inl refl;
  least = tt;
}
least_from known (fault ∷ faults) =
    elim (comes_before fault known)
    as (λ b. (comes_before fault known ≡ b)
    → IfSome (least_with (if b then Some fault else Some known) faults)
    (IsLeastWith known (fault ∷ faults))) [
      | true ↦ λ e. take_found known fault faults (least_with (Some fault) faults) e
          (least_from fault faults)
      | false ↦ λ e. keep_found known fault faults (least_with (Some known) faults) e
          (least_from known faults)
    ] refl

-- behind a known fault one is found
some_from : (known : Fault) (faults : List Fault) → IsSome (least_with (Some known) faults)
some_from known [] = refl
some_from known (fault ∷ faults) =
    elim (comes_before fault known)
    as (λ b. IsSome (least_with (if b then Some fault else Some known) faults))
    [ true ↦ some_from fault faults | false ↦ some_from known faults ]

least_found : (known : Fault) (faults : List Fault) (found : Option Fault) → IsSome found →
    IfSome found (IsLeastWith known faults) →
    MatchOption found (known ∷ faults ≡ []) (IsLeastOf (known ∷ faults))
least_found known faults None some h = absurd (let f : false ≡ true = some in cc)
least_found known faults (Some found) some h = record { one = h.one; least = (h.before, h.least) }

-- the least fault of a list is the least of it, and is there where the list has one
pub least_is_least : (faults : List Fault) →
    MatchOption (least_of faults) (faults ≡ []) (IsLeastOf faults)
least_is_least [] = refl
least_is_least (fault ∷ faults) =
    least_found fault faults (least_with (Some fault) faults) (some_from fault faults)
    (least_from fault faults)

-- all lists are empty
abbrev AllEmpty : List (List Fault) → Type 0
AllEmpty groups = AllByRecursion (λ faults. faults ≡ []) groups

first_behind : (k : ℕ) (faults : List Fault) (more : List (List Fault)) (found : Option Fault)
    (later : Option TypeFault) →
    MatchOption found (faults ≡ []) (IsLeastOf faults) →
    MatchOption later (AllEmpty more) (IsFirstFrom (k + 1) more) →
    MatchOption (or_first k found later) (AllEmpty (faults ∷ more)) (IsFirstFrom k (faults ∷ more))
first_behind k faults more None None none h = (none, h)
first_behind k faults more None (Some later) none h = inr (none, h)
first_behind k faults more (Some found) later h behind = inl (refl, h)

-- the first fault by declaration is the least of the first declaration that has any
pub first_is_first : (k : ℕ) (groups : List (List Fault)) →
    MatchOption (first_from k groups) (AllEmpty groups) (IsFirstFrom k groups)
first_is_first k [] = tt
first_is_first k (faults ∷ more) =
    first_behind k faults more (least_of faults) (first_from (k + 1) more) (least_is_least faults)
    (first_is_first (k + 1) more)
