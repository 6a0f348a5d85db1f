-- Read twice for each formula, a list changes nothing more.
use Rattle.std.proofs.Common.{◌≡◌, ◌∙◌, ◌⊎◌, inl, inr, ℕ, zero, suc, ◌+◌, ◌-◌, ◌<◌, ◌≤◌, Bool, true, false, List, [], ◌∷◌, Option, Some, None, refl, ap, sym, if◌then◌else◌, arith, nat_lt}
use Rattle.std.specs.Prelude.{◌==◌, ◌&&◌, length, max, min}
use Rattle.std.proofs.Math.Nat.{max-eq_left, le-max_left, le-max_right, min-eq_left, min-le_left, min-le_right}
use Rattle.std.proofs.lemmas.Bool.{cases_lt, eqb-true, eq-eqb, and_from, lt-ltb, le-ltb}
use Rattle.kat_term.specs.declared.term.Term.{Term}
use Rattle.kat_known.specs.declared.bounds.Interval.{Interval}
use Rattle.kat_known.specs.declared.facts.Fact.{Fact}
use Rattle.kat_known.specs.declared.facts.Fact.TheVariants.{Above, AtLeast, Below, AtMost, Exactly, Differs}
use Rattle.kat_known.specs.Bounds.{from_to, fact_of, inwards, taken_in, read_all, same_interval, read_times, read_often}

-- one where a number is below another, and else none
abbrev below : ℕ → ℕ → ℕ
below a b = if nat_lt a b then 1 else 0

below_yes : (a b : ℕ) → a < b → below a b ≡ 1
below_yes a b less = ap (λ (c : Bool). if c then 1 else 0) (lt-ltb a b less)

below_no : (a b : ℕ) → b ≤ a → below a b ≡ 0
below_no a b most = ap (λ (c : Bool). if c then 1 else 0) (le-ltb a b most)

below_most : (a b : ℕ) → below a b ≤ 1
below_most a b =
    elim (cases_lt a b) [
      | inl l ↦ let e = below_yes a b l in omega (arith, e)
      | inr l ↦
          let e = below_no a b l in omega (arith, e)
    ]

below_down : (a b c d : ℕ) → a ≤ c → d ≤ b → below c d ≤ below a b
below_down a b c d up down = elim (cases_lt c d) [
  | inl l ↦ let e =
      below_yes c d l in let f = below_yes a b (omega (arith, up, down, l)) in omega (arith, e, f)
  | inr l ↦ let e = below_no c d l in omega (arith, e)
]

-- how often a formula can still move a bound
abbrev low_left : Option Fact → Interval → ℕ
low_left None i = 0
low_left (Some (Above n)) i = below i.low (n + 1)
low_left (Some (AtLeast n)) i = below i.low n
low_left (Some (Below n)) i = 0
low_left (Some (AtMost n)) i = 0
low_left (Some (Exactly n)) i = below i.low n
low_left (Some (Differs n)) i = below i.low (n + 1)

abbrev high_left : Option Fact → Interval → ℕ
high_left None i = 0
high_left (Some (Above n)) i = 0
high_left (Some (AtLeast n)) i = 0
high_left (Some (Below n)) i = below (n - 1) i.high
high_left (Some (AtMost n)) i = below n i.high
high_left (Some (Exactly n)) i = below n i.high
high_left (Some (Differs n)) i = below n (i.high + 1)

-- one interval is within another
abbrev IsWithin : Interval → Interval → Type 0
IsWithin j i = (i.low ≤ j.low) × (j.high ≤ i.high)

low_down : (o : Option Fact) (i j : Interval) → IsWithin j i → low_left o j ≤ low_left o i
low_down None i j w = omega arith
low_down (Some (Above n)) i j w = below_down i.low (n + 1) j.low (n + 1) w.0 (omega arith)
low_down (Some (AtLeast n)) i j w = below_down i.low n j.low n w.0 (omega arith)
low_down (Some (Below n)) i j w = omega arith
low_down (Some (AtMost n)) i j w = omega arith
low_down (Some (Exactly n)) i j w = below_down i.low n j.low n w.0 (omega arith)
low_down (Some (Differs n)) i j w = below_down i.low (n + 1) j.low (n + 1) w.0 (omega arith)

high_down : (o : Option Fact) (i j : Interval) → IsWithin j i → high_left o j ≤ high_left o i
high_down None i j w = omega arith
high_down (Some (Above n)) i j w = omega arith
high_down (Some (AtLeast n)) i j w = omega arith
high_down (Some (Below n)) i j w = below_down (n - 1) i.high (n - 1) j.high (omega arith) w.1
high_down (Some (AtMost n)) i j w = below_down n i.high n j.high (omega arith) w.1
high_down (Some (Exactly n)) i j w = below_down n i.high n j.high (omega arith) w.1
high_down (Some (Differs n)) i j w =
    let h = w.1 in below_down n (i.high + 1) n (j.high + 1) (omega arith) (omega (arith, h))

-- what a step has done: nothing, or it has moved a bound that it cannot move again
abbrev Moves : Option Fact → Interval → Interval → Type 0
Moves o i j =
    IsWithin j i × ((j ≡ i) ⊎ (low_left o j + high_left o j < low_left o i + high_left o i))

raised : (low n : ℕ) → (max low n ≡ low) ⊎ (below (max low n) n < below low n)
raised low n = elim (cases_lt low n) [
  | inl l ↦ let e =
      below_yes low n l in let m = le-max_right low n in let f = below_no (max low n) n m in
      inr (omega (arith, e, f))
  | inr l ↦ inl (max-eq_left l)
]

lowered : (high n : ℕ) → (min high n ≡ high) ⊎ (below n (min high n) < below n high)
lowered high n = elim (cases_lt n high) [
  | inl l ↦ let e =
      below_yes n high l in let m = min-le_right high n in let f = below_no n (min high n) m in
      inr (omega (arith, e, f))
  | inr l ↦ inl (min-eq_left l)
]

low_moves : (o : Option Fact) (low high n : ℕ) → low_left o (from_to low high) ≡ below low n →
    low_left o (from_to (max low n) high) ≡ below (max low n) n →
    high_left o (from_to (max low n) high) ≡ high_left o (from_to low high) →
    Moves o (from_to low high) (from_to (max low n) high)
low_moves o low high n a b c = ((le-max_left low n, omega arith), by (raised low n)) where
  by : (max low n ≡ low) ⊎ (below (max low n) n < below low n) →
      (from_to (max low n) high ≡ from_to low high)
      ⊎ (low_left o (from_to (max low n) high) + high_left o (from_to (max low n) high) < low_left o
      (from_to low high) + high_left o (from_to low high))
  by (inl e) = inl (ap (λ l. from_to l high) e)
  by (inr l) = inr (omega (arith, a, b, c, l))

high_moves : (o : Option Fact) (low high n : ℕ) → high_left o (from_to low high) ≡ below n high →
    high_left o (from_to low (min high n)) ≡ below n (min high n) →
    low_left o (from_to low (min high n)) ≡ low_left o (from_to low high) →
    Moves o (from_to low high) (from_to low (min high n))
high_moves o low high n a b c = ((omega arith, min-le_left high n), by (lowered high n)) where
  by : (min high n ≡ high) ⊎ (below n (min high n) < below n high) →
      (from_to low (min high n) ≡ from_to low high)
      ⊎ (low_left o (from_to low (min high n)) + high_left o (from_to low (min high n)) < low_left o
      (from_to low high) + high_left o (from_to low high))
  by (inl e) = inl (ap (from_to low) e)
  by (inr l) = inr (omega (arith, a, b, c, l))

exactly_moves : (low high n : ℕ) →
    Moves (Some (Exactly n)) (from_to low high) (from_to (max low n) (min high n))
exactly_moves low high n =
    ((le-max_left low n, min-le_left high n), by (raised low n) (lowered high n)) where
      by : (max low n ≡ low) ⊎ (below (max low n) n < below low n) →
          (min high n ≡ high) ⊎ (below n (min high n) < below n high) →
          (from_to (max low n) (min high n) ≡ from_to low high)
          ⊎ (below (max low n) n + below n (min high n) < below low n + below n high)
      by (inl e) (inl f) = inl (ap (λ l. from_to l (min high n)) e ∙ ap (from_to low) f)
      by (inl e) (inr g) =
          let h = below_down low n (max low n) n (le-max_left low n) (omega arith) in
          inr (omega (arith, h, g))
      by (inr l) (inl f) =
          let h = below_down n high n (min high n) (omega arith) (min-le_left high n) in
          inr (omega (arith, h, l))
      by (inr l) (inr g) = inr (omega (arith, l, g))

differs_moves : (low high n : ℕ) →
    Moves (Some (Differs n)) (from_to low high) (inwards n (from_to low high))
differs_moves low high n = all (low == high) (low == n) refl (high == n) refl where
  all : (a b : Bool) → (low == n) ≡ b → (c : Bool) → (high == n) ≡ c →
      Moves (Some (Differs n)) (from_to low high)
      (if a then from_to low high else if b then from_to
      (low + 1) high else if c then from_to low (high - 1) else from_to low high)
  all true b is_b c is_c = ((omega arith, omega arith), inl refl)
  all false true is_b c is_c =
      let e : low ≡ n = eqb-true low n is_b in
      let f = below_yes low (n + 1) (omega (arith, e)) in
      let g = below_no (low + 1) (n + 1) (omega (arith, e)) in
      ((omega arith, omega arith), inr (omega (arith, f, g)))
  all false false is_b true is_c =
      let e : high ≡ n = eqb-true high n is_c in ((omega arith, omega arith), at high e) where
        at : (h : ℕ) → h ≡ n → (from_to low (h - 1) ≡ from_to low h)
            ⊎ (below low (n + 1) + below n (h - 1 + 1) < below low (n + 1) + below n (h + 1))
        at zero e = inl refl
        at (suc h) e =
            let f = below_yes n (suc h + 1) (omega (arith, e)) in
            let g = below_no n (suc h - 1 + 1) (omega (arith, e)) in inr (omega (arith, f, g))
  all false false is_b false is_c = ((omega arith, omega arith), inl refl)

moves : (o : Option Fact) (i : Interval) → Moves o i (taken_in o i)
moves None i = ((omega arith, omega arith), inl refl)
moves (Some (Above n)) i = low_moves (Some (Above n)) i.low i.high (n + 1) refl refl refl
moves (Some (AtLeast n)) i = low_moves (Some (AtLeast n)) i.low i.high n refl refl refl
moves (Some (Below n)) i = high_moves (Some (Below n)) i.low i.high (n - 1) refl refl refl
moves (Some (AtMost n)) i = high_moves (Some (AtMost n)) i.low i.high n refl refl refl
moves (Some (Exactly n)) i = exactly_moves i.low i.high n
moves (Some (Differs n)) i = differs_moves i.low i.high n

module _ (t : Term) where
  abbrev left_of : List Term → Interval → ℕ
  left_of [] i = 0
  left_of (f ∷ list) i = (low_left (fact_of t f) i + high_left (fact_of t f) i) + left_of list i

  left_down : (list : List Term) (i j : Interval) → IsWithin j i → left_of list j ≤ left_of list i
  left_down [] i j w = omega arith
  left_down (f ∷ list) i j w =
      let a = low_down (fact_of t f) i j w in let b = high_down (fact_of t f) i j w in
      let c = left_down list i j w in omega (arith, a, b, c)

  within_on : (i j k : Interval) → IsWithin j i → IsWithin k j → IsWithin k i
  within_on i j k w u =
      let a = w.0 in let b = w.1 in let c = u.0 in let d = u.1 in
      (omega (arith, a, c), omega (arith, b, d))

  abbrev Reads : List Term → Interval → Interval → Type 0
  Reads list i j = IsWithin j i × ((j ≡ i) ⊎ (left_of list j < left_of list i))

  reads : (list : List Term) (i : Interval) → Reads list i (read_all t list i)
  reads [] i = ((omega arith, omega arith), inl refl)
  reads (f ∷ list) i = by (moves (fact_of t f) i) (reads list (taken_in (fact_of t f) i)) where
    by : Moves (fact_of t f) i (taken_in (fact_of t f) i) →
        Reads list (taken_in (fact_of t f) i) (read_all t list (taken_in (fact_of t f) i)) →
        Reads (f ∷ list) i (read_all t list (taken_in (fact_of t f) i))
    by first second =
        let k = taken_in (fact_of t f) i in
        let j = read_all t list (taken_in (fact_of t f) i) in
        let a = low_down (fact_of t f) k j second.0 in
        let b = high_down (fact_of t f) k j second.0 in
        let c = low_down (fact_of t f) i k first.0 in let d = high_down (fact_of t f) i k first.0 in
        let g = left_down list k j second.0 in let h = left_down list i k first.0 in (
          within_on i k j first.0 second.0,
          elim first.1 [
            | inl same ↦ elim second.1 [
              | inl again ↦ inl (again ∙ same)
              | inr less ↦
                  inr (omega (arith, a, b, c, d, g, h, less))
            ]
            | inr less ↦ inr (omega (arith, a, b, c, d, g, h, less))
          ],
        )

  same_told : (i j : Interval) → same_interval j i ≡ false → j ≡ i → ⊥
  same_told i j differ same =
      let alike : same_interval j i ≡ true = ap (λ k. same_interval k i) same
      ∙ and_from (i.low == i.low) (i.high == i.high) (eq-eqb i.low i.low refl)
      (eq-eqb i.high i.high refl) in
      let e : true ≡ false = sym alike ∙ differ in cc

  told_same : (i j : Interval) → same_interval j i ≡ true → j ≡ i
  told_same i j alike = by (j.low == i.low) refl (j.high == i.high) refl alike where
    by : (a : Bool) → (j.low == i.low) ≡ a → (b : Bool) → (j.high == i.high) ≡ b → (a && b) ≡ true →
        j ≡ i
    by true is_a true is_b e =
        ap (λ l. from_to l j.high) (eqb-true j.low i.low is_a)
        ∙ ap (from_to i.low) (eqb-true j.high i.high is_b)
    by true is_a false is_b e = cc
    by false is_a b is_b e = cc

  rest_from : (more : ℕ) (list : List Term) (i : Interval) → left_of list i ≤ more →
      read_all t list (read_times more t list i) ≡ read_times more t list i
  rest_from zero list i few =
      elim (reads list i).1 [
        | inl same ↦ same
        | inr less ↦ let no : ⊥ = omega (arith, few, less) in
            absurd no
      ]
  rest_from (suc more) list i few =
      by (λ less. rest_from more list (read_all t list i) less)
      (same_interval (read_all t list i) i) refl where
        by : (left_of list (read_all t list i) ≤ more →
            read_all t list (read_times more t list (read_all t list i))
            ≡ read_times more t list (read_all t list i)) →
            (b : Bool) → same_interval (read_all t list i) i ≡ b →
            read_all t list (if b then i else read_times more t list (read_all t list i))
            ≡ (if b then i else read_times more t list (read_all t list i))
        by go true is = told_same i (read_all t list i) is
        by go false is =
            go (elim (reads list i).1 [
              | inl same ↦
                  absurd (same_told i (read_all t list i) is same)
              | inr less ↦ omega (arith, few, less)
            ])

  at_most_one : (o : Option Fact) (i : Interval) → (low_left o i ≤ 1) × (high_left o i ≤ 1)
  at_most_one None i = (omega arith, omega arith)
  at_most_one (Some (Above n)) i = (below_most i.low (n + 1), omega arith)
  at_most_one (Some (AtLeast n)) i = (below_most i.low n, omega arith)
  at_most_one (Some (Below n)) i = (omega arith, below_most (n - 1) i.high)
  at_most_one (Some (AtMost n)) i = (omega arith, below_most n i.high)
  at_most_one (Some (Exactly n)) i = (below_most i.low n, below_most n i.high)
  at_most_one (Some (Differs n)) i = (below_most i.low (n + 1), below_most n (i.high + 1))

  twice : (list : List Term) (i : Interval) → left_of list i ≤ length list + length list
  twice [] i = omega arith
  twice (f ∷ list) i =
      let one = at_most_one (fact_of t f) i in let a = one.0 in let b = one.1 in
      let c = twice list i in omega (arith, a, b, c)

  -- what is read so often is at rest
  pub bounds_rest : (list : List Term) (i : Interval) →
      read_all t list (read_often t list i) ≡ read_often t list i
  bounds_rest list i = rest_from (length list + length list) list i (twice list i)
