-- The rules on comparisons keep values.
use Rattle.std.proofs.Common.{◌≡◌, ◌∙◌, ℕ, ◌-◌, ◌^◌, ◌<◌, ◌≤◌, Bool, true, false, List, Some, refl, ap, sym, subst, nat_lt, nat_le, inl, inr, arith}
use Rattle.std.specs.Prelude.{not, ◌&&◌, ◌==◌, int_lt, int_le, ℤ}
use Rattle.std.proofs.lemmas.Int.{ints}
use Rattle.std.proofs.lemmas.Nat.{pow_pos}
use Rattle.std.proofs.lemmas.Bool.{cases_lt, lt-ltb, le-ltb, le-leb, lt-leb, ltb-true, eqb-true, eq-eqb, and_parts}
use Rattle.kat_value.specs.declared.op.Op.{Op}
use Rattle.kat_value.specs.declared.op.Op.TheVariants.{Not, Ult, Ule, Slt, Sle}
use Rattle.kat_value.specs.declared.types.Ty.{Ty}
use Rattle.kat_value.specs.declared.types.TypeDecl.{TypeDecl}
use Rattle.kat_value.specs.declared.value.Value.{Value}
use Rattle.kat_value.specs.declared.value.Value.TheVariants.{Bool as Truth, Bits}
use Rattle.kat_value.specs.Equality.{TestsEquality}
use Rattle.kat_value.specs.Numbers.{truth_of_op, signed}
use Rattle.kat_value.specs.Widths.{is_number}
use Rattle.kat_value.specs.Widths.{is_width}
use Rattle.kat_term.specs.declared.term.Term.{Term}
use Rattle.kat_term.specs.Equality.{term_eq, TestsOperations, TestsTerms}
use Rattle.kat_term.specs.Values.{Valuation, IsKept, value_of}
use Rattle.kat_term.specs.Views.{one, two, truth, bits}
use Rattle.kat_rules.specs.Keeps.{KeepsValues}
use Rattle.kat_rules.specs.Orders.{comparison_of_same, ult_of_same, slt_of_same, ule_of_same, sle_of_same, ult_of_zero, ult_of_ones, ule_of_zero, ule_of_ones, is_zero, ult_of_one, ule_of_no_more, ult_of_none, ule_of_one}
use Rattle.kat_rules.proofs.Meaning.{truth_value, bits_value, not_from, on_first_literal, on_second_literal, on_same_sides, equal_numbers}
use Rattle.kat_rules.proofs.Patterns.{only_is, in_bits, in_two}

pub below : (w n : ℕ) → is_number w n ≡ true → n < 2 ^ w
below w n is = ltb-true n (2 ^ w) (and_parts (is_width w) (nat_lt n (2 ^ w)) is).1

pub number_of_less : (w m n : ℕ) → is_number w m ≡ true → n < 2 ^ w → is_number w n ≡ true
number_of_less w m n is less = ap (λ b. b && nat_lt n (2 ^ w)) (and_parts (is_width w) (nat_lt m (2 ^ w)) is).0 ∙ lt-ltb n (2 ^ w) less

not_less_self : (n : ℕ) → nat_lt n n ≡ false
not_less_self n = le-ltb n n (let e : n ≤ n = omega arith in e)

at_most_self : (n : ℕ) → nat_le n n ≡ true
at_most_self n = le-leb n n (let e : n ≤ n = omega arith in e)

not_less_self_signed : (x : ℤ) → int_lt x x ≡ false
not_less_self_signed x = by (int_lt x x) refl where
  by : (p : Bool) → int_lt x x ≡ p → p ≡ false
  by true e = absurd (omega (arith, ints))
  by false e = refl

at_most_self_signed : (x : ℤ) → int_le x x ≡ true
at_most_self_signed x = by (int_le x x) refl where
  by : (p : Bool) → int_le x x ≡ p → p ≡ true
  by true e = refl
  by false e = absurd (omega (arith, ints))

-- the test of equality of two numbers, when it holds and when not
pub equal_test : (m n : ℕ) → m ≡ n → (m == n) ≡ true
equal_test m n e = subst (λ k. (m == k) ≡ true) e (eq-eqb m m refl)

pub unequal_test : (m n : ℕ) → (m ≡ n → ⊥) → (m == n) ≡ false
unequal_test m n no_proof = by (m == n) refl where
  by : (b : Bool) → (m == n) ≡ b → (m == n) ≡ false
  by true e = absurd (no_proof (eqb-true m n e))
  by false e = e

-- zero is equal to what is below one
zero_below : (n : ℕ) → (0 == n) ≡ nat_lt n 1
zero_below n = elim (cases_lt n 1) [
  | inl l ↦ equal_test 0 n (omega arith) ∙ sym (lt-ltb n 1 l)
  | inr l ↦ unequal_test 0 n (λ e. omega (arith, e, l)) ∙ sym (le-ltb n 1 l)
]

zero_at_most : (n : ℕ) → (0 == n) ≡ nat_le n 0
zero_at_most n = elim (cases_lt 0 n) [
  | inl l ↦ unequal_test 0 n (λ e. omega (arith, e, l)) ∙ sym (lt-leb n 0 l)
  | inr l ↦ equal_test 0 n (omega arith) ∙ sym (le-leb n 0 l)
]

above_zero : (n : ℕ) → not (0 == n) ≡ nat_lt 0 n
above_zero n = elim (cases_lt 0 n) [
  | inl l ↦ ap not (unequal_test 0 n (λ e. omega (arith, e, l))) ∙ sym (lt-ltb 0 n l)
  | inr l ↦ ap not (equal_test 0 n (omega arith)) ∙ sym (le-ltb 0 n l)
]

at_least_one : (n : ℕ) → not (0 == n) ≡ nat_le 1 n
at_least_one n = elim (cases_lt 0 n) [
  | inl l ↦ ap not (unequal_test 0 n (λ e. omega (arith, e, l))) ∙ sym (le-leb 1 n (omega arith))
  | inr l ↦ ap not (equal_test 0 n (omega arith)) ∙ sym (lt-leb 1 n (omega arith))
]

module _ (ops : TestsOperations) (terms : TestsTerms) (values : TestsEquality) (types : List TypeDecl) (v : Valuation) where
  abbrev Kept : Term → Term → Type 0
  Kept l r = IsKept (value_of types v l) (value_of types v r)

  abbrev compared : Op → ℕ → ℕ → ℕ → Value
  compared op w m n = Truth (truth_of_op op w m n)

  -- a comparison of equal sides
  same_keeps : (op : Op) (holds : Bool) → ((a : Term) → Kept (two op a a) (truth holds)) → (vars : List Ty) → KeepsValues types v (comparison_of_same op holds vars)
  same_keeps op holds law vars t r e =
      in_two ops op t _ r (λ u. Kept u r) e (λ a b h. only_is (λ u. Kept (two op a b) u) (term_eq a b) (truth holds) r h
      (λ same. subst (λ c. Kept (two op a c) (truth holds)) ((terms a b).0 same) (law a)))

  pub ult_of_same_keeps : (vars : List Ty) → KeepsValues types v (ult_of_same vars)
  ult_of_same_keeps =
      same_keeps Ult false (λ a. on_same_sides types v Ult (compared Ult) (λ y z. refl) a (truth false)
      (λ w m is fits. truth_value types v false ∙ ap (λ b. Some (Truth b)) (sym (not_less_self m))))

  pub ule_of_same_keeps : (vars : List Ty) → KeepsValues types v (ule_of_same vars)
  ule_of_same_keeps =
      same_keeps Ule true (λ a. on_same_sides types v Ule (compared Ule) (λ y z. refl) a (truth true)
      (λ w m is fits. truth_value types v true ∙ ap (λ b. Some (Truth b)) (sym (at_most_self m))))

  pub slt_of_same_keeps : (vars : List Ty) → KeepsValues types v (slt_of_same vars)
  slt_of_same_keeps =
      same_keeps Slt false (λ a. on_same_sides types v Slt (compared Slt) (λ y z. refl) a (truth false)
      (λ w m is fits. truth_value types v false ∙ ap (λ b. Some (Truth b)) (sym (not_less_self_signed (signed w m)))))

  pub sle_of_same_keeps : (vars : List Ty) → KeepsValues types v (sle_of_same vars)
  sle_of_same_keeps =
      same_keeps Sle true (λ a. on_same_sides types v Sle (compared Sle) (λ y z. refl) a (truth true)
      (λ w m is fits. truth_value types v true ∙ ap (λ b. Some (Truth b)) (sym (at_most_self_signed (signed w m)))))

  -- comparisons with the least and the greatest number
  pub ult_of_zero_keeps : (vars : List Ty) → KeepsValues types v (ult_of_zero vars)
  ult_of_zero_keeps vars t r e =
      in_two ops Ult t _ r (λ u. Kept u r) e (λ a l g. in_bits l _ r (λ u. Kept (two Ult a u) r) g
      (λ w n fits h. only_is (λ u. Kept (two Ult a (bits w n)) u) (n == 0) (truth false) r h
      (λ zero. on_second_literal types v Ult (compared Ult) (λ y z. refl) w n a (truth false) fits
      (λ m is m_fits. truth_value types v false ∙ ap (λ b. Some (Truth b)) (sym (le-ltb m n (let z : n ≡ 0 = eqb-true n 0 zero in omega (arith, z))))))))

  pub ule_of_zero_keeps : (vars : List Ty) → KeepsValues types v (ule_of_zero vars)
  ule_of_zero_keeps vars t r e =
      in_two ops Ule t _ r (λ u. Kept u r) e (λ l a g. in_bits l _ r (λ u. Kept (two Ule u a) r) g
      (λ w n fits h. only_is (λ u. Kept (two Ule (bits w n) a) u) (n == 0) (truth true) r h
      (λ zero. on_first_literal types v Ule (compared Ule) (λ y z. refl) w n a (truth true) fits
      (λ m is m_fits. truth_value types v true ∙ ap (λ b. Some (Truth b)) (sym (le-leb n m (let z : n ≡ 0 = eqb-true n 0 zero in omega (arith, z))))))))

  pub ult_of_ones_keeps : (vars : List Ty) → KeepsValues types v (ult_of_ones vars)
  ult_of_ones_keeps vars t r e =
      in_two ops Ult t _ r (λ u. Kept u r) e (λ l a g. in_bits l _ r (λ u. Kept (two Ult u a) r) g
      (λ w n fits h. only_is (λ u. Kept (two Ult (bits w n) a) u) (n == 2 ^ w - 1) (truth false) r h
      (λ ones. on_first_literal types v Ult (compared Ult) (λ y z. refl) w n a (truth false) fits
      (λ m is m_fits. truth_value types v false
      ∙ ap (λ b. Some (Truth b)) (sym (le-ltb n m (let z : n ≡ 2 ^ w - 1 = eqb-true n (2 ^ w - 1) ones in omega (arith, z, below w m m_fits))))))))

  pub ule_of_ones_keeps : (vars : List Ty) → KeepsValues types v (ule_of_ones vars)
  ule_of_ones_keeps vars t r e =
      in_two ops Ule t _ r (λ u. Kept u r) e (λ a l g. in_bits l _ r (λ u. Kept (two Ule a u) r) g
      (λ w n fits h. only_is (λ u. Kept (two Ule a (bits w n)) u) (n == 2 ^ w - 1) (truth true) r h
      (λ ones. on_second_literal types v Ule (compared Ule) (λ y z. refl) w n a (truth true) fits
      (λ m is m_fits. truth_value types v true
      ∙ ap (λ b. Some (Truth b)) (sym (le-leb m n (let z : n ≡ 2 ^ w - 1 = eqb-true n (2 ^ w - 1) ones in omega (arith, z, below w m m_fits))))))))

  -- comparisons with zero
  zero_fits : (w n : ℕ) → is_number w n ≡ true → is_number w 0 ≡ true
  zero_fits w n fits = number_of_less w n 0 fits (pow_pos w)

  zero_equation : (w m : ℕ) (a : Term) → is_number w m ≡ true → value_of types v a ≡ Some (Bits w m) → value_of types v (is_zero w a) ≡ Some (Truth (0 == m))
  zero_equation w m a fits is = equal_numbers types v values (bits w 0) a w 0 m (bits_value types v w 0 (zero_fits w m fits)) is

  pub ult_of_one_keeps : (vars : List Ty) → KeepsValues types v (ult_of_one vars)
  ult_of_one_keeps vars t r e =
      in_two ops Ult t _ r (λ u. Kept u r) e (λ a l g. in_bits l _ r (λ u. Kept (two Ult a u) r) g
      (λ w n fits h. only_is (λ u. Kept (two Ult a (bits w n)) u) (n == 1) (is_zero w a) r h
      (λ one. on_second_literal types v Ult (compared Ult) (λ y z. refl) w n a (is_zero w a) fits
      (λ m is m_fits. zero_equation w m a m_fits is ∙ ap (λ b. Some (Truth b)) (zero_below m ∙ ap (nat_lt m) (sym (eqb-true n 1 one)))))))

  pub ule_of_no_more_keeps : (vars : List Ty) → KeepsValues types v (ule_of_no_more vars)
  ule_of_no_more_keeps vars t r e =
      in_two ops Ule t _ r (λ u. Kept u r) e (λ a l g. in_bits l _ r (λ u. Kept (two Ule a u) r) g
      (λ w n fits h. only_is (λ u. Kept (two Ule a (bits w n)) u) (n == 0) (is_zero w a) r h
      (λ zero. on_second_literal types v Ule (compared Ule) (λ y z. refl) w n a (is_zero w a) fits
      (λ m is m_fits. zero_equation w m a m_fits is ∙ ap (λ b. Some (Truth b)) (zero_at_most m ∙ ap (nat_le m) (sym (eqb-true n 0 zero)))))))

  pub ult_of_none_keeps : (vars : List Ty) → KeepsValues types v (ult_of_none vars)
  ult_of_none_keeps vars t r e =
      in_two ops Ult t _ r (λ u. Kept u r) e (λ l a g. in_bits l _ r (λ u. Kept (two Ult u a) r) g
      (λ w n fits h. only_is (λ u. Kept (two Ult (bits w n) a) u) (n == 0) (one Not (is_zero w a)) r h
      (λ zero. on_first_literal types v Ult (compared Ult) (λ y z. refl) w n a (one Not (is_zero w a)) fits
      (λ m is m_fits. not_from types v (is_zero w a) (0 == m) (zero_equation w m a m_fits is)
      ∙ ap (λ b. Some (Truth b)) (above_zero m ∙ ap (λ k. nat_lt k m) (sym (eqb-true n 0 zero)))))))

  pub ule_of_one_keeps : (vars : List Ty) → KeepsValues types v (ule_of_one vars)
  ule_of_one_keeps vars t r e =
      in_two ops Ule t _ r (λ u. Kept u r) e (λ l a g. in_bits l _ r (λ u. Kept (two Ule u a) r) g
      (λ w n fits h. only_is (λ u. Kept (two Ule (bits w n) a) u) (n == 1) (one Not (is_zero w a)) r h
      (λ unit. on_first_literal types v Ule (compared Ule) (λ y z. refl) w n a (one Not (is_zero w a)) fits
      (λ m is m_fits. not_from types v (is_zero w a) (0 == m) (zero_equation w m a m_fits is)
      ∙ ap (λ b. Some (Truth b)) (at_least_one m ∙ ap (λ k. nat_le k m) (sym (eqb-true n 1 unit)))))))
