-- The rules on shifts keep values.
use Rattle.std.proofs.Common.{◌≡◌, ◌∙◌, ℕ, ◌+◌, ◌-◌, ◌*◌, ◌/◌, ◌%◌, ◌^◌, ◌<◌, ◌≤◌, true, List, Option, Some, refl, ap, sym, nat_lt, nat_le, min, arith}
use Rattle.std.specs.Prelude.{◌==◌, ◌&&◌}
use Rattle.std.proofs.Math.Nat.{div-one, mul-one, mod-eq_of_lt}
use Rattle.std.proofs.lemmas.Bool.{eqb-true, and_parts, leb-true, ltb-true, cond-true, cond-false, lt-ltb, le-ltb}
use Rattle.std.proofs.lemmas.Nat.{pow_pos}
use Rattle.kat_value.specs.declared.op.Op.{Op}
use Rattle.kat_value.specs.declared.op.Op.TheVariants.{Shl, Shr, Sar, Cat, Zext, Sext}
use Rattle.kat_value.specs.declared.types.TypeDecl.{TypeDecl}
use Rattle.kat_value.specs.declared.value.Value.{Value}
use Rattle.kat_value.specs.declared.value.Value.TheVariants.{Bits}
use Rattle.kat_value.specs.Numbers.{number_of_op, sign_extended}
use Rattle.kat_value.specs.Widths.{is_number}
use Rattle.kat_term.specs.declared.term.Term.{Term}
use Rattle.kat_term.specs.Values.{Valuation, IsKept, value_of}
use Rattle.kat_term.specs.Views.{one, two, bits}
use Rattle.kat_rules.specs.Keeps.{Keeps}
use Rattle.kat_rules.specs.Patterns.{only_if}
use Rattle.kat_rules.specs.Shifts.{on_shift, slice, shl_by_zero, shr_by_zero, sar_by_zero, shl_out, shr_out, shl_of_literal, shr_of_literal, sar_of_literal}
use Rattle.kat_rules.proofs.TermLaws.{TermLaws}
use Rattle.kat_rules.proofs.Meaning.{bits_value, on_second_literal, IsOnNumbers}
use Rattle.kat_rules.proofs.NumberParts.{top_part, moved_up, extended_to_own, moved_signed}
use Rattle.kat_rules.proofs.OrderLaws.{below, number_of_less}
use Rattle.kat_rules.proofs.PartMeaning.{positive, small, number_made, same_bits, slice_from, slice_number, zext_from, sext_from, cat_from}
use Rattle.kat_rules.proofs.Patterns.{only_is, in_bits, in_two}

-- the numbers that shifts give
not_moved_up : (w a : ℕ) → 0 < w → a < 2 ^ w → number_of_op Shl w a 0 ≡ a
not_moved_up w a some less = cond-true (nat_lt 0 w) _ _ (lt-ltb 0 w some) ∙ ap (λ x. x % 2 ^ w) (mul-one a) ∙ mod-eq_of_lt less

not_moved_down : (w a : ℕ) → 0 < w → number_of_op Shr w a 0 ≡ a
not_moved_down w a some = cond-true (nat_lt 0 w) _ _ (lt-ltb 0 w some) ∙ div-one a

not_moved_signed : (w a : ℕ) → number_of_op Sar w a 0 ≡ a
not_moved_signed w a =
    let none : min 0 w ≡ 0 = omega arith in
    let same : w + 0 ≡ w = omega arith in
    ap (λ k. sign_extended w (w + k) a / 2 ^ k) none ∙ div-one (sign_extended w (w + 0) a) ∙ ap (λ k. sign_extended w k a) same ∙ extended_to_own w a

up_within : (w a n : ℕ) → n < w → number_of_op Shl w a n ≡ (a * 2 ^ n) % 2 ^ w
up_within w a n inside = cond-true (nat_lt n w) _ _ (lt-ltb n w inside)

down_within : (w a n : ℕ) → n < w → number_of_op Shr w a n ≡ a / 2 ^ n
down_within w a n inside = cond-true (nat_lt n w) _ _ (lt-ltb n w inside)

up_past : (w a n : ℕ) → w ≤ n → number_of_op Shl w a n ≡ 0
up_past w a n past = cond-false (nat_lt n w) _ _ (le-ltb n w past)

down_past : (w a n : ℕ) → w ≤ n → number_of_op Shr w a n ≡ 0
down_past w a n past = cond-false (nat_lt n w) _ _ (le-ltb n w past)

module _ (laws : TermLaws) (types : List TypeDecl) (v : Valuation) where
  abbrev Kept : Term → Term → Type 0
  Kept l r = IsKept (value_of types v l) (value_of types v r)

  -- the value of a shift
  abbrev shifted : Op → ℕ → ℕ → ℕ → Value
  shifted op w m n = Bits w (number_of_op op w m n)

  in_shift : (op : Op) (t : Term) (go : Term → ℕ → ℕ → Option Term) (r : Term) → on_shift op t go ≡ Some r →
      ((a : Term) (w n : ℕ) → is_number w n ≡ true → go a w n ≡ Some r → Kept (two op a (bits w n)) r) → Kept t r
  in_shift op t go r e law =
      in_two laws.operations op t _ r (λ u. Kept u r) e (λ a l g. in_bits l _ r (λ u. Kept (two op a u) r) g (λ w n number h. law a w n number h))

  -- by zero
  by_zero-law : (op : Op) → IsOnNumbers types v op (shifted op) → ((w m : ℕ) → 0 < w → m < 2 ^ w → number_of_op op w m 0 ≡ m) →
      (w n : ℕ) (a : Term) → is_number w n ≡ true → n ≡ 0 → Kept (two op a (bits w n)) a
  by_zero-law op is_on gives w n a number zero =
      on_second_literal types v op (shifted op) is_on w n a a number
      (λ m is m_number. is ∙ ap (λ k. Some (Bits w k)) (sym (ap (number_of_op op w m) zero ∙ gives w m (positive w m m_number) (below w m m_number))))

  by_zero_keeps : (op : Op) → IsOnNumbers types v op (shifted op) → ((w m : ℕ) → 0 < w → m < 2 ^ w → number_of_op op w m 0 ≡ m) →
      (t r : Term) → on_shift op t (λ a w n. only_if (n == 0) a) ≡ Some r → Kept t r
  by_zero_keeps op is_on gives t r e =
      in_shift op t _ r e (λ a w n number h. only_is (Kept (two op a (bits w n))) (n == 0) a r h (λ test. by_zero-law op is_on gives w n a number (eqb-true n 0 test)))

  -- past the width
  past-law : (op : Op) → IsOnNumbers types v op (shifted op) → ((w m n : ℕ) → w ≤ n → number_of_op op w m n ≡ 0) →
      (w n : ℕ) (a : Term) → is_number w n ≡ true → w ≤ n → Kept (two op a (bits w n)) (bits w 0)
  past-law op is_on gives w n a number past =
      on_second_literal types v op (shifted op) is_on w n a (bits w 0) number
      (λ m is m_number. bits_value types v w 0 (number_of_less w n 0 number (pow_pos w)) ∙ ap (λ k. Some (Bits w k)) (sym (gives w m n past)))

  past_keeps : (op : Op) → IsOnNumbers types v op (shifted op) → ((w m n : ℕ) → w ≤ n → number_of_op op w m n ≡ 0) →
      (t r : Term) → on_shift op t (λ a w n. only_if (nat_le w n) (bits w 0)) ≡ Some r → Kept t r
  past_keeps op is_on gives t r e =
      in_shift op t _ r e (λ a w n number h. only_is (Kept (two op a (bits w n))) (nat_le w n) (bits w 0) r h (λ test. past-law op is_on gives w n a number (leb-true w n test)))

  -- up by a literal: the lower bits, with zeros below them
  up-law : (w n : ℕ) (a : Term) → is_number w n ≡ true → 0 < n → n < w → Kept (two Shl a (bits w n)) (two Cat (slice (w - 1 - n) 0 a) (bits n 0))
  up-law w n a number some inside =
      on_second_literal types v Shl (shifted Shl) (λ y z. refl) w n a (two Cat (slice (w - 1 - n) 0 a) (bits n 0)) number
      (λ m is m_number.
      let within = small w m m_number in
      let zeros : is_number n 0 ≡ true = number_made n 0 some (omega (arith, inside, within)) (pow_pos n) in
      let low : w - 1 - n < w = omega (arith, inside) in
      let width : w - 1 - n - 0 + 1 + n ≡ w = omega (arith, inside) in
      let low_number = slice_number types v (w - 1 - n) 0 w m m_number (omega arith) low in
      cat_from types v (slice (w - 1 - n) 0 a) (bits n 0) (w - 1 - n - 0 + 1) (m / 2 ^ 0 % 2 ^ (w - 1 - n - 0 + 1)) n 0
      (slice_from types v (w - 1 - n) 0 a w m is m_number (omega arith) low) (bits_value types v n 0 zeros) low_number zeros (omega (arith, width, within))
      ∙ same_bits (w - 1 - n - 0 + 1 + n) w _ (number_of_op Shl w m n) width
      (sym (up_within w m n inside ∙ ap (λ k. (m * 2 ^ n) % 2 ^ k) (sym width) ∙ moved_up m n (w - 1 - n - 0 + 1))))

  -- down by a literal: the upper bits, with zeros above them
  down-law : (w n : ℕ) (a : Term) → is_number w n ≡ true → 0 < n → n < w → Kept (two Shr a (bits w n)) (one (Zext w) (slice (w - 1) n a))
  down-law w n a number some inside =
      on_second_literal types v Shr (shifted Shr) (λ y z. refl) w n a (one (Zext w) (slice (w - 1) n a)) number
      (λ m is m_number.
      let ordered : n ≤ w - 1 = omega (arith, inside) in
      let last : w - 1 < w = omega (arith, inside) in
      zext_from types v w (slice (w - 1) n a) (w - 1 - n + 1) (m / 2 ^ n % 2 ^ (w - 1 - n + 1))
      (slice_from types v (w - 1) n a w m is m_number ordered last) (slice_number types v (w - 1) n w m m_number ordered last)
      (omega (arith, inside)) (small w m m_number)
      ∙ ap (λ k. Some (Bits w k)) (top_part m w n (w - 1 - n + 1) (below w m m_number) (omega (arith, inside)) ∙ sym (down_within w m n inside)))

  -- down by a literal, with copies of the top bit above
  signed-law : (w n : ℕ) (a : Term) → is_number w n ≡ true → 0 < n → Kept (two Sar a (bits w n)) (one (Sext w) (slice (w - 1) (min n (w - 1)) a))
  signed-law w n a number some =
      on_second_literal types v Sar (shifted Sar) (λ y z. refl) w n a (one (Sext w) (slice (w - 1) (min n (w - 1)) a)) number
      (λ m is m_number.
      let k : ℕ = min n (w - 1) in
      let low : 1 ≤ w = positive w m m_number in
      let ordered : min n (w - 1) ≤ w - 1 = omega arith in
      let last : w - 1 < w = omega (arith, low) in
      let width : w - 1 - min n (w - 1) + 1 ≡ w - min n (w - 1) = omega (arith, low) in
      sext_from types v w (slice (w - 1) k a) (w - 1 - k + 1) (m / 2 ^ k % 2 ^ (w - 1 - k + 1))
      (slice_from types v (w - 1) k a w m is m_number ordered last) (slice_number types v (w - 1) k w m m_number ordered last)
      (omega (arith, width)) (small w m m_number)
      ∙ ap (λ i. Some (Bits w i))
      (ap (λ i. sign_extended i w (m / 2 ^ k % 2 ^ i)) width
      ∙ ap (sign_extended (w - k) w) (top_part m w k (w - k) (below w m m_number) (omega arith))
      ∙ sym (moved_signed w n m low (below w m m_number))))

module _ (laws : TermLaws) where
  pub shl_by_zero_keeps : Keeps shl_by_zero
  shl_by_zero_keeps types vars v fits = by_zero_keeps laws types v Shl (λ y z. refl) not_moved_up

  pub shr_by_zero_keeps : Keeps shr_by_zero
  shr_by_zero_keeps types vars v fits = by_zero_keeps laws types v Shr (λ y z. refl) (λ w m some less. not_moved_down w m some)

  pub sar_by_zero_keeps : Keeps sar_by_zero
  sar_by_zero_keeps types vars v fits = by_zero_keeps laws types v Sar (λ y z. refl) (λ w m some less. not_moved_signed w m)

  pub shl_out_keeps : Keeps shl_out
  shl_out_keeps types vars v fits = past_keeps laws types v Shl (λ y z. refl) up_past

  pub shr_out_keeps : Keeps shr_out
  shr_out_keeps types vars v fits = past_keeps laws types v Shr (λ y z. refl) down_past

  pub shl_of_literal_keeps : Keeps shl_of_literal
  shl_of_literal_keeps types vars v fits t r e =
      in_shift laws types v Shl t _ r e (λ a w n number h. only_is (λ u. IsKept (value_of types v (two Shl a (bits w n))) (value_of types v u))
      (nat_lt 0 n && nat_lt n w) (two Cat (slice (w - 1 - n) 0 a) (bits n 0)) r h
      (λ test. let parts = and_parts (nat_lt 0 n) (nat_lt n w) test in up-law laws types v w n a number (ltb-true 0 n parts.0) (ltb-true n w parts.1)))

  pub shr_of_literal_keeps : Keeps shr_of_literal
  shr_of_literal_keeps types vars v fits t r e =
      in_shift laws types v Shr t _ r e (λ a w n number h. only_is (λ u. IsKept (value_of types v (two Shr a (bits w n))) (value_of types v u))
      (nat_lt 0 n && nat_lt n w) (one (Zext w) (slice (w - 1) n a)) r h
      (λ test. let parts = and_parts (nat_lt 0 n) (nat_lt n w) test in down-law laws types v w n a number (ltb-true 0 n parts.0) (ltb-true n w parts.1)))

  pub sar_of_literal_keeps : Keeps sar_of_literal
  sar_of_literal_keeps types vars v fits t r e =
      in_shift laws types v Sar t _ r e (λ a w n number h. only_is (λ u. IsKept (value_of types v (two Sar a (bits w n))) (value_of types v u))
      (nat_lt 0 n) (one (Sext w) (slice (w - 1) (min n (w - 1)) a)) r h
      (λ test. signed-law laws types v w n a number (ltb-true 0 n test)))
