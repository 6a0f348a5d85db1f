-- The rules on sums, differences and the order of sides keep values.
use Rattle.std.proofs.Common.{◌≡◌, ◌∙◌, ℕ, ◌+◌, ◌-◌, ◌%◌, ◌^◌, ◌<◌, true, List, Option, Some, refl, ap, sym, subst, arith}
use Rattle.std.specs.Prelude.{◌==◌}
use Rattle.std.proofs.Math.Nat.{mod-eq_of_lt, mod-add-mod, add-mod-mod, add-mod_left, mul_comm}
use Rattle.std.proofs.lemmas.Bool.{eqb-true}
use Rattle.std.proofs.lemmas.Nat.{pow_pos, and_comm, or_comm, xor_comm}
use Rattle.kat_value.specs.declared.op.Op.{Op}
use Rattle.kat_value.specs.declared.op.Op.TheVariants.{Add, Sub, Mul, Band, Bor, Bxor}
use Rattle.kat_value.specs.declared.types.Ty.{Ty}
use Rattle.kat_value.specs.declared.types.TypeDecl.{TypeDecl}
use Rattle.kat_value.specs.declared.value.Value.TheVariants.{Bits}
use Rattle.kat_value.specs.Numbers.{number_of_op}
use Rattle.kat_value.specs.Widths.{is_number}
use Rattle.kat_term.specs.declared.term.Term.{Term}
use Rattle.kat_term.specs.Equality.{term_eq}
use Rattle.kat_term.specs.Values.{Valuation, IsKept, value_of}
use Rattle.kat_term.specs.Views.{two, bits}
use Rattle.kat_rules.specs.Equations.{is_after}
use Rattle.kat_rules.specs.Keeps.{Keeps, KeepsValues, AllKeep}
use Rattle.kat_rules.specs.Sums.{sum_rules, on_sum, out_of_order, sub_of_same, sub_of_literal, add_out_of_order, mul_out_of_order, band_out_of_order, bor_out_of_order, bxor_out_of_order, add_of_zero, add_of_literals, add_of_second_sum, add_of_first_sum}
use Rattle.kat_rules.proofs.Arithmetic.{made, remainder_fits, numbers_inside}
use Rattle.kat_rules.proofs.Meaning.{bits_value, on_numbers, on_first_literal, on_second_literal, on_same_sides, literal_is, numbers_from, IsOnNumbers}
use Rattle.kat_rules.proofs.OrderLaws.{below, number_of_less}
use Rattle.kat_rules.proofs.Patterns.{some_is, only_is, if_is, in_bits, in_two, in_width}
use Rattle.kat_rules.proofs.TermLaws.{TermLaws}
use Rattle.kat_rules.proofs.ToldTypes.{width_is}

-- sums that wrap
sub_self : (w m : ℕ) → m < 2 ^ w → (m + (2 ^ w - m)) % 2 ^ w ≡ 0
sub_self w m less =
    let whole : m + (2 ^ w - m) ≡ 2 ^ w + 0 = omega arith in
    ap (λ k. k % 2 ^ w) whole ∙ add-mod_left (2 ^ w) 0 ∙ mod-eq_of_lt (pow_pos w)

opposite_and : (w m n : ℕ) → ((0 + (2 ^ w - n)) % 2 ^ w + m) % 2 ^ w ≡ (m + (2 ^ w - n)) % 2 ^ w
opposite_and w m n =
    let turned : (0 + (2 ^ w - n)) + m ≡ m + (2 ^ w - n) = omega arith in
    mod-add-mod (0 + (2 ^ w - n)) (2 ^ w) m ∙ ap (λ k. k % 2 ^ w) turned

sum_turned : (w m n : ℕ) → (m + n) % 2 ^ w ≡ (n + m) % 2 ^ w
sum_turned w m n = let turned : m + n ≡ n + m = omega arith in ap (λ k. k % 2 ^ w) turned

sum_regrouped : (w a b c : ℕ) → (a + (b + c) % 2 ^ w) % 2 ^ w ≡ ((a + b) % 2 ^ w + c) % 2 ^ w
sum_regrouped w a b c =
    let grouped : a + (b + c) ≡ (a + b) + c = omega arith in
    add-mod-mod a (b + c) (2 ^ w) ∙ ap (λ k. k % 2 ^ w) grouped ∙ sym (mod-add-mod (a + b) (2 ^ w) c)

sum_moved : (w a b c : ℕ) → (a + (b + c) % 2 ^ w) % 2 ^ w ≡ (b + (a + c) % 2 ^ w) % 2 ^ w
sum_moved w a b c =
    let moved : a + (b + c) ≡ b + (a + c) = omega arith in
    add-mod-mod a (b + c) (2 ^ w) ∙ ap (λ k. k % 2 ^ w) moved ∙ sym (add-mod-mod b (a + c) (2 ^ w))

module _ (laws : TermLaws) (types : List TypeDecl) (v : Valuation) where
  abbrev Kept : Term → Term → Type 0
  Kept l r = IsKept (value_of types v l) (value_of types v r)

  -- differences
  sub_literal-law : (w n : ℕ) (a : Term) → is_number w n ≡ true → Kept (two Sub a (bits w n)) (two Add (bits w (number_of_op Sub w 0 n)) a)
  sub_literal-law w n a fits =
      let k = number_of_op Sub w 0 n in
      let k_fits = remainder_fits w n (0 + (2 ^ w - n)) fits in
      on_second_literal types v Sub (made Sub) (λ y z. refl) w n a (two Add (bits w k) a) fits
      (λ m is m_fits. numbers_from types v Add (made Add) (λ y z. refl) (bits w k) a w k m (bits_value types v w k k_fits) is k_fits m_fits
      ∙ ap (λ i. Some (Bits w i)) (opposite_and w m n))

  pub sub_of_literal_keeps : (vars : List Ty) → KeepsValues types v (sub_of_literal vars)
  sub_of_literal_keeps vars t r e =
      in_two laws.operations Sub t _ r (λ u. Kept u r) e (λ a l g. in_bits l _ r (λ u. Kept (two Sub a u) r) g
      (λ w n fits h. some_is (Kept (two Sub a (bits w n))) _ r h (sub_literal-law w n a fits)))

  -- sides that are swapped
  swapped-law : (op : Op) → IsOnNumbers types v op (made op) → ((w m n : ℕ) → number_of_op op w m n ≡ number_of_op op w n m) → (a b : Term) → Kept (two op a b) (two op b a)
  swapped-law op is turned a b =
      on_numbers types v op (made op) is a b (two op b a)
      (λ w m n first second first_fits second_fits. numbers_from types v op (made op) is b a w n m second first second_fits first_fits
      ∙ ap (λ k. Some (Bits w k)) (turned w n m))

  swapped_keep : (op : Op) → IsOnNumbers types v op (made op) → ((w m n : ℕ) → number_of_op op w m n ≡ number_of_op op w n m) → (vars : List Ty) → KeepsValues types v (out_of_order op vars)
  swapped_keep op is turned vars t r e =
      in_two laws.operations op t _ r (λ u. Kept u r) e
      (λ a b h. only_is (Kept (two op a b)) (is_after a b) (two op b a) r h (λ after. swapped-law op is turned a b))

  pub add_out_of_order_keeps : (vars : List Ty) → KeepsValues types v (add_out_of_order vars)
  add_out_of_order_keeps = swapped_keep Add (λ y z. refl) (λ w m n. sum_turned w m n)

  pub mul_out_of_order_keeps : (vars : List Ty) → KeepsValues types v (mul_out_of_order vars)
  mul_out_of_order_keeps = swapped_keep Mul (λ y z. refl) (λ w m n. ap (λ k. k % 2 ^ w) (mul_comm m n))

  pub band_out_of_order_keeps : (vars : List Ty) → KeepsValues types v (band_out_of_order vars)
  band_out_of_order_keeps = swapped_keep Band (λ y z. refl) (λ w m n. and_comm m n)

  pub bor_out_of_order_keeps : (vars : List Ty) → KeepsValues types v (bor_out_of_order vars)
  bor_out_of_order_keeps = swapped_keep Bor (λ y z. refl) (λ w m n. or_comm m n)

  pub bxor_out_of_order_keeps : (vars : List Ty) → KeepsValues types v (bxor_out_of_order vars)
  bxor_out_of_order_keeps = swapped_keep Bxor (λ y z. refl) (λ w m n. xor_comm m n)

  -- sums
  add_zero-law : (w n : ℕ) (a : Term) → is_number w n ≡ true → n ≡ 0 → Kept (two Add (bits w n) a) a
  add_zero-law w n a fits zero =
      on_first_literal types v Add (made Add) (λ y z. refl) w n a a fits
      (λ m is m_fits. is ∙ ap (λ k. Some (Bits w k)) (sym (let plain : n + m ≡ m = omega (arith, zero) in ap (λ k. k % 2 ^ w) plain ∙ mod-eq_of_lt (below w m m_fits))))

  pub add_of_zero_keeps : (vars : List Ty) → KeepsValues types v (add_of_zero vars)
  add_of_zero_keeps vars t r e =
      in_two laws.operations Add t _ r (λ u. Kept u r) e (λ l a g. in_bits l _ r (λ u. Kept (two Add u a) r) g
      (λ w n fits h. only_is (Kept (two Add (bits w n) a)) (n == 0) a r h (λ zero. add_zero-law w n a fits (eqb-true n 0 zero))))

  in_sum : (t : Term) (go : ℕ → ℕ → Term → Option Term) (r : Term) (C : Term → Type 0) → on_sum t go ≡ Some r →
      ((w n : ℕ) (a : Term) → is_number w n ≡ true → go w n a ≡ Some r → C (two Add (bits w n) a)) → C t
  in_sum t go r C e c =
      in_two laws.operations Add t _ r C e (λ l a g. in_bits l _ r (λ u. C (two Add u a)) g (λ w n fits h. c w n a fits h))

  add_literals-law : (w m n : ℕ) (a : Term) → is_number w m ≡ true → is_number w n ≡ true →
      Kept (two Add (bits w m) (two Add (bits w n) a)) (two Add (bits w (number_of_op Add w m n)) a)
  add_literals-law w m n a m_fits n_fits =
      let k = number_of_op Add w m n in
      let k_fits = remainder_fits w m (m + n) m_fits in
      on_first_literal types v Add (made Add) (λ y z. refl) w m (two Add (bits w n) a) (two Add (bits w k) a) m_fits
      (λ s is s_fits.
      let i = numbers_inside types v Add (λ y z. refl) (bits w n) a w s is in
      let same : i.m ≡ n = (literal_is types v w n w i.m n_fits i.first).1 in
      let sum : (n + i.n) % 2 ^ w ≡ s = ap (λ j. (j + i.n) % 2 ^ w) (sym same) ∙ i.gives in
      numbers_from types v Add (made Add) (λ y z. refl) (bits w k) a w k i.n (bits_value types v w k k_fits) i.second k_fits i.second_fits
      ∙ ap (λ j. Some (Bits w j)) (sym (sum_regrouped w m n i.n) ∙ ap (λ j. (m + j) % 2 ^ w) sum))

  pub add_of_literals_keeps : (vars : List Ty) → KeepsValues types v (add_of_literals vars)
  add_of_literals_keeps vars t r e =
      in_sum t _ r (λ u. Kept u r) e (λ w m s m_fits g. in_sum s _ r (λ u. Kept (two Add (bits w m) u) r) g
      (λ u n a n_fits h. if_is (Kept (two Add (bits w m) (two Add (bits u n) a)) r) (u == w) _ r h
      (λ same i. let is : u ≡ w = eqb-true u w same in
      some_is (Kept (two Add (bits w m) (two Add (bits u n) a))) _ r i
      (subst (λ k. Kept (two Add (bits w m) (two Add (bits k n) a)) (two Add (bits w (number_of_op Add w m n)) a)) (sym is)
      (add_literals-law w m n a m_fits (ap (λ k. is_number k n) (sym is) ∙ n_fits))))))

  second_sum-law : (a l b : Term) → Kept (two Add a (two Add l b)) (two Add l (two Add a b))
  second_sum-law a l b =
      on_numbers types v Add (made Add) (λ y z. refl) a (two Add l b) (two Add l (two Add a b))
      (λ w m s first second first_fits second_fits.
      let i = numbers_inside types v Add (λ y z. refl) l b w s second in
      let inner = numbers_from types v Add (made Add) (λ y z. refl) a b w m i.n first i.second first_fits i.second_fits in
      numbers_from types v Add (made Add) (λ y z. refl) l (two Add a b) w i.m ((m + i.n) % 2 ^ w) i.first inner i.first_fits (remainder_fits w m (m + i.n) first_fits)
      ∙ ap (λ j. Some (Bits w j)) (sum_moved w i.m m i.n ∙ ap (λ j. (m + j) % 2 ^ w) i.gives))

  pub add_of_second_sum_keeps : (vars : List Ty) → KeepsValues types v (add_of_second_sum vars)
  add_of_second_sum_keeps vars t r e =
      in_two laws.operations Add t _ r (λ u. Kept u r) e (λ a s g. in_sum s _ r (λ u. Kept (two Add a u) r) g
      (λ w n b fits h. some_is (Kept (two Add a (two Add (bits w n) b))) _ r h (second_sum-law a (bits w n) b)))

  first_sum-law : (l a b : Term) → Kept (two Add (two Add l a) b) (two Add l (two Add a b))
  first_sum-law l a b =
      on_numbers types v Add (made Add) (λ y z. refl) (two Add l a) b (two Add l (two Add a b))
      (λ w s n first second first_fits second_fits.
      let i = numbers_inside types v Add (λ y z. refl) l a w s first in
      let inner = numbers_from types v Add (made Add) (λ y z. refl) a b w i.n n i.second second i.second_fits second_fits in
      numbers_from types v Add (made Add) (λ y z. refl) l (two Add a b) w i.m ((i.n + n) % 2 ^ w) i.first inner i.first_fits (remainder_fits w n (i.n + n) second_fits)
      ∙ ap (λ j. Some (Bits w j)) (sum_regrouped w i.m i.n n ∙ ap (λ j. (j + n) % 2 ^ w) i.gives))

  pub add_of_first_sum_keeps : (vars : List Ty) → KeepsValues types v (add_of_first_sum vars)
  add_of_first_sum_keeps vars t r e =
      in_two laws.operations Add t _ r (λ u. Kept u r) e (λ s b g. in_sum s _ r (λ u. Kept (two Add u b) r) g
      (λ w n a fits h. some_is (Kept (two Add (two Add (bits w n) a) b)) _ r h (first_sum-law (bits w n) a b)))

-- sub(a,a) is 0
pub sub_of_same_keeps : (laws : TermLaws) → Keeps sub_of_same
sub_of_same_keeps laws types vars v given t r e =
    in_two laws.operations Sub t _ r (λ u. IsKept (value_of types v u) (value_of types v r)) e
    (λ a b g. in_width vars a _ r (IsKept (value_of types v (two Sub a b)) (value_of types v r)) g
    (λ p told h. only_is (λ u. IsKept (value_of types v (two Sub a b)) (value_of types v u)) (term_eq a b) (bits p 0) r h
    (λ same. subst (λ c. IsKept (value_of types v (two Sub a c)) (value_of types v (bits p 0))) ((laws.terms a b).0 same)
    (on_same_sides types v Sub (made Sub) (λ y z. refl) a (bits p 0)
    (λ w m is fits.
    let width : w ≡ p = width_is laws.truths laws.numbers types vars v given a w m p is told in
    bits_value types v p 0 (ap (λ k. is_number k 0) (sym width) ∙ number_of_less w m 0 fits (pow_pos w))
    ∙ ap (λ k. Some (Bits k 0)) (sym width)
    ∙ ap (λ k. Some (Bits w k)) (sym (sub_self w m (below w m fits))))))))

-- all rules on sums
pub sums_keep : TermLaws → AllKeep sum_rules
sums_keep laws = (sub_of_same_keeps laws, (λ types vars v given. sub_of_literal_keeps laws types v vars, (λ types vars v given. add_out_of_order_keeps laws types v vars, (λ types vars v given. mul_out_of_order_keeps laws types v vars, (λ types vars v given. band_out_of_order_keeps laws types v vars, (λ types vars v given. bor_out_of_order_keeps laws types v vars, (λ types vars v given. bxor_out_of_order_keeps laws types v vars, (λ types vars v given. add_of_zero_keeps laws types v vars, (λ types vars v given. add_of_literals_keeps laws types v vars, (λ types vars v given. add_of_second_sum_keeps laws types v vars, (λ types vars v given. add_of_first_sum_keeps laws types v vars, tt)))))))))))
