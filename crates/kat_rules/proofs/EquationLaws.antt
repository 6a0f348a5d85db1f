-- The rules on equations of truths and of numbers keep values.
use Rattle.std.proofs.Common.{◌≡◌, ◌∙◌, ℕ, ◌+◌, ◌-◌, ◌*◌, ◌/◌, ◌%◌, ◌^◌, ◌<◌, ◌≤◌, Bool, true, false, List, Some, refl, ap, sym, subst, if◌then◌else◌, nat_lt, arith}
use Rattle.std.specs.Prelude.{not, ◌==◌, ◌&&◌, bit_xor}
use Rattle.std.specs.Bool.{beq}
use Rattle.std.specs.Int.Bits.{xor_assoc, xor_self, xor_zero_l}
use Rattle.std.proofs.Math.Nat.{mod-eq_of_lt, mod-add-mod, add-mod-mod, add-mod_right}
use Rattle.std.proofs.lemmas.Bool.{and_parts, and_from, eqb-true, eq-eqb, ltb-true, ltb-false}
use Rattle.std.proofs.lemmas.Nat.{pow_pos, xor_comm, xor_lt, shr_below, div-add-mod', div-mul-add, mod-mul-add, same_from_place}
use Rattle.kat_value.specs.declared.op.Op.TheVariants.{Not, And, Eq, Add, Sub, Bxor, Bnot, Cat, Zext, Ite}
use Rattle.kat_value.specs.declared.types.Ty.{Ty}
use Rattle.kat_value.specs.declared.types.Ty.TheVariants as ty
use Rattle.kat_value.specs.declared.types.TypeDecl.{TypeDecl}
use Rattle.kat_value.specs.declared.value.Value.TheVariants.{Bool as Truth, Bits}
use Rattle.kat_value.specs.Equality.{value_eq}
use Rattle.kat_value.specs.Numbers.{number_of_op}
use Rattle.kat_value.specs.Widths.{is_number}
use Rattle.kat_term.specs.declared.term.Term.{Term}
use Rattle.kat_term.specs.Equality.{term_eq}
use Rattle.kat_value.specs.Shown.{type_of_value}
use Rattle.kat_term.specs.Types.{IsValuation}
use Rattle.kat_term.specs.Values.{Valuation, IsKept, value_of}
use Rattle.kat_term.specs.Views.{one, two, three, truth, bits}
use Rattle.kat_rules.specs.Equations.{is_after, choosing, eq_of_same, eq_out_of_order, eq_of_truth, eq_of_literal_and_add, eq_of_literal_and_bxor, eq_of_literal_and_bnot, eq_of_literal_and_zext, eq_of_literal_and_cat, eq_of_zexts, eq_of_cats, eq_of_literal_and_ite}
use Rattle.kat_rules.specs.Keeps.{KeepsValues}
use Rattle.kat_rules.specs.Widths.{width_of}
use Rattle.kat_rules.proofs.Arithmetic.{remainder_fits, numbers_inside, bits_told}
use Rattle.kat_rules.proofs.Equals.{truth_shown, one_type_is, one_type_turned, same_truth, same_tests, equal_turned, some_told, same_truths, cat_of, equals_from, on_equals, on_literal_equation}
use Rattle.kat_rules.proofs.LongerOrderLaws.{below_zeros, Below}
use Rattle.kat_rules.proofs.Meaning.{truth_value, bits_value, not_from, and_from_truths, literal_is, equal_numbers, same_numbers, number_of_one, number_from, zext_of, choice_in}
use Rattle.kat_rules.proofs.OrderLaws.{below, number_of_less, equal_test, unequal_test}
use Rattle.kat_rules.proofs.Patterns.{some_is, only_is, in_truth, in_bits, in_bits_of, in_one, in_two, in_three, in_zext, in_width}
use Rattle.kat_rules.proofs.TermLaws.{TermLaws}
use Rattle.kat_rules.proofs.ToldTypes.{width_is, shown-Truth, shown-Bits}

-- a sum is a number exactly where the other side is the difference
difference_of_sum : (w m n q : ℕ) → m < 2 ^ w → n < 2 ^ w → (m + (2 ^ w - n)) % 2 ^ w ≡ q → m ≡ (n + q) % 2 ^ w
difference_of_sum w m n q m_less n_less e =
    let whole : n + (m + (2 ^ w - n)) ≡ m + 2 ^ w = omega arith in
    sym (ap (λ k. (n + k) % 2 ^ w) (sym e) ∙ add-mod-mod n (m + (2 ^ w - n)) (2 ^ w) ∙ ap (λ k. k % 2 ^ w) whole ∙ add-mod_right m (2 ^ w) ∙ mod-eq_of_lt m_less)

sum_of_difference : (w m n q : ℕ) → q < 2 ^ w → n < 2 ^ w → m ≡ (n + q) % 2 ^ w → (m + (2 ^ w - n)) % 2 ^ w ≡ q
sum_of_difference w m n q q_less n_less e =
    let whole : (n + q) + (2 ^ w - n) ≡ q + 2 ^ w = omega arith in
    ap (λ k. (k + (2 ^ w - n)) % 2 ^ w) e ∙ mod-add-mod (n + q) (2 ^ w) (2 ^ w - n) ∙ ap (λ k. k % 2 ^ w) whole ∙ add-mod_right q (2 ^ w) ∙ mod-eq_of_lt q_less

xor_twice : (n q : ℕ) → bit_xor n (bit_xor n q) ≡ q
xor_twice n q = sym (xor_assoc n n q) ∙ ap (λ k. bit_xor k q) (xor_self n) ∙ xor_zero_l q

-- a number is two parts exactly where its parts are these
parts_test : (m p x y : ℕ) → y < 2 ^ p → ((m / 2 ^ p == x) && (m % 2 ^ p == y)) ≡ (m == x * 2 ^ p + y)
parts_test m p x y less =
    same_truth ((m / 2 ^ p == x) && (m % 2 ^ p == y)) (m == x * 2 ^ p + y)
    (λ e. let parts = and_parts (m / 2 ^ p == x) (m % 2 ^ p == y) e in
    eq-eqb m (x * 2 ^ p + y)
    (sym (div-add-mod' m (2 ^ p)) ∙ ap (λ k. k * 2 ^ p + m % 2 ^ p) (eqb-true (m / 2 ^ p) x parts.0) ∙ ap (λ k. x * 2 ^ p + k) (eqb-true (m % 2 ^ p) y parts.1)))
    (λ e. let is = eqb-true m (x * 2 ^ p + y) e in
    and_from (m / 2 ^ p == x) (m % 2 ^ p == y)
    (eq-eqb (m / 2 ^ p) x (ap (λ k. k / 2 ^ p) is ∙ div-mul-add x (2 ^ p) y less))
    (eq-eqb (m % 2 ^ p) y (ap (λ k. k % 2 ^ p) is ∙ mod-mul-add x (2 ^ p) y less)))

both_parts_test : (p a b c d : ℕ) → b < 2 ^ p → d < 2 ^ p → ((a == c) && (b == d)) ≡ (a * 2 ^ p + b == c * 2 ^ p + d)
both_parts_test p a b c d b_less d_less =
    same_truth ((a == c) && (b == d)) (a * 2 ^ p + b == c * 2 ^ p + d)
    (λ e. let parts = and_parts (a == c) (b == d) e in
    eq-eqb (a * 2 ^ p + b) (c * 2 ^ p + d) (ap (λ k. k * 2 ^ p + b) (eqb-true a c parts.0) ∙ ap (λ k. c * 2 ^ p + k) (eqb-true b d parts.1)))
    (λ e. let same = same_from_place a b c d (2 ^ p) b_less d_less (eqb-true (a * 2 ^ p + b) (c * 2 ^ p + d) e) in
    and_from (a == c) (b == d) (eq-eqb a c same.0) (eq-eqb b d same.1))

module _ (laws : TermLaws) (types : List TypeDecl) (v : Valuation) where
  abbrev Kept : Term → Term → Type 0
  Kept l r = IsKept (value_of types v l) (value_of types v r)

  -- eq(a,a) is true
  same-law : (a : Term) → Kept (two Eq a a) (truth true)
  same-law a =
      on_equals types v a a (truth true)
      (λ y z first second one. truth_value types v true ∙ ap (λ t. Some (Truth t)) (sym ((laws.values y z).1 (some_told y z (sym first ∙ second)))))

  pub eq_of_same_keeps : (vars : List Ty) → KeepsValues types v (eq_of_same vars)
  eq_of_same_keeps vars t r e =
      in_two laws.operations Eq t _ r (λ u. Kept u r) e (λ a b h. only_is (Kept (two Eq a b)) (term_eq a b) (truth true) r h
      (λ same. subst (λ c. Kept (two Eq a c) (truth true)) ((laws.terms a b).0 same) (same-law a)))

  -- sides that are swapped
  swapped-law : (a b : Term) → Kept (two Eq a b) (two Eq b a)
  swapped-law a b =
      on_equals types v a b (two Eq b a)
      (λ y z first second one. equals_from types v b a z y second first (one_type_turned y z one) ∙ ap (λ t. Some (Truth t)) (equal_turned laws.values y z))

  pub eq_out_of_order_keeps : (vars : List Ty) → KeepsValues types v (eq_out_of_order vars)
  eq_out_of_order_keeps vars t r e =
      in_two laws.operations Eq t _ r (λ u. Kept u r) e (λ a b h. only_is (Kept (two Eq a b)) (is_after a b) (two Eq b a) r h (λ after. swapped-law a b))

  -- truths
  truth-law : (p : Bool) (a : Term) → Kept (two Eq (truth p) a) (if p then a else one Not a)
  truth-law p a =
      on_equals types v (truth p) a (if p then a else one Not a)
      (λ y z first second one_shown.
      let literal : y ≡ Truth p = some_told y (Truth p) (sym first ∙ truth_value types v p) in
      let shown = truth_shown z (sym (one_type_is y z one_shown) ∙ ap type_of_value literal ∙ shown-Truth p) in
      by p shown.p (second ∙ ap Some shown.is)
      ∙ ap (λ t. Some (Truth t)) (sym (same_truths laws.values p shown.p) ∙ ap (λ u. value_eq u (Truth shown.p)) (sym literal) ∙ ap (value_eq y) (sym shown.is))) where
        by : (p q : Bool) → value_of types v a ≡ Some (Truth q) → value_of types v (if p then a else one Not a) ≡ Some (Truth (beq p q))
        by true true is = is
        by true false is = is
        by false true is = not_from types v a true is
        by false false is = not_from types v a false is

  pub eq_of_truth_keeps : (vars : List Ty) → KeepsValues types v (eq_of_truth vars)
  eq_of_truth_keeps vars t r e =
      in_two laws.operations Eq t _ r (λ u. Kept u r) e (λ l a g. in_truth l _ r (λ u. Kept (two Eq u a) r) g
      (λ p h. some_is (Kept (two Eq (truth p) a)) _ r h (truth-law p a)))

  -- a literal and a sum
  add-law : (w m n : ℕ) (a : Term) → is_number w m ≡ true → is_number w n ≡ true → Kept (two Eq (bits w m) (two Add (bits w n) a)) (two Eq (bits w (number_of_op Sub w m n)) a)
  add-law w m n a m_fits n_fits =
      let k = number_of_op Sub w m n in
      on_literal_equation types v laws.values w m (two Add (bits w n) a) (two Eq (bits w k) a) m_fits
      (λ s is.
      let i = numbers_inside types v Add (λ y z. refl) (bits w n) a w s is in
      let same : i.m ≡ n = (literal_is types v w n w i.m n_fits i.first).1 in
      let sum : (n + i.n) % 2 ^ w ≡ s = ap (λ j. (j + i.n) % 2 ^ w) (sym same) ∙ i.gives in
      equal_numbers types v laws.values (bits w k) a w k i.n (bits_value types v w k (remainder_fits w m (m + (2 ^ w - n)) m_fits)) i.second
      ∙ ap (λ t. Some (Truth t))
      (same_tests k i.n m s
      (λ e. difference_of_sum w m n i.n (below w m m_fits) (below w n n_fits) e ∙ sum)
      (λ e. sum_of_difference w m n i.n (below w i.n i.second_fits) (below w n n_fits) (e ∙ sym sum))))

  pub eq_of_literal_and_add_keeps : (vars : List Ty) → KeepsValues types v (eq_of_literal_and_add vars)
  eq_of_literal_and_add_keeps vars t r e =
      in_two laws.operations Eq t _ r (λ u. Kept u r) e (λ l s g. in_bits l _ r (λ u. Kept (two Eq u s) r) g
      (λ w m m_fits h. in_two laws.operations Add s _ r (λ u. Kept (two Eq (bits w m) u) r) h
      (λ k a i. in_bits_of w k _ r (λ u. Kept (two Eq (bits w m) (two Add u a)) r) i
      (λ n n_fits j. some_is (Kept (two Eq (bits w m) (two Add (bits w n) a))) _ r j (add-law w m n a m_fits n_fits)))))

  -- a literal and an exclusive or
  bxor-law : (w m n : ℕ) (a : Term) → is_number w m ≡ true → is_number w n ≡ true → Kept (two Eq (bits w m) (two Bxor (bits w n) a)) (two Eq (bits w (number_of_op Bxor w m n)) a)
  bxor-law w m n a m_fits n_fits =
      let k = bit_xor m n in
      on_literal_equation types v laws.values w m (two Bxor (bits w n) a) (two Eq (bits w k) a) m_fits
      (λ s is.
      let i = numbers_inside types v Bxor (λ y z. refl) (bits w n) a w s is in
      let same : i.m ≡ n = (literal_is types v w n w i.m n_fits i.first).1 in
      let sum : bit_xor n i.n ≡ s = ap (λ j. bit_xor j i.n) (sym same) ∙ i.gives in
      equal_numbers types v laws.values (bits w k) a w k i.n (bits_value types v w k (number_of_less w m k m_fits (xor_lt w m n (below w m m_fits) (below w n n_fits)))) i.second
      ∙ ap (λ t. Some (Truth t))
      (same_tests k i.n m s
      (λ e. sym (xor_twice n m) ∙ ap (bit_xor n) (xor_comm n m ∙ e) ∙ sum)
      (λ e. xor_comm m n ∙ ap (bit_xor n) (e ∙ sym sum) ∙ xor_twice n i.n)))

  pub eq_of_literal_and_bxor_keeps : (vars : List Ty) → KeepsValues types v (eq_of_literal_and_bxor vars)
  eq_of_literal_and_bxor_keeps vars t r e =
      in_two laws.operations Eq t _ r (λ u. Kept u r) e (λ l s g. in_bits l _ r (λ u. Kept (two Eq u s) r) g
      (λ w m m_fits h. in_two laws.operations Bxor s _ r (λ u. Kept (two Eq (bits w m) u) r) h
      (λ k a i. in_bits_of w k _ r (λ u. Kept (two Eq (bits w m) (two Bxor u a)) r) i
      (λ n n_fits j. some_is (Kept (two Eq (bits w m) (two Bxor (bits w n) a))) _ r j (bxor-law w m n a m_fits n_fits)))))

  -- a literal and a complement
  bnot-law : (w m : ℕ) (a : Term) → is_number w m ≡ true → Kept (two Eq (bits w m) (one Bnot a)) (two Eq (bits w (number_of_op Bnot w m 0)) a)
  bnot-law w m a m_fits =
      let k = 2 ^ w - 1 - m in
      on_literal_equation types v laws.values w m (one Bnot a) (two Eq (bits w k) a) m_fits
      (λ s is.
      let i = number_of_one types v Bnot (λ u. true) (λ u q. Bits u (2 ^ u - 1 - q)) (λ y. refl) a (Bits w s) is in
      let forward = number_from types v Bnot (λ u. true) (λ u q. Bits u (2 ^ u - 1 - q)) (λ y. refl) a i.w i.n i.is i.fits i.taken in
      let same = bits_told i.w (2 ^ i.w - 1 - i.n) w s (sym forward ∙ is) in
      by i.w i.n s same.0 i.is i.fits same.1) where
        by : (u q s : ℕ) → u ≡ w → value_of types v a ≡ Some (Bits u q) → is_number u q ≡ true → 2 ^ u - 1 - q ≡ s → value_of types v (two Eq (bits w (2 ^ w - 1 - m)) a) ≡ Some (Truth (m == s))
        by u q s width is fits gives =
            let k = 2 ^ w - 1 - m in
            let number : is_number w q ≡ true = ap (λ j. is_number j q) (sym width) ∙ fits in
            let other : 2 ^ w - 1 - q ≡ s = ap (λ j. 2 ^ j - 1 - q) (sym width) ∙ gives in
            let m_less = below w m m_fits in
            let q_less = below w q number in
            let small : k < 2 ^ w = omega (arith, pow_pos w) in
            equal_numbers types v laws.values (bits w k) a w k q (bits_value types v w k (number_of_less w m k m_fits small)) (is ∙ ap (λ j. Some (Bits j q)) width)
            ∙ ap (λ t. Some (Truth t)) (same_tests k q m s (λ e. omega (arith, e, other, m_less, q_less)) (λ e. omega (arith, e, other, m_less, q_less)))

  pub eq_of_literal_and_bnot_keeps : (vars : List Ty) → KeepsValues types v (eq_of_literal_and_bnot vars)
  eq_of_literal_and_bnot_keeps vars t r e =
      in_two laws.operations Eq t _ r (λ u. Kept u r) e (λ l s g. in_bits l _ r (λ u. Kept (two Eq u s) r) g
      (λ w m m_fits h. in_one laws.operations Bnot s _ r (λ u. Kept (two Eq (bits w m) u) r) h
      (λ a j. some_is (Kept (two Eq (bits w m) (one Bnot a))) _ r j (bnot-law w m a m_fits))))

  -- a literal and a choice of two
  ite-law : (w m p q : ℕ) (c : Term) → is_number w m ≡ true → is_number w p ≡ true → is_number w q ≡ true → not (p == q) ≡ true →
      Kept (two Eq (bits w m) (three Ite c (bits w p) (bits w q))) (choosing m p q c)
  ite-law w m p q c m_fits p_fits q_fits apart =
      on_literal_equation types v laws.values w m (three Ite c (bits w p) (bits w q)) (choosing m p q c) m_fits
      (λ n is.
      let i = choice_in types v c (bits w p) (bits w q) (Bits w n) is in
      by i.p n i.is (i.chosen_by i.p i.is) (p == m) refl (q == m) refl) where
        first_is : (n : ℕ) → value_of types v (bits w p) ≡ Some (Bits w n) → n ≡ p
        first_is n h = (literal_is types v w p w n p_fits h).1

        second_is : (n : ℕ) → value_of types v (bits w q) ≡ Some (Bits w n) → n ≡ q
        second_is n h = (literal_is types v w q w n q_fits h).1

        differ : p ≡ q → ⊥
        differ e = let test : not (p == q) ≡ false = ap not (equal_test p q e) in let clash : true ≡ false = sym apart ∙ test in cc

        unequal : (j : ℕ) → (j == m) ≡ false → j ≡ m → ⊥
        unequal j test e = let clash : true ≡ false = sym (equal_test j m e) ∙ test in cc

        by : (k : Bool) (n : ℕ) → value_of types v c ≡ Some (Truth k) → value_of types v (if k then bits w p else bits w q) ≡ Some (Bits w n) →
            (s : Bool) → (p == m) ≡ s → (t : Bool) → (q == m) ≡ t → value_of types v (if s then c else if t then one Not c else truth false) ≡ Some (Truth (m == n))
        by true n is h true s t u = is ∙ ap (λ j. Some (Truth j)) (sym (equal_test m n (sym (first_is n h ∙ eqb-true p m s))))
        by false n is h true s t u = is ∙ ap (λ j. Some (Truth j)) (sym (unequal_test m n (λ e. differ (eqb-true p m s ∙ e ∙ second_is n h))))
        by true n is h false s true u = not_from types v c true is ∙ ap (λ j. Some (Truth j)) (sym (unequal_test m n (λ e. unequal p s (sym (e ∙ first_is n h)))))
        by false n is h false s true u = not_from types v c false is ∙ ap (λ j. Some (Truth j)) (sym (equal_test m n (sym (second_is n h ∙ eqb-true q m u))))
        by true n is h false s false u = truth_value types v false ∙ ap (λ j. Some (Truth j)) (sym (unequal_test m n (λ e. unequal p s (sym (e ∙ first_is n h)))))
        by false n is h false s false u = truth_value types v false ∙ ap (λ j. Some (Truth j)) (sym (unequal_test m n (λ e. unequal q u (sym (e ∙ second_is n h)))))

  pub eq_of_literal_and_ite_keeps : (vars : List Ty) → KeepsValues types v (eq_of_literal_and_ite vars)
  eq_of_literal_and_ite_keeps vars t r e =
      in_two laws.operations Eq t _ r (λ u. Kept u r) e (λ l s g. in_bits l _ r (λ u. Kept (two Eq u s) r) g
      (λ w m m_fits h. in_three laws.operations Ite s _ r (λ u. Kept (two Eq (bits w m) u) r) h
      (λ c x y i. in_bits_of w x _ r (λ u. Kept (two Eq (bits w m) (three Ite c u y)) r) i
      (λ p p_fits j. in_bits_of w y _ r (λ u. Kept (two Eq (bits w m) (three Ite c (bits w p) u)) r) j
      (λ q q_fits k. only_is (Kept (two Eq (bits w m) (three Ite c (bits w p) (bits w q)))) (not (p == q)) (choosing m p q c) r k
      (λ apart. ite-law w m p q c m_fits p_fits q_fits apart))))))

module _ (laws : TermLaws) (types : List TypeDecl) (vars : List Ty) (v : Valuation) (given : IsValuation types vars v) where
  abbrev KeptHere : Term → Term → Type 0
  KeptHere l r = IsKept (value_of types v l) (value_of types v r)

  -- a literal and a term with zeros above it
  zext-law : (w m p : ℕ) (a : Term) → is_number w m ≡ true → width_of vars a ≡ Some p →
      KeptHere (two Eq (bits w m) (one (Zext w) a)) (if nat_lt m (2 ^ p) then two Eq (bits p m) a else truth false)
  zext-law w m p a fits told =
      on_literal_equation types v laws.values w m (one (Zext w) a) (if nat_lt m (2 ^ p) then two Eq (bits p m) a else truth false) fits
      (λ n has. by n (nat_lt m (2 ^ p)) refl (below_zeros laws types vars v given w w n p a has told)) where
        by : (n : ℕ) (t : Bool) → nat_lt m (2 ^ p) ≡ t → Below laws types vars v given w w n p a → value_of types v (if t then two Eq (bits p m) a else truth false) ≡ Some (Truth (m == n))
        by n true test s = equal_numbers types v laws.values (bits p m) a p m n (bits_value types v p m (number_of_less p n m s.fits (ltb-true m (2 ^ p) test))) s.is
        by n false test s =
            let past : 2 ^ p ≤ m = ltb-false m (2 ^ p) test in
            let less = below p n s.fits in
            truth_value types v false ∙ ap (λ j. Some (Truth j)) (sym (unequal_test m n (λ e. omega (arith, e, past, less))))

  pub eq_of_literal_and_zext_keeps : KeepsValues types v (eq_of_literal_and_zext vars)
  eq_of_literal_and_zext_keeps t r e =
      in_two laws.operations Eq t _ r (λ u. KeptHere u r) e (λ l z g. in_bits l _ r (λ u. KeptHere (two Eq u z) r) g
      (λ w m fits h. in_one laws.operations (Zext w) z _ r (λ u. KeptHere (two Eq (bits w m) u) r) h
      (λ a i. in_width vars a _ r (KeptHere (two Eq (bits w m) (one (Zext w) a)) r) i
      (λ p told j. some_is (KeptHere (two Eq (bits w m) (one (Zext w) a))) _ r j (zext-law w m p a fits told)))))

  -- two terms with zeros above them
  zexts-law : (u k p q : ℕ) (a b : Term) → width_of vars a ≡ Some p → width_of vars b ≡ Some q → p ≡ q → KeptHere (two Eq (one (Zext u) a) (one (Zext k) b)) (two Eq a b)
  zexts-law u k p q a b first_width second_width same =
      on_equals types v (one (Zext u) a) (one (Zext k) b) (two Eq a b)
      (λ y z first second one_shown.
      let s = zext_of types v u a y first in
      let t = zext_of types v k b z second in
      let shown = sym (shown-Bits u s.n) ∙ ap type_of_value s.gives ∙ one_type_is y z one_shown ∙ ap type_of_value (sym t.gives) ∙ shown-Bits k t.n in
      let wide : Bits k t.n ≡ Bits u t.n = widths_told u k t.n shown in
      let a_width = width_is laws.truths laws.numbers types vars v given a s.u s.n p s.is first_width in
      let b_width = width_is laws.truths laws.numbers types vars v given b t.u t.n q t.is second_width in
      equal_numbers types v laws.values a b p s.n t.n (s.is ∙ ap (λ j. Some (Bits j s.n)) a_width) (t.is ∙ ap (λ j. Some (Bits j t.n)) (b_width ∙ sym same))
      ∙ ap (λ j. Some (Truth j)) (sym (same_numbers types v laws.values u s.n t.n) ∙ ap (λ j. value_eq j (Bits u t.n)) s.gives ∙ ap (value_eq y) (sym wide ∙ t.gives))) where
        widths_told : (u k n : ℕ) → ty.Bits u ≡ ty.Bits k → Bits k n ≡ Bits u n
        widths_told u k n e = let is : u ≡ k = cc in ap (λ j. Bits j n) (sym is)

  pub eq_of_zexts_keeps : KeepsValues types v (eq_of_zexts vars)
  eq_of_zexts_keeps t r e =
      in_two laws.operations Eq t _ r (λ u. KeptHere u r) e
      (λ y z g. in_zext y _ r (λ s. KeptHere (two Eq s z) r) g
      (λ u a h. in_zext z _ r (λ s. KeptHere (two Eq (one (Zext u) a) s) r) h
      (λ k b i. in_width vars a _ r (KeptHere (two Eq (one (Zext u) a) (one (Zext k) b)) r) i
      (λ p first j. in_width vars b _ r (KeptHere (two Eq (one (Zext u) a) (one (Zext k) b)) r) j
      (λ q second l. only_is (KeptHere (two Eq (one (Zext u) a) (one (Zext k) b))) (p == q) (two Eq a b) r l
      (λ same. zexts-law u k p q a b first second (eqb-true p q same)))))))

  -- a literal and two parts
  parts_of_sum : (w s u p x y : ℕ) → Bits (u + p) (x * 2 ^ p + y) ≡ Bits w s → (u + p ≡ w) × (x * 2 ^ p + y ≡ s)
  parts_of_sum w s u p x y e = bits_told (u + p) (x * 2 ^ p + y) w s (ap Some e)

  cat-law : (w m p : ℕ) (a b : Term) → is_number w m ≡ true → width_of vars b ≡ Some p →
      KeptHere (two Eq (bits w m) (two Cat a b)) (two And (two Eq (bits (w - p) (m / 2 ^ p)) a) (two Eq (bits p (m % 2 ^ p)) b))
  cat-law w m p a b m_fits told =
      on_literal_equation types v laws.values w m (two Cat a b) (two And (two Eq (bits (w - p) (m / 2 ^ p)) a) (two Eq (bits p (m % 2 ^ p)) b)) m_fits
      (λ s is.
      let c = cat_of types v a b (Bits w s) is in
      let width = width_is laws.truths laws.numbers types vars v given b c.w c.n p c.second told in
      by s c.u c.m c.n c.first (c.second ∙ ap (λ j. Some (Bits j c.n)) width) c.first_fits (ap (λ j. is_number j c.n) (sym width) ∙ c.second_fits)
      (ap (λ j. Bits (c.u + j) (c.m * 2 ^ j + c.n)) (sym width) ∙ c.gives)) where
        by : (s u x y : ℕ) → value_of types v a ≡ Some (Bits u x) → value_of types v b ≡ Some (Bits p y) → is_number u x ≡ true → is_number p y ≡ true →
            Bits (u + p) (x * 2 ^ p + y) ≡ Bits w s →
            value_of types v (two And (two Eq (bits (w - p) (m / 2 ^ p)) a) (two Eq (bits p (m % 2 ^ p)) b)) ≡ Some (Truth (m == s))
        by s u x y first second x_fits y_fits gives =
            let whole = parts_of_sum w s u p x y gives in
            let high = m / 2 ^ p in
            let low = m % 2 ^ p in
            let rest : w - p ≡ u = omega (arith, whole.0) in
            let less : m < 2 ^ (u + p) = subst (λ j. m < 2 ^ j) (sym whole.0) (below w m m_fits) in
            let high_fits : is_number u high ≡ true = number_of_less u x high x_fits (shr_below m u p less) in
            let high_value = ap (λ j. value_of types v (bits j high)) rest ∙ bits_value types v u high high_fits in
            let low_value = bits_value types v p low (remainder_fits p y m y_fits) in
            and_from_truths types v (two Eq (bits (w - p) high) a) (two Eq (bits p low) b) (high == x) (low == y)
            (equal_numbers types v laws.values (bits (w - p) high) a u high x high_value first)
            (equal_numbers types v laws.values (bits p low) b p low y low_value second)
            ∙ ap (λ j. Some (Truth j)) (parts_test m p x y (below p y y_fits) ∙ ap (λ j. m == j) whole.1)

  pub eq_of_literal_and_cat_keeps : KeepsValues types v (eq_of_literal_and_cat vars)
  eq_of_literal_and_cat_keeps t r e =
      in_two laws.operations Eq t _ r (λ u. KeptHere u r) e (λ l c g. in_bits l _ r (λ u. KeptHere (two Eq u c) r) g
      (λ w m fits h. in_two laws.operations Cat c _ r (λ u. KeptHere (two Eq (bits w m) u) r) h
      (λ a b i. in_width vars b _ r (KeptHere (two Eq (bits w m) (two Cat a b)) r) i
      (λ p told j. only_is (KeptHere (two Eq (bits w m) (two Cat a b))) (nat_lt p w) _ r j (λ inside. cat-law w m p a b fits told)))))

  -- two of two parts
  cats-law : (p q : ℕ) (a b c d : Term) → width_of vars a ≡ Some p → width_of vars b ≡ Some q → width_of vars c ≡ Some p → width_of vars d ≡ Some q →
      KeptHere (two Eq (two Cat a b) (two Cat c d)) (two And (two Eq a c) (two Eq b d))
  cats-law p q a b c d a_told b_told c_told d_told =
      on_equals types v (two Cat a b) (two Cat c d) (two And (two Eq a c) (two Eq b d))
      (λ y z first second one_shown.
      let i = cat_of types v a b y first in
      let j = cat_of types v c d z second in
      let i_high = width_is laws.truths laws.numbers types vars v given a i.u i.m p i.first a_told in
      let i_low = width_is laws.truths laws.numbers types vars v given b i.w i.n q i.second b_told in
      let j_high = width_is laws.truths laws.numbers types vars v given c j.u j.m p j.first c_told in
      let j_low = width_is laws.truths laws.numbers types vars v given d j.w j.n q j.second d_told in
      let i_is : Bits (p + q) (i.m * 2 ^ q + i.n) ≡ y = ap (λ k. Bits (k + q) (i.m * 2 ^ q + i.n)) (sym i_high) ∙ ap (λ k. Bits (i.u + k) (i.m * 2 ^ k + i.n)) (sym i_low) ∙ i.gives in
      let j_is : Bits (p + q) (j.m * 2 ^ q + j.n) ≡ z = ap (λ k. Bits (k + q) (j.m * 2 ^ q + j.n)) (sym j_high) ∙ ap (λ k. Bits (j.u + k) (j.m * 2 ^ k + j.n)) (sym j_low) ∙ j.gives in
      let i_less = below q i.n (ap (λ k. is_number k i.n) (sym i_low) ∙ i.second_fits) in
      let j_less = below q j.n (ap (λ k. is_number k j.n) (sym j_low) ∙ j.second_fits) in
      and_from_truths types v (two Eq a c) (two Eq b d) (i.m == j.m) (i.n == j.n)
      (equal_numbers types v laws.values a c p i.m j.m (i.first ∙ ap (λ k. Some (Bits k i.m)) i_high) (j.first ∙ ap (λ k. Some (Bits k j.m)) j_high))
      (equal_numbers types v laws.values b d q i.n j.n (i.second ∙ ap (λ k. Some (Bits k i.n)) i_low) (j.second ∙ ap (λ k. Some (Bits k j.n)) j_low))
      ∙ ap (λ k. Some (Truth k))
      (both_parts_test q i.m i.n j.m j.n i_less j_less
      ∙ sym (same_numbers types v laws.values (p + q) (i.m * 2 ^ q + i.n) (j.m * 2 ^ q + j.n))
      ∙ ap (λ k. value_eq k (Bits (p + q) (j.m * 2 ^ q + j.n))) i_is ∙ ap (value_eq y) j_is))

  pub eq_of_cats_keeps : KeepsValues types v (eq_of_cats vars)
  eq_of_cats_keeps t r e =
      in_two laws.operations Eq t _ r (λ u. KeptHere u r) e
      (λ y z g. in_two laws.operations Cat y _ r (λ s. KeptHere (two Eq s z) r) g
      (λ a b h. in_two laws.operations Cat z _ r (λ s. KeptHere (two Eq (two Cat a b) s) r) h
      (λ c d i. in_width vars a _ r (KeptHere (two Eq (two Cat a b) (two Cat c d)) r) i
      (λ p a_told j. in_width vars b _ r (KeptHere (two Eq (two Cat a b) (two Cat c d)) r) j
      (λ q b_told k. in_width vars c _ r (KeptHere (two Eq (two Cat a b) (two Cat c d)) r) k
      (λ n c_told l. in_width vars d _ r (KeptHere (two Eq (two Cat a b) (two Cat c d)) r) l
      (λ s d_told m. only_is (KeptHere (two Eq (two Cat a b) (two Cat c d))) ((p == n) && (q == s)) (two And (two Eq a c) (two Eq b d)) r m
      (λ same. let tests = and_parts (p == n) (q == s) same in
      cats-law p q a b c d a_told b_told (c_told ∙ ap Some (sym (eqb-true p n tests.0))) (d_told ∙ ap Some (sym (eqb-true q s tests.1)))))))))))
