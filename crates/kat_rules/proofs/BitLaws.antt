-- The rules on products and on operations bit by bit keep values.
use Rattle.std.proofs.Common.{◌≡◌, ◌∙◌, ℕ, ◌-◌, ◌*◌, ◌%◌, ◌^◌, ◌<◌, true, List, Option, Some, refl, ap, sym, subst, bit_and, bit_or, bit_xor, arith}
use Rattle.std.specs.Prelude.{◌==◌}
use Rattle.std.specs.Int.Bits.{and_self, or_self, xor_self, and_zero_l, or_zero_l, xor_zero_l, or_add_and, xor_add_and}
use Rattle.std.proofs.Math.Nat.{zero-mul, one-mul, zero-mod, mod-eq_of_lt}
use Rattle.std.proofs.lemmas.Bool.{eqb-true}
use Rattle.std.proofs.lemmas.Nat.{pow_pos, and_comm, and_mask}
use Rattle.kat_value.specs.declared.op.Op.{Op}
use Rattle.kat_value.specs.declared.op.Op.TheVariants.{Mul, Band, Bor, Bxor, Bnot}
use Rattle.kat_value.specs.declared.types.TypeDecl.{TypeDecl}
use Rattle.kat_value.specs.declared.value.Value.{Value}
use Rattle.kat_value.specs.declared.value.Value.TheVariants.{Bits}
use Rattle.kat_value.specs.Numbers.{number_of_op}
use Rattle.kat_value.specs.Widths.{is_number}
use Rattle.kat_term.specs.declared.term.Term.{Term}
use Rattle.kat_term.specs.Equality.{term_eq}
use Rattle.kat_term.specs.Values.{Valuation, IsKept, value_of}
use Rattle.kat_term.specs.Views.{one, two, bits}
use Rattle.kat_rules.specs.BitOperations.{bit_rules, on_zero, on_ones, on_same, mul_of_zero, band_of_zero, mul_of_one, band_of_ones, band_of_same, bor_of_zero, bor_of_same, bxor_of_zero, bor_of_ones, bxor_of_ones, bxor_of_same, bnot_of_bnot}
use Rattle.kat_rules.specs.Keeps.{AllKeep, Keeps}
use Rattle.kat_rules.proofs.TermLaws.{TermLaws}
use Rattle.kat_rules.proofs.Meaning.{bits_value, on_first_literal, on_same_sides, IsOnNumbers, number_of_one, number_from, only_value}
use Rattle.kat_rules.proofs.OrderLaws.{below, number_of_less}
use Rattle.kat_rules.proofs.Patterns.{some_is, only_is, if_is, in_bits, in_one, in_two, in_width}
use Rattle.kat_rules.proofs.ToldTypes.{width_is}

-- operations with the number that has all bits
ones_and : (w n : ℕ) → n < 2 ^ w → bit_and (2 ^ w - 1) n ≡ n
ones_and w n less = and_comm (2 ^ w - 1) n ∙ and_mask n w ∙ mod-eq_of_lt less

ones_or : (w n : ℕ) → n < 2 ^ w → bit_or (2 ^ w - 1) n ≡ 2 ^ w - 1
ones_or w n less = omega (arith, or_add_and (2 ^ w - 1) n, ones_and w n less)

ones_xor : (w n : ℕ) → n < 2 ^ w → bit_xor (2 ^ w - 1) n ≡ 2 ^ w - 1 - n
ones_xor w n less = omega (arith, xor_add_and (2 ^ w - 1) n, ones_and w n less)

-- the complement of the complement
complement_twice : (w n : ℕ) → n < 2 ^ w → 2 ^ w - 1 - (2 ^ w - 1 - n) ≡ n
complement_twice w n less = omega arith

complement_below : (w n : ℕ) → 2 ^ w - 1 - n < 2 ^ w
complement_below w n = omega (arith, pow_pos w)

module _ (laws : TermLaws) (types : List TypeDecl) (v : Valuation) where
  abbrev Kept : Term → Term → Type 0
  Kept l r = IsKept (value_of types v l) (value_of types v r)

  -- the value of an operation on two numbers
  abbrev made : Op → ℕ → ℕ → ℕ → Value
  made op w m n = Bits w (number_of_op op w m n)

  -- a first side that is this number, by the width
  abbrev FirstIs : Op → (ℕ → ℕ) → (ℕ → Term → Term) → Type 0
  FirstIs op number go = (w : ℕ) (a : Term) → is_number w (number w) ≡ true → Kept (two op (bits w (number w)) a) (go w a)

  first_is : (op : Op) (number : ℕ → ℕ) (go : ℕ → Term → Term) → FirstIs op number go → (w n : ℕ) (a r : Term) → is_number w n ≡ true →
      (n == number w) ≡ true → Kept (two op (bits w n) a) (go w a)
  first_is op number go law w n a r fits test =
      let is : n ≡ number w = eqb-true n (number w) test in
      subst (λ k. Kept (two op (bits w k) a) (go w a)) (sym is) (law w a (subst (λ k. is_number w k ≡ true) is fits))

  in_zero : (op : Op) (t : Term) (go : ℕ → Term → Term) (r : Term) → on_zero op t go ≡ Some r → FirstIs op (λ w. 0) go → Kept t r
  in_zero op t go r e law =
      in_two laws.operations op t _ r (λ u. Kept u r) e (λ l a g. in_bits l _ r (λ u. Kept (two op u a) r) g
      (λ w n fits h. only_is (λ u. Kept (two op (bits w n) a) u) (n == 0) (go w a) r h (first_is op (λ w. 0) go law w n a r fits)))

  in_ones : (op : Op) (t : Term) (go : ℕ → Term → Term) (r : Term) → on_ones op t go ≡ Some r → FirstIs op (λ w. 2 ^ w - 1) go → Kept t r
  in_ones op t go r e law =
      in_two laws.operations op t _ r (λ u. Kept u r) e (λ l a g. in_bits l _ r (λ u. Kept (two op u a) r) g
      (λ w n fits h. only_is (λ u. Kept (two op (bits w n) a) u) (n == 2 ^ w - 1) (go w a) r h (first_is op (λ w. 2 ^ w - 1) go law w n a r fits)))

  in_same : (op : Op) (t : Term) (go : Term → Option Term) (r : Term) → on_same op t go ≡ Some r → ((a : Term) → go a ≡ Some r → Kept (two op a a) r) → Kept t r
  in_same op t go r e law =
      in_two laws.operations op t _ r (λ u. Kept u r) e (λ a b h. if_is (Kept (two op a b) r) (term_eq a b) (go a) r h
      (λ same g. subst (λ c. Kept (two op a c) r) ((laws.terms a b).0 same) (law a g)))

  -- the other side stays, or a literal does, where the operation gives its number
  first_gives_other : (op : Op) → IsOnNumbers types v op (made op) → (w m : ℕ) (a : Term) → is_number w m ≡ true →
      ((n : ℕ) → n < 2 ^ w → number_of_op op w m n ≡ n) → Kept (two op (bits w m) a) a
  first_gives_other op is_on w m a fits gives =
      on_first_literal types v op (made op) is_on w m a a fits (λ n is n_fits. is ∙ ap (λ k. Some (Bits w k)) (sym (gives n (below w n n_fits))))

  first_gives_literal : (op : Op) → IsOnNumbers types v op (made op) → (w m : ℕ) (a : Term) → is_number w m ≡ true →
      ((n : ℕ) → n < 2 ^ w → number_of_op op w m n ≡ m) → Kept (two op (bits w m) a) (bits w m)
  first_gives_literal op is_on w m a fits gives =
      on_first_literal types v op (made op) is_on w m a (bits w m) fits
      (λ n is n_fits. bits_value types v w m fits ∙ ap (λ k. Some (Bits w k)) (sym (gives n (below w n n_fits))))

  same_gives_side : (op : Op) → IsOnNumbers types v op (made op) → ((w n : ℕ) → number_of_op op w n n ≡ n) → (a : Term) → Kept (two op a a) a
  same_gives_side op is_on gives a = on_same_sides types v op (made op) is_on a a (λ w m is fits. is ∙ ap (λ k. Some (Bits w k)) (sym (gives w m)))

  -- twice the complement
  complements-law : (a : Term) → Kept (one Bnot (one Bnot a)) a
  complements-law a x has =
      let f = λ (w m : ℕ). Bits w (number_of_op Bnot w m 0) in
      let o = number_of_one types v Bnot (λ w. true) f (λ y. refl) (one Bnot a) x has in
      let i = number_of_one types v Bnot (λ w. true) f (λ y. refl) a (Bits o.w o.n) o.is in
      let first = number_from types v Bnot (λ w. true) f (λ y. refl) a i.w i.n i.is i.fits refl in
      let fits = number_of_less i.w i.n (2 ^ i.w - 1 - i.n) i.fits (complement_below i.w i.n) in
      only_value types v (one Bnot (one Bnot a)) a x (Bits i.w (2 ^ i.w - 1 - (2 ^ i.w - 1 - i.n))) (Bits i.w i.n) has
      (number_from types v Bnot (λ w. true) f (λ y. refl) (one Bnot a) i.w (2 ^ i.w - 1 - i.n) first fits refl)
      (ap (Bits i.w) (complement_twice i.w i.n (below i.w i.n i.fits))) i.is

  ones_xor-law : (w : ℕ) (a : Term) → is_number w (2 ^ w - 1) ≡ true → Kept (two Bxor (bits w (2 ^ w - 1)) a) (one Bnot a)
  ones_xor-law w a fits =
      on_first_literal types v Bxor (made Bxor) (λ y z. refl) w (2 ^ w - 1) a (one Bnot a) fits
      (λ n is n_fits. number_from types v Bnot (λ w. true) (λ w m. Bits w (number_of_op Bnot w m 0)) (λ y. refl) a w n is n_fits refl
      ∙ ap (λ k. Some (Bits w k)) (sym (ones_xor w n (below w n n_fits))))

module _ (laws : TermLaws) where
  pub mul_of_zero_keeps : Keeps mul_of_zero
  mul_of_zero_keeps types vars v fits t r e =
      in_zero laws types v Mul t _ r e (λ w a zero. first_gives_literal laws types v Mul (λ y z. refl) w 0 a zero (λ n less. ap (λ k. k % 2 ^ w) (zero-mul n) ∙ zero-mod (2 ^ w)))

  pub band_of_zero_keeps : Keeps band_of_zero
  band_of_zero_keeps types vars v fits t r e =
      in_zero laws types v Band t _ r e (λ w a zero. first_gives_literal laws types v Band (λ y z. refl) w 0 a zero (λ n less. and_zero_l n))

  pub mul_of_one_keeps : Keeps mul_of_one
  mul_of_one_keeps types vars v fits t r e =
      in_two laws.operations Mul t _ r (λ u. IsKept (value_of types v u) (value_of types v r)) e
      (λ l a g. in_bits l _ r (λ u. IsKept (value_of types v (two Mul u a)) (value_of types v r)) g
      (λ w n number h. only_is (λ u. IsKept (value_of types v (two Mul (bits w n) a)) (value_of types v u)) (n == 1) a r h
      (λ test. first_gives_other laws types v Mul (λ y z. refl) w n a number
      (λ m less. ap (λ k. (k * m) % 2 ^ w) (eqb-true n 1 test) ∙ ap (λ k. k % 2 ^ w) (one-mul m) ∙ mod-eq_of_lt less))))

  pub band_of_ones_keeps : Keeps band_of_ones
  band_of_ones_keeps types vars v fits t r e =
      in_ones laws types v Band t _ r e (λ w a ones. first_gives_other laws types v Band (λ y z. refl) w (2 ^ w - 1) a ones (ones_and w))

  pub band_of_same_keeps : Keeps band_of_same
  band_of_same_keeps types vars v fits t r e =
      in_same laws types v Band t _ r e (λ a g. some_is (λ u. IsKept (value_of types v (two Band a a)) (value_of types v u)) a r g
      (same_gives_side laws types v Band (λ y z. refl) (λ w n. and_self n) a))

  pub bor_of_zero_keeps : Keeps bor_of_zero
  bor_of_zero_keeps types vars v fits t r e =
      in_zero laws types v Bor t _ r e (λ w a zero. first_gives_other laws types v Bor (λ y z. refl) w 0 a zero (λ n less. or_zero_l n))

  pub bor_of_same_keeps : Keeps bor_of_same
  bor_of_same_keeps types vars v fits t r e =
      in_same laws types v Bor t _ r e (λ a g. some_is (λ u. IsKept (value_of types v (two Bor a a)) (value_of types v u)) a r g
      (same_gives_side laws types v Bor (λ y z. refl) (λ w n. or_self n) a))

  pub bxor_of_zero_keeps : Keeps bxor_of_zero
  bxor_of_zero_keeps types vars v fits t r e =
      in_zero laws types v Bxor t _ r e (λ w a zero. first_gives_other laws types v Bxor (λ y z. refl) w 0 a zero (λ n less. xor_zero_l n))

  pub bor_of_ones_keeps : Keeps bor_of_ones
  bor_of_ones_keeps types vars v fits t r e =
      in_ones laws types v Bor t _ r e (λ w a ones. first_gives_literal laws types v Bor (λ y z. refl) w (2 ^ w - 1) a ones (ones_or w))

  pub bxor_of_ones_keeps : Keeps bxor_of_ones
  bxor_of_ones_keeps types vars v fits t r e = in_ones laws types v Bxor t _ r e (ones_xor-law laws types v)

  pub bxor_of_same_keeps : Keeps bxor_of_same
  bxor_of_same_keeps types vars v fits t r e =
      in_same laws types v Bxor t _ r e (λ a g. in_width vars a _ r (IsKept (value_of types v (two Bxor a a)) (value_of types v r)) g
      (λ w told h. some_is (λ u. IsKept (value_of types v (two Bxor a a)) (value_of types v u)) (bits w 0) r h
      (on_same_sides types v Bxor (λ w m n. Bits w (number_of_op Bxor w m n)) (λ y z. refl) a (bits w 0)
      (λ u m is number. let same : u ≡ w = width_is laws.truths laws.numbers types vars v fits a u m w is told in
      subst (λ k. value_of types v (bits k 0) ≡ Some (Bits u (bit_xor m m))) same
      (bits_value types v u 0 (number_of_less u m 0 number (pow_pos u)) ∙ ap (λ k. Some (Bits u k)) (sym (xor_self m)))))))

  pub bnot_of_bnot_keeps : Keeps bnot_of_bnot
  bnot_of_bnot_keeps types vars v fits t r e =
      in_one laws.operations Bnot t _ r (λ u. IsKept (value_of types v u) (value_of types v r)) e
      (λ n g. in_one laws.operations Bnot n _ r (λ u. IsKept (value_of types v (one Bnot u)) (value_of types v r)) g
      (λ a h. some_is (λ u. IsKept (value_of types v (one Bnot (one Bnot a))) (value_of types v u)) a r h (complements-law laws types v a)))

-- all of them
pub bits_keep : TermLaws → AllKeep bit_rules
bits_keep laws = (mul_of_zero_keeps laws, (band_of_zero_keeps laws, (mul_of_one_keeps laws, (band_of_ones_keeps laws, (band_of_same_keeps laws, (bor_of_zero_keeps laws, (bor_of_same_keeps laws, (bxor_of_zero_keeps laws, (bor_of_ones_keeps laws, (bxor_of_ones_keeps laws, (bxor_of_same_keeps laws, (bnot_of_bnot_keeps laws, tt))))))))))))
