-- The rules on comparisons of terms with zeros above them keep values.
use Rattle.std.proofs.Common.{◌≡◌, ◌∙◌, ℕ, ◌-◌, ◌^◌, ◌<◌, ◌≤◌, Bool, true, false, List, Option, Some, refl, ap, sym, subst, if◌then◌else◌, nat_le, arith}
use Rattle.std.specs.Prelude.{◌==◌}
use Rattle.std.proofs.lemmas.Bool.{lt-ltb, le-ltb, le-leb, lt-leb, leb-true, leb-false, eqb-true, and_parts}
use Rattle.kat_value.specs.declared.op.Op.{Op}
use Rattle.kat_value.specs.declared.op.Op.TheVariants.{Ult, Ule, Zext}
use Rattle.kat_value.specs.declared.types.Ty.{Ty}
use Rattle.kat_value.specs.declared.types.TypeDecl.{TypeDecl}
use Rattle.kat_value.specs.declared.value.Value.{Value}
use Rattle.kat_value.specs.declared.value.Value.TheVariants.{Bool as Truth, Bits}
use Rattle.kat_value.specs.Numbers.{truth_of_op}
use Rattle.kat_value.specs.Widths.{is_number}
use Rattle.kat_value.specs.Widths.{widest}
use Rattle.kat_term.specs.declared.term.Term.{Term}
use Rattle.kat_term.specs.Types.{IsValuation}
use Rattle.kat_term.specs.Values.{Valuation, IsKept, value_of}
use Rattle.kat_term.specs.Views.{one, two, truth, bits}
use Rattle.kat_rules.specs.Keeps.{Keeps, KeepsValues, AllKeep}
use Rattle.kat_rules.specs.Orders.{order_rules, comparison_of_zexts, ult_of_zexts, ule_of_zexts, on_bits_and_zext, ult_of_literal_and_zext, ult_of_zext_and_literal, ule_of_literal_and_zext, ule_of_zext_and_literal}
use Rattle.kat_rules.specs.Widths.{width_of}
use Rattle.kat_rules.proofs.Meaning.{truth_value, bits_value, on_numbers, on_first_literal, on_second_literal, numbers_from, zext_of, IsOnNumbers}
use Rattle.kat_rules.proofs.OrderLaws.{below, number_of_less, ult_of_same_keeps, slt_of_same_keeps, ule_of_same_keeps, sle_of_same_keeps, ult_of_zero_keeps, ult_of_ones_keeps, ule_of_zero_keeps, ule_of_ones_keeps, ult_of_one_keeps, ule_of_no_more_keeps, ult_of_none_keeps, ule_of_one_keeps}
use Rattle.kat_rules.proofs.Patterns.{some_is, only_is, in_bits, in_one, in_two, in_zext, in_width}
use Rattle.kat_rules.proofs.TermLaws.{TermLaws}
use Rattle.kat_rules.proofs.ToldTypes.{width_is}

module _ (laws : TermLaws) (types : List TypeDecl) (vars : List Ty) (v : Valuation) (given : IsValuation types vars v) where
  abbrev Kept : Term → Term → Type 0
  Kept l r = IsKept (value_of types v l) (value_of types v r)

  abbrev compared : Op → ℕ → ℕ → ℕ → Value
  compared op w m n = Truth (truth_of_op op w m n)

  -- what stands below the zeros has the number, in the width that its term tells
  pub record Below (w u n p : ℕ) (a : Term) : Type 0 where
    pub is : value_of types v a ≡ Some (Bits p n)
    pub fits : is_number p n ≡ true
    pub longer : p ≤ w
    pub wide : w ≤ widest
    pub same : w ≡ u

  number_told : (w n u m : ℕ) → Bits w n ≡ Bits u m → (w ≡ u) × (n ≡ m)
  number_told w n u m e = (cc, cc)

  pub below_zeros : (w u n p : ℕ) (a : Term) → value_of types v (one (Zext w) a) ≡ Some (Bits u n) → width_of vars a ≡ Some p → Below w u n p a
  below_zeros w u n p a has told =
      let z = zext_of types v w a (Bits u n) has in
      let same = number_told w z.n u n z.gives in
      let width : z.u ≡ p = width_is laws.truths laws.numbers types vars v given a z.u z.n p z.is told in
      let taken = and_parts (nat_le z.u w) (nat_le w widest) z.taken in
      record {
        is = z.is ∙ ap (λ k. Some (Bits k z.n)) width ∙ ap (λ k. Some (Bits p k)) same.1;
        fits = ap (λ k. is_number k n) (sym width) ∙ ap (is_number z.u) (sym same.1) ∙ z.fits;
        longer = subst (λ k. k ≤ w) width (leb-true z.u w taken.0);
        wide = leb-true w widest taken.1;
        same = same.0;
      }

  -- an operation that does not look at the width
  abbrev pub LooksAtNumbers : Op → Type 0
  LooksAtNumbers op = (u w m n : ℕ) → truth_of_op op u m n ≡ truth_of_op op w m n

  zexts-law : (op : Op) → IsOnNumbers types v op (compared op) → LooksAtNumbers op → (u k p q : ℕ) (a b : Term) → width_of vars a ≡ Some p → width_of vars b ≡ Some q → p ≡ q →
      Kept (two op (one (Zext u) a) (one (Zext k) b)) (two op a b)
  zexts-law op is looks u k p q a b first_width second_width same =
      on_numbers types v op (compared op) is (one (Zext u) a) (one (Zext k) b) (two op a b)
      (λ w m n first second first_fits second_fits.
      let s = below_zeros u w m p a first first_width in
      let t = below_zeros k w n q b second second_width in
      numbers_from types v op (compared op) is a b p m n s.is (t.is ∙ ap (λ i. Some (Bits i n)) (sym same)) s.fits (ap (λ i. is_number i n) same ∙ t.fits)
      ∙ ap (λ c. Some (Truth c)) (looks p w m n))

  zexts_keep : (op : Op) → IsOnNumbers types v op (compared op) → LooksAtNumbers op → KeepsValues types v (comparison_of_zexts op vars)
  zexts_keep op is looks t r e =
      in_two laws.operations op t _ r (λ z. Kept z r) e
      (λ y z g. in_zext y _ r (λ s. Kept (two op s z) r) g
      (λ u a h. in_zext z _ r (λ s. Kept (two op (one (Zext u) a) s) r) h
      (λ k b i. in_width vars a _ r (Kept (two op (one (Zext u) a) (one (Zext k) b)) r) i
      (λ p first j. in_width vars b _ r (Kept (two op (one (Zext u) a) (one (Zext k) b)) r) j
      (λ q second l. only_is (λ s. Kept (two op (one (Zext u) a) (one (Zext k) b)) s) (p == q) (two op a b) r l
      (λ same. zexts-law op is looks u k p q a b first second (eqb-true p q same)))))))

  -- a literal and a zext beside it
  pub in_bits_and_zext : (l z : Term) (go : ℕ → ℕ → Term → Option Term) (r : Term) (C : Term → Term → Type 0) → on_bits_and_zext vars l z go ≡ Some r →
      ((w p m : ℕ) (a : Term) → is_number w m ≡ true → width_of vars a ≡ Some p → go p m a ≡ Some r → C (bits w m) (one (Zext w) a)) → C l z
  in_bits_and_zext l z go r C e c =
      in_bits l _ r (λ k. C k z) e
      (λ w m fits g. in_one laws.operations (Zext w) z _ r (λ k. C (bits w m) k) g
      (λ a h. in_width vars a _ r (C (bits w m) (one (Zext w) a)) h
      (λ p is k. c w p m a fits is k)))

  literal_first-law : (op : Op) → IsOnNumbers types v op (compared op) → LooksAtNumbers op → (past answer : Bool) (w m p : ℕ) (a : Term) → is_number w m ≡ true → width_of vars a ≡ Some p →
      ((n : ℕ) → n < 2 ^ p → past ≡ true → answer ≡ truth_of_op op w m n) → (past ≡ false → m < 2 ^ p) →
      Kept (two op (bits w m) (one (Zext w) a)) (if past then truth answer else two op (bits p m) a)
  literal_first-law op is looks past answer w m p a fits told beyond within =
      on_first_literal types v op (compared op) is w m (one (Zext w) a) (if past then truth answer else two op (bits p m) a) fits
      (λ n has n_fits. by past refl n (below_zeros w w n p a has told)) where
        by : (b : Bool) → past ≡ b → (n : ℕ) → Below w w n p a → value_of types v (if b then truth answer else two op (bits p m) a) ≡ Some (Truth (truth_of_op op w m n))
        by true test n s = truth_value types v answer ∙ ap (λ c. Some (Truth c)) (beyond n (below p n s.fits) test)
        by false test n s =
            let number : is_number p m ≡ true = number_of_less p n m s.fits (within test) in
            numbers_from types v op (compared op) is (bits p m) a p m n (bits_value types v p m number) s.is number s.fits ∙ ap (λ c. Some (Truth c)) (looks p w m n)

  literal_second-law : (op : Op) → IsOnNumbers types v op (compared op) → LooksAtNumbers op → (past answer : Bool) (w m p : ℕ) (a : Term) → is_number w m ≡ true → width_of vars a ≡ Some p →
      ((n : ℕ) → n < 2 ^ p → past ≡ true → answer ≡ truth_of_op op w n m) → (past ≡ false → m < 2 ^ p) →
      Kept (two op (one (Zext w) a) (bits w m)) (if past then truth answer else two op a (bits p m))
  literal_second-law op is looks past answer w m p a fits told beyond within =
      on_second_literal types v op (compared op) is w m (one (Zext w) a) (if past then truth answer else two op a (bits p m)) fits
      (λ n has n_fits. by past refl n (below_zeros w w n p a has told)) where
        by : (b : Bool) → past ≡ b → (n : ℕ) → Below w w n p a → value_of types v (if b then truth answer else two op a (bits p m)) ≡ Some (Truth (truth_of_op op w n m))
        by true test n s = truth_value types v answer ∙ ap (λ c. Some (Truth c)) (beyond n (below p n s.fits) test)
        by false test n s =
            let number : is_number p m ≡ true = number_of_less p n m s.fits (within test) in
            numbers_from types v op (compared op) is a (bits p m) p n m s.is (bits_value types v p m number) s.fits number ∙ ap (λ c. Some (Truth c)) (looks p w n m)

module _ (laws : TermLaws) where
  pub ult_of_zexts_keeps : Keeps ult_of_zexts
  ult_of_zexts_keeps types vars v given = zexts_keep laws types vars v given Ult (λ y z. refl) (λ u w m n. refl)

  pub ule_of_zexts_keeps : Keeps ule_of_zexts
  ule_of_zexts_keeps types vars v given = zexts_keep laws types vars v given Ule (λ y z. refl) (λ u w m n. refl)

  pub ult_of_literal_and_zext_keeps : Keeps ult_of_literal_and_zext
  ult_of_literal_and_zext_keeps types vars v given t r e =
      in_two laws.operations Ult t _ r (λ z. IsKept (value_of types v z) (value_of types v r)) e
      (λ l z g. in_bits_and_zext laws types vars v given l z _ r (λ l z. IsKept (value_of types v (two Ult l z)) (value_of types v r)) g
      (λ w p m a fits told h. some_is (λ s. IsKept (value_of types v (two Ult (bits w m) (one (Zext w) a))) (value_of types v s)) _ r h
      (literal_first-law laws types vars v given Ult (λ y z. refl) (λ u w m n. refl) (nat_le (2 ^ p - 1) m) false w m p a fits told
      (λ n less test. sym (le-ltb m n (let past : 2 ^ p - 1 ≤ m = leb-true (2 ^ p - 1) m test in omega (arith, past, less))))
      (λ test. let within : m < 2 ^ p - 1 = leb-false (2 ^ p - 1) m test in omega (arith, within)))))

  pub ult_of_zext_and_literal_keeps : Keeps ult_of_zext_and_literal
  ult_of_zext_and_literal_keeps types vars v given t r e =
      in_two laws.operations Ult t _ r (λ z. IsKept (value_of types v z) (value_of types v r)) e
      (λ z l g. in_bits_and_zext laws types vars v given l z _ r (λ l z. IsKept (value_of types v (two Ult z l)) (value_of types v r)) g
      (λ w p m a fits told h. some_is (λ s. IsKept (value_of types v (two Ult (one (Zext w) a) (bits w m))) (value_of types v s)) _ r h
      (literal_second-law laws types vars v given Ult (λ y z. refl) (λ u w m n. refl) (nat_le (2 ^ p) m) true w m p a fits told
      (λ n less test. sym (lt-ltb n m (let past : 2 ^ p ≤ m = leb-true (2 ^ p) m test in omega (arith, past, less))))
      (λ test. leb-false (2 ^ p) m test))))

  pub ule_of_literal_and_zext_keeps : Keeps ule_of_literal_and_zext
  ule_of_literal_and_zext_keeps types vars v given t r e =
      in_two laws.operations Ule t _ r (λ z. IsKept (value_of types v z) (value_of types v r)) e
      (λ l z g. in_bits_and_zext laws types vars v given l z _ r (λ l z. IsKept (value_of types v (two Ule l z)) (value_of types v r)) g
      (λ w p m a fits told h. some_is (λ s. IsKept (value_of types v (two Ule (bits w m) (one (Zext w) a))) (value_of types v s)) _ r h
      (literal_first-law laws types vars v given Ule (λ y z. refl) (λ u w m n. refl) (nat_le (2 ^ p) m) false w m p a fits told
      (λ n less test. sym (lt-leb m n (let past : 2 ^ p ≤ m = leb-true (2 ^ p) m test in omega (arith, past, less))))
      (λ test. leb-false (2 ^ p) m test))))

  pub ule_of_zext_and_literal_keeps : Keeps ule_of_zext_and_literal
  ule_of_zext_and_literal_keeps types vars v given t r e =
      in_two laws.operations Ule t _ r (λ z. IsKept (value_of types v z) (value_of types v r)) e
      (λ z l g. in_bits_and_zext laws types vars v given l z _ r (λ l z. IsKept (value_of types v (two Ule z l)) (value_of types v r)) g
      (λ w p m a fits told h. some_is (λ s. IsKept (value_of types v (two Ule (one (Zext w) a) (bits w m))) (value_of types v s)) _ r h
      (literal_second-law laws types vars v given Ule (λ y z. refl) (λ u w m n. refl) (nat_le (2 ^ p - 1) m) true w m p a fits told
      (λ n less test. sym (le-leb n m (let past : 2 ^ p - 1 ≤ m = leb-true (2 ^ p - 1) m test in omega (arith, past, less))))
      (λ test. let within : m < 2 ^ p - 1 = leb-false (2 ^ p - 1) m test in omega (arith, within)))))

-- all rules on comparisons
pub orders_keep : TermLaws → AllKeep order_rules
orders_keep laws = (λ types vars v given. ult_of_same_keeps laws.operations laws.terms laws.values types v vars, (λ types vars v given. slt_of_same_keeps laws.operations laws.terms laws.values types v vars, (λ types vars v given. ule_of_same_keeps laws.operations laws.terms laws.values types v vars, (λ types vars v given. sle_of_same_keeps laws.operations laws.terms laws.values types v vars, (λ types vars v given. ult_of_zero_keeps laws.operations laws.terms laws.values types v vars, (λ types vars v given. ult_of_ones_keeps laws.operations laws.terms laws.values types v vars, (λ types vars v given. ule_of_zero_keeps laws.operations laws.terms laws.values types v vars, (λ types vars v given. ule_of_ones_keeps laws.operations laws.terms laws.values types v vars, (λ types vars v given. ult_of_one_keeps laws.operations laws.terms laws.values types v vars, (λ types vars v given. ule_of_no_more_keeps laws.operations laws.terms laws.values types v vars, (λ types vars v given. ult_of_none_keeps laws.operations laws.terms laws.values types v vars, (λ types vars v given. ule_of_one_keeps laws.operations laws.terms laws.values types v vars, (ult_of_zexts_keeps laws, (ule_of_zexts_keeps laws, (ult_of_literal_and_zext_keeps laws, (ult_of_zext_and_literal_keeps laws, (ule_of_literal_and_zext_keeps laws, (ule_of_zext_and_literal_keeps laws, tt))))))))))))))))))
