-- The rules on fields, truths and choices keep values.
use Rattle.std.proofs.Common.{◌≡◌, ◌∙◌, ℕ, Bool, true, false, List, Option, Some, refl, ap, sym, subst, if◌then◌else◌, nat_lt, nat_le, inl, inr, arith}
use Rattle.std.specs.Prelude.{not, ◌&&◌, ◌||◌, int_lt, int_le, ℤ}
use Rattle.std.proofs.lemmas.Int.{ints}
use Rattle.std.specs.Bool.{beq}
use Rattle.std.proofs.lemmas.Bool.{cases_lt, lt-ltb, le-ltb, le-leb, lt-leb}
use Rattle.kat_value.specs.declared.op.Op.{Op}
use Rattle.kat_value.specs.declared.op.Op.TheVariants.{Not, And, Or, Ult, Ule, Slt, Sle, Ite}
use Rattle.kat_value.specs.declared.types.Ty.{Ty}
use Rattle.kat_value.specs.declared.types.TypeDecl.{TypeDecl}
use Rattle.kat_value.specs.declared.value.Value.{Value, out-Value}
use Rattle.kat_value.specs.declared.value.Value.TheVariants.{Bool as Truth}
use Rattle.kat_value.specs.Numbers.{truth_of_op, signed}
use Rattle.kat_term.specs.declared.term.Term.{Term}
use Rattle.kat_term.specs.Equality.{term_eq, TestsOperations, TestsTerms}
use Rattle.kat_value.specs.Operations.{of_numbers, value_of_two}
use Rattle.kat_term.specs.Values.{Valuation, IsKept, value_of}
use Rattle.kat_term.specs.Views.{one, two, three, truth}
use Rattle.kat_rules.specs.Keeps.{KeepsValues}
use Rattle.kat_rules.specs.Truths.{not_of_not, not_of_and, not_of_or, not_of_comparison, not_of_ult, not_of_ule, not_of_slt, not_of_sle, on_first_truth, on_second_truth, and_of_first_false, and_of_second_false, and_of_first_true, and_of_second_true, or_of_first_true, or_of_second_true, or_of_first_false, or_of_second_false, and_of_same, or_of_same, ite_of_truth, ite_of_same}
use Rattle.kat_rules.proofs.Meaning.{truth_value, not_in, not_from, and_in, or_in, and_from_truths, or_from_truths, numbers_of_two, numbers_from, only_value, choice_in}
use Rattle.kat_rules.proofs.Patterns.{some_is, only_is, if_is, in_truth, in_one, in_two, in_three}

not_twice : (p : Bool) → not (not p) ≡ p
not_twice true = refl
not_twice false = refl

not_both : (p q : Bool) → not (p && q) ≡ not p || not q
not_both true q = refl
not_both false q = refl

not_either : (p q : Bool) → not (p || q) ≡ not p && not q
not_either true q = refl
not_either false q = refl

and_true : (p : Bool) → p && true ≡ p
and_true true = refl
and_true false = refl

and_false : (p : Bool) → p && false ≡ false
and_false true = refl
and_false false = refl

or_true : (p : Bool) → p || true ≡ true
or_true true = refl
or_true false = refl

or_false : (p : Bool) → p || false ≡ p
or_false true = refl
or_false false = refl

and_self : (p : Bool) → p && p ≡ p
and_self true = refl
and_self false = refl

or_self : (p : Bool) → p || p ≡ p
or_self true = refl
or_self false = refl

same_truth : (p q : Bool) → beq p q ≡ true → q ≡ p
same_truth true true e = refl
same_truth false false e = refl
same_truth true false e = cc
same_truth false true e = cc

pub not_less : (m n : ℕ) → not (nat_lt m n) ≡ nat_le n m
not_less m n = elim (cases_lt m n) [ inl l ↦ ap not (lt-ltb m n l) ∙ sym (lt-leb n m l) | inr l ↦ ap not (le-ltb m n l) ∙ sym (le-leb n m l) ]

pub not_at_most : (m n : ℕ) → not (nat_le m n) ≡ nat_lt n m
not_at_most m n = ap not (sym (not_less n m)) ∙ not_twice (nat_lt n m)

pub not_less_signed : (x y : ℤ) → not (int_lt x y) ≡ int_le y x
not_less_signed x y = by (int_lt x y) (int_le y x) refl refl where
  by : (p q : Bool) → int_lt x y ≡ p → int_le y x ≡ q → not p ≡ q
  by true true first second = absurd (omega (arith, ints))
  by true false first second = refl
  by false true first second = refl
  by false false first second = absurd (omega (arith, ints))

pub not_at_most_signed : (x y : ℤ) → not (int_le x y) ≡ int_lt y x
not_at_most_signed x y = ap not (sym (not_less_signed y x)) ∙ not_twice (int_lt y x)

module _ (ops : TestsOperations) (terms : TestsTerms) (types : List TypeDecl) (v : Valuation) where
  abbrev Kept : Term → Term → Type 0
  Kept l r = IsKept (value_of types v l) (value_of types v r)

  -- not(not a) is a
  not_of_not-law : (a : Term) → Kept (one Not (one Not a)) a
  not_of_not-law a x has =
      let o = not_in types v (one Not a) x has in
      let i = not_in types v a (Truth o.p) o.is in
      only_value types v (one Not (one Not a)) a x (Truth (not (not i.p))) (Truth i.p) has
      (not_from types v (one Not a) (not i.p) (not_from types v a i.p i.is)) (ap Truth (not_twice i.p)) i.is

  pub not_of_not_keeps : (vars : List Ty) → KeepsValues types v (not_of_not vars)
  not_of_not_keeps vars t r e =
      in_one ops Not t _ r (λ u. Kept u r) e (λ n g. in_one ops Not n _ r (λ u. Kept (one Not u) r) g
      (λ a h. some_is (Kept (one Not (one Not a))) a r h (not_of_not-law a)))

  -- not(and(a,b)) is or(not a, not b)
  not_of_and-law : (a b : Term) → Kept (one Not (two And a b)) (two Or (one Not a) (one Not b))
  not_of_and-law a b x has =
      let o = not_in types v (two And a b) x has in
      let i = and_in types v a b (Truth o.p) o.is in
      only_value types v (one Not (two And a b)) (two Or (one Not a) (one Not b)) x (Truth (not (i.p && i.q))) (Truth (not i.p || not i.q)) has
      (not_from types v (two And a b) (i.p && i.q) (and_from_truths types v a b i.p i.q i.first i.second)) (ap Truth (not_both i.p i.q))
      (or_from_truths types v (one Not a) (one Not b) (not i.p) (not i.q) (not_from types v a i.p i.first) (not_from types v b i.q i.second))

  pub not_of_and_keeps : (vars : List Ty) → KeepsValues types v (not_of_and vars)
  not_of_and_keeps vars t r e =
      in_one ops Not t _ r (λ u. Kept u r) e (λ n g. in_two ops And n _ r (λ u. Kept (one Not u) r) g
      (λ a b h. some_is (Kept (one Not (two And a b))) (two Or (one Not a) (one Not b)) r h (not_of_and-law a b)))

  -- not(or(a,b)) is and(not a, not b)
  not_of_or-law : (a b : Term) → Kept (one Not (two Or a b)) (two And (one Not a) (one Not b))
  not_of_or-law a b x has =
      let o = not_in types v (two Or a b) x has in
      let i = or_in types v a b (Truth o.p) o.is in
      only_value types v (one Not (two Or a b)) (two And (one Not a) (one Not b)) x (Truth (not (i.p || i.q))) (Truth (not i.p && not i.q)) has
      (not_from types v (two Or a b) (i.p || i.q) (or_from_truths types v a b i.p i.q i.first i.second)) (ap Truth (not_either i.p i.q))
      (and_from_truths types v (one Not a) (one Not b) (not i.p) (not i.q) (not_from types v a i.p i.first) (not_from types v b i.q i.second))

  pub not_of_or_keeps : (vars : List Ty) → KeepsValues types v (not_of_or vars)
  not_of_or_keeps vars t r e =
      in_one ops Not t _ r (λ u. Kept u r) e (λ n g. in_two ops Or n _ r (λ u. Kept (one Not u) r) g
      (λ a b h. some_is (Kept (one Not (two Or a b))) (two And (one Not a) (one Not b)) r h (not_of_or-law a b)))

  -- the negation of a comparison
  abbrev Compares : Op → (ℕ → ℕ → ℕ → Bool) → Type 0
  Compares op f = (y z : Value) → value_of_two op y z ≡ of_numbers (λ w m n. Truth (f w m n)) (out-Value y) (out-Value z)

  comparison-law : (op other : Op) (f g : ℕ → ℕ → ℕ → Bool) → Compares op f → Compares other g → ((w m n : ℕ) → not (f w m n) ≡ g w n m) →
      (a b : Term) → Kept (one Not (two op a b)) (two other b a)
  comparison-law op other f g is also opposite a b x has =
      let o = not_in types v (two op a b) x has in
      let i = numbers_of_two types v op (λ w m n. Truth (f w m n)) is a b (Truth o.p) o.is in
      only_value types v (one Not (two op a b)) (two other b a) x (Truth (not (f i.w i.m i.n))) (Truth (g i.w i.n i.m)) has
      (not_from types v (two op a b) (f i.w i.m i.n) (numbers_from types v op (λ w m n. Truth (f w m n)) is a b i.w i.m i.n i.first i.second i.first_fits i.second_fits))
      (ap Truth (opposite i.w i.m i.n))
      (numbers_from types v other (λ w m n. Truth (g w m n)) also b a i.w i.n i.m i.second i.first i.second_fits i.first_fits)

  comparison_keeps : (op other : Op) → ((a b : Term) → Kept (one Not (two op a b)) (two other b a)) → (vars : List Ty) → KeepsValues types v (not_of_comparison op other vars)
  comparison_keeps op other law vars t r e =
      in_one ops Not t _ r (λ u. Kept u r) e (λ n g. in_two ops op n _ r (λ u. Kept (one Not u) r) g
      (λ a b h. some_is (Kept (one Not (two op a b))) (two other b a) r h (law a b)))

  pub not_of_ult_keeps : (vars : List Ty) → KeepsValues types v (not_of_ult vars)
  not_of_ult_keeps = comparison_keeps Ult Ule (comparison-law Ult Ule (truth_of_op Ult) (truth_of_op Ule) (λ y z. refl) (λ y z. refl) (λ w m n. not_less m n))

  pub not_of_ule_keeps : (vars : List Ty) → KeepsValues types v (not_of_ule vars)
  not_of_ule_keeps = comparison_keeps Ule Ult (comparison-law Ule Ult (truth_of_op Ule) (truth_of_op Ult) (λ y z. refl) (λ y z. refl) (λ w m n. not_at_most m n))

  pub not_of_slt_keeps : (vars : List Ty) → KeepsValues types v (not_of_slt vars)
  not_of_slt_keeps =
      comparison_keeps Slt Sle (comparison-law Slt Sle (truth_of_op Slt) (truth_of_op Sle) (λ y z. refl) (λ y z. refl)
      (λ w m n. not_less_signed (signed w m) (signed w n)))

  pub not_of_sle_keeps : (vars : List Ty) → KeepsValues types v (not_of_sle vars)
  not_of_sle_keeps =
      comparison_keeps Sle Slt (comparison-law Sle Slt (truth_of_op Sle) (truth_of_op Slt) (λ y z. refl) (λ y z. refl)
      (λ w m n. not_at_most_signed (signed w m) (signed w n)))

  -- a side that is a literal
  in_first : (op : Op) (p : Bool) (t : Term) (go : Term → Option Term) (r : Term) → on_first_truth op p t go ≡ Some r → ((b : Term) → go b ≡ Some r → Kept (two op (truth p) b) r) → Kept t r
  in_first op p t go r e law =
      in_two ops op t _ r (λ u. Kept u r) e (λ a b g. in_truth a _ r (λ u. Kept (two op u b) r) g
      (λ q h. if_is (Kept (two op (truth q) b) r) (beq p q) (go b) r h (λ same k. subst (λ c. Kept (two op (truth c) b) r) (sym (same_truth p q same)) (law b k))))

  in_second : (op : Op) (p : Bool) (t : Term) (go : Term → Option Term) (r : Term) → on_second_truth op p t go ≡ Some r → ((a : Term) → go a ≡ Some r → Kept (two op a (truth p)) r) → Kept t r
  in_second op p t go r e law =
      in_two ops op t _ r (λ u. Kept u r) e (λ a b g. in_truth b _ r (λ u. Kept (two op a u) r) g
      (λ q h. if_is (Kept (two op a (truth q)) r) (beq p q) (go a) r h (λ same k. subst (λ c. Kept (two op a (truth c)) r) (sym (same_truth p q same)) (law a k))))

  -- the value of the other side
  and_first-law : (p : Bool) (b r : Term) → ((q : Bool) → value_of types v b ≡ Some (Truth q) → value_of types v r ≡ Some (Truth (p && q))) → Kept (two And (truth p) b) r
  and_first-law p b r gives x has =
      let i = and_in types v (truth p) b x has in
      only_value types v (two And (truth p) b) r x (Truth (p && i.q)) (Truth (p && i.q)) has (and_from_truths types v (truth p) b p i.q (truth_value types v p) i.second) refl (gives i.q i.second)

  and_second-law : (p : Bool) (a r : Term) → ((q : Bool) → value_of types v a ≡ Some (Truth q) → value_of types v r ≡ Some (Truth (q && p))) → Kept (two And a (truth p)) r
  and_second-law p a r gives x has =
      let i = and_in types v a (truth p) x has in
      only_value types v (two And a (truth p)) r x (Truth (i.p && p)) (Truth (i.p && p)) has (and_from_truths types v a (truth p) i.p p i.first (truth_value types v p)) refl (gives i.p i.first)

  or_first-law : (p : Bool) (b r : Term) → ((q : Bool) → value_of types v b ≡ Some (Truth q) → value_of types v r ≡ Some (Truth (p || q))) → Kept (two Or (truth p) b) r
  or_first-law p b r gives x has =
      let i = or_in types v (truth p) b x has in
      only_value types v (two Or (truth p) b) r x (Truth (p || i.q)) (Truth (p || i.q)) has (or_from_truths types v (truth p) b p i.q (truth_value types v p) i.second) refl (gives i.q i.second)

  or_second-law : (p : Bool) (a r : Term) → ((q : Bool) → value_of types v a ≡ Some (Truth q) → value_of types v r ≡ Some (Truth (q || p))) → Kept (two Or a (truth p)) r
  or_second-law p a r gives x has =
      let i = or_in types v a (truth p) x has in
      only_value types v (two Or a (truth p)) r x (Truth (i.p || p)) (Truth (i.p || p)) has (or_from_truths types v a (truth p) i.p p i.first (truth_value types v p)) refl (gives i.p i.first)

  pub and_of_first_false_keeps : (vars : List Ty) → KeepsValues types v (and_of_first_false vars)
  and_of_first_false_keeps vars t r e = in_first And false t _ r e (λ b h. some_is (Kept (two And (truth false) b)) (truth false) r h (and_first-law false b (truth false) (λ q is. truth_value types v false)))

  pub and_of_second_false_keeps : (vars : List Ty) → KeepsValues types v (and_of_second_false vars)
  and_of_second_false_keeps vars t r e =
      in_second And false t _ r e (λ a h. some_is (Kept (two And a (truth false))) (truth false) r h
      (and_second-law false a (truth false) (λ q is. truth_value types v false ∙ ap Some (ap Truth (sym (and_false q))))))

  pub and_of_first_true_keeps : (vars : List Ty) → KeepsValues types v (and_of_first_true vars)
  and_of_first_true_keeps vars t r e = in_first And true t _ r e (λ b h. some_is (Kept (two And (truth true) b)) b r h (and_first-law true b b (λ q is. is)))

  pub and_of_second_true_keeps : (vars : List Ty) → KeepsValues types v (and_of_second_true vars)
  and_of_second_true_keeps vars t r e =
      in_second And true t _ r e (λ a h. some_is (Kept (two And a (truth true))) a r h (and_second-law true a a (λ q is. is ∙ ap Some (ap Truth (sym (and_true q))))))

  pub or_of_first_true_keeps : (vars : List Ty) → KeepsValues types v (or_of_first_true vars)
  or_of_first_true_keeps vars t r e = in_first Or true t _ r e (λ b h. some_is (Kept (two Or (truth true) b)) (truth true) r h (or_first-law true b (truth true) (λ q is. truth_value types v true)))

  pub or_of_second_true_keeps : (vars : List Ty) → KeepsValues types v (or_of_second_true vars)
  or_of_second_true_keeps vars t r e =
      in_second Or true t _ r e (λ a h. some_is (Kept (two Or a (truth true))) (truth true) r h
      (or_second-law true a (truth true) (λ q is. truth_value types v true ∙ ap Some (ap Truth (sym (or_true q))))))

  pub or_of_first_false_keeps : (vars : List Ty) → KeepsValues types v (or_of_first_false vars)
  or_of_first_false_keeps vars t r e = in_first Or false t _ r e (λ b h. some_is (Kept (two Or (truth false) b)) b r h (or_first-law false b b (λ q is. is)))

  pub or_of_second_false_keeps : (vars : List Ty) → KeepsValues types v (or_of_second_false vars)
  or_of_second_false_keeps vars t r e =
      in_second Or false t _ r e (λ a h. some_is (Kept (two Or a (truth false))) a r h (or_second-law false a a (λ q is. is ∙ ap Some (ap Truth (sym (or_false q))))))

  -- equal sides
  same_term : (a b : Term) → term_eq a b ≡ true → b ≡ a
  same_term a b e = sym ((terms a b).0 e)

  same_value : (a : Term) (p q : Bool) → value_of types v a ≡ Some (Truth p) → value_of types v a ≡ Some (Truth q) → q ≡ p
  same_value a p q first second = let e : Some (Truth p) ≡ Some (Truth q) = sym first ∙ second in cc

  and_same-law : (a : Term) → Kept (two And a a) a
  and_same-law a x has =
      let i = and_in types v a a x has in
      only_value types v (two And a a) a x (Truth (i.p && i.p)) (Truth i.p) has (and_from_truths types v a a i.p i.p i.first i.first) (ap Truth (and_self i.p)) i.first

  or_same-law : (a : Term) → Kept (two Or a a) a
  or_same-law a x has =
      let i = or_in types v a a x has in
      only_value types v (two Or a a) a x (Truth (i.p || i.p)) (Truth i.p) has (or_from_truths types v a a i.p i.p i.first i.first) (ap Truth (or_self i.p)) i.first

  pub and_of_same_keeps : (vars : List Ty) → KeepsValues types v (and_of_same vars)
  and_of_same_keeps vars t r e =
      in_two ops And t _ r (λ u. Kept u r) e (λ a b h. only_is (λ u. Kept (two And a b) u) (term_eq a b) a r h
      (λ same. subst (λ c. Kept (two And a c) a) (sym (same_term a b same)) (and_same-law a)))

  pub or_of_same_keeps : (vars : List Ty) → KeepsValues types v (or_of_same vars)
  or_of_same_keeps vars t r e =
      in_two ops Or t _ r (λ u. Kept u r) e (λ a b h. only_is (λ u. Kept (two Or a b) u) (term_eq a b) a r h
      (λ same. subst (λ c. Kept (two Or a c) a) (sym (same_term a b same)) (or_same-law a)))

  -- choices
  ite_truth-law : (p : Bool) (a b : Term) → Kept (three Ite (truth p) a b) (if p then a else b)
  ite_truth-law p a b x has = by p (choice_in types v (truth p) a b x has).chosen_by (λ q. truth_value types v q) where
    by : (p : Bool) → ((q : Bool) → value_of types v (truth p) ≡ Some (Truth q) → value_of types v (if q then a else b) ≡ Some x) →
        ((q : Bool) → value_of types v (truth q) ≡ Some (Truth q)) → value_of types v (if p then a else b) ≡ Some x
    by p chosen value = chosen p (value p)

  pub ite_of_truth_keeps : (vars : List Ty) → KeepsValues types v (ite_of_truth vars)
  ite_of_truth_keeps vars t r e =
      in_three ops Ite t _ r (λ u. Kept u r) e (λ c a b g. in_truth c _ r (λ u. Kept (three Ite u a b) r) g
      (λ p h. some_is (Kept (three Ite (truth p) a b)) (if p then a else b) r h (ite_truth-law p a b)))

  ite_same-law : (c a : Term) → Kept (three Ite c a a) a
  ite_same-law c a x has = let i = choice_in types v c a a x has in by i.p (i.chosen_by i.p i.is) where
    by : (q : Bool) → value_of types v (if q then a else a) ≡ Some x → value_of types v a ≡ Some x
    by true h = h
    by false h = h

  pub ite_of_same_keeps : (vars : List Ty) → KeepsValues types v (ite_of_same vars)
  ite_of_same_keeps vars t r e =
      in_three ops Ite t _ r (λ u. Kept u r) e (λ c a b h. only_is (λ u. Kept (three Ite c a b) u) (term_eq a b) a r h
      (λ same. subst (λ d. Kept (three Ite c a d) a) (sym (same_term a b same)) (ite_same-law c a)))
