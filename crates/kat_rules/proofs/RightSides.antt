-- The right side of each rule is new in its outermost levels alone.
use Rattle.std.proofs.Common.{ap, refl, ◌≡◌, ◌∙◌, ℕ, zero, suc, Bool, true, false, List, [], ◌∷◌, map, Option, Some, None, sym, subst, if◌then◌else◌, nat_lt, nat_le}
use Rattle.std.specs.Prelude.{◌==◌, not, slice_get, option_and_then}
use Rattle.std.specs.Bool.{beq}
use Rattle.std.specs.List.{AllByRecursion}
use Rattle.std.specs.Option.{is_some, option_map}
use Rattle.kat_value.specs.declared.op.Op.{Op}
use Rattle.kat_value.specs.declared.op.Op.TheVariants.{Not, And, Or, Eq, Ult, Ule, Slt, Sle, Add, Sub, Mul, Band, Bor, Bxor, Bnot, Shl, Shr, Sar, Slice, Cat, Zext, Sext, Ite, Get}
use Rattle.kat_value.specs.declared.types.Ty.{Ty}
use Rattle.kat_value.specs.declared.value.Value.{Value}
use Rattle.kat_value.specs.declared.value.Value.TheVariants.{Bool as Truth, Bits}
use Rattle.kat_term.specs.declared.term.Term.{Term}
use Rattle.kat_term.specs.declared.term.Term.TheOpen.{Term-F, Apply as Application}
use Rattle.kat_term.specs.declared.term.Term.TheViews.{out-Term, outs-Apply, outs-Lit, outs-Make, outs-Rec}
use Rattle.kat_term.specs.declared.term.Term.TheVariants.{Apply, Lit}
use Rattle.kat_term.specs.Equality.{term_eq, TestsOperations}
use Rattle.kat_value.specs.Operations.{value_of_op}
use Rattle.kat_value.specs.Making.{all_there}
use Rattle.kat_term.specs.Views.{MadeTerm, RecTerm, one, two, three, truth, bits, rec_of, two_args_of}
use Rattle.kat_rules.specs.BitOperations.{bit_rules, on_zero, on_ones, on_same, mul_of_one, band_of_ones, bor_of_ones, bxor_of_ones, bxor_of_same}
use Rattle.kat_rules.specs.Equations.{equation_rules, is_after, equations_of, choosing, eq_of_same, eq_of_recs, eq_of_makes, eq_of_truth, eq_of_literal_and_add, eq_of_literal_and_bxor, eq_of_literal_and_bnot, eq_of_literal_and_zext, eq_of_literal_and_cat, eq_of_cats, eq_of_literal_and_ite}
use Rattle.kat_rules.specs.Joins.{join_rules, zext_to_own_width, sext_to_own_width, zext_of_zext, cat_of_zero, cat_of_slices}
use Rattle.kat_rules.specs.Orders.{order_rules, comparison_of_same, ult_of_zero, ult_of_ones, ule_of_zero, ule_of_ones, is_zero, ult_of_one, ule_of_no_more, ult_of_none, ule_of_one, comparison_of_zexts, on_bits_and_zext, ult_of_literal_and_zext, ult_of_zext_and_literal, ule_of_literal_and_zext, ule_of_zext_and_literal}
use Rattle.kat_rules.specs.Patterns.{only_if, Rule, on_one, on_two, on_three, on_bits, on_made, on_rec, on_slice, on_zext, on_sext, on_field}
use Rattle.kat_rules.specs.RightSides.{is_deep_op, is_deep, new_levels, parts_in, parts_of, HoldsBelow, IsHeritable, equates_record, IsShallow, AreShallow}
use Rattle.kat_rules.specs.Rules.{first_of, rules, rule_of}
use Rattle.kat_rules.specs.Shifts.{shift_rules, slice, shift_by_zero, shift_out, shl_of_literal, shr_of_literal, sar_of_literal, slice_of_all, slice_of_slice, slice_of_low_part, slice_of_high_part, slice_of_both_parts, slice_of_zeros, slice_within_zext, slice_past_zext, slice_within_sext}
use Rattle.kat_rules.specs.Sums.{sum_rules, sub_of_same, sub_of_literal, out_of_order, add_of_zero, add_of_literals, add_of_second_sum, add_of_first_sum}
use Rattle.kat_rules.specs.Truths.{truth_rules, plain_of, literal_of_literals, op_on_literals, get_of_rec, not_of_and, not_of_or, not_of_comparison, on_first_truth, on_second_truth, and_of_first_false, and_of_second_false, and_of_first_true, and_of_second_true, or_of_first_true, or_of_second_true, or_of_first_false, or_of_second_false, ite_of_truth, ite_of_same, ite_of_not, ite_of_truths}
use Rattle.kat_rules.specs.Widths.{is_bool, on_width}
use Rattle.kat_rules.proofs.Patterns.{some_is, only_is, if_is, either_is, in_truth, in_bits, in_bits_of, in_width, in_made, in_rec, in_one, in_two, in_three, in_slice, in_zext, in_sext, in_field}

module _ (ops : TestsOperations) (vars : List Ty) (p : Term → Bool) (goes : IsHeritable p)
    (t r : Term) where
  abbrev Below : ℕ → Term → Type 0
  Below n u = HoldsBelow p n u

  abbrev AllBelow : ℕ → List Term → Type 0
  AllBelow n us = AllByRecursion (HoldsBelow p n) us

  -- what is shown of the right side, by a rule at the term
  abbrev Right : Type 0
  Right = HoldsBelow p (new_levels t) r

  -- the right side of this rule at the term
  abbrev Is : Rule → Type 0
  Is rule = rule vars t ≡ Some r → equates_record t ≡ false → Below 1 t → Right

  -- what holds at a level holds one level deeper, and at each level where it holds at the top
  all_deeper : (n : ℕ) → ((u : Term) → Below n u → Below (suc n) u) → (us : List Term) →
      AllBelow n us → AllBelow (suc n) us
  all_deeper n go [] is = tt
  all_deeper n go (u ∷ us) is = (go u is.0, all_deeper n go us is.1)

  deeper : (n : ℕ) (u : Term) → Below n u → Below (suc n) u
  deeper zero u is = goes u is
  deeper (suc n) u is = all_deeper n (deeper n) (parts_of u) is

  rise : (n : ℕ) (u : Term) → Below 0 u → Below n u
  rise zero u is = is
  rise (suc n) u is = deeper n u (rise n u is)

  -- the right side, where two levels are new, and where three are and the operation is one of these
  shown : Below 2 r → Right
  shown is = by (is_deep (out-Term t)) where
    by : (b : Bool) → HoldsBelow p (if b then 3 else 2) r
    by true = deeper 2 r is
    by false = is

  shown_deep : is_deep (out-Term t) ≡ true → Below 3 r → Right
  shown_deep deep is = subst (λ b. HoldsBelow p (if b then 3 else 2) r) (sym deep) is

  gives : (u : Term) → Some u ≡ Some r → Below 2 u → Right
  gives u e is = shown (some_is (Below 2) u r e is)

  only : (b : Bool) (u : Term) → only_if b u ≡ Some r → (b ≡ true → Below 2 u) → Right
  only b u e is = shown (only_is (Below 2) b u r e is)

  only_deep : is_deep (out-Term t) ≡ true → (b : Bool) (u : Term) → only_if b u ≡ Some r →
      (b ≡ true → Below 3 u) → Right
  only_deep deep b u e is = shown_deep deep (only_is (Below 3) b u r e is)

  deep_two : (op : Op) (go : Term → Term → Option Term) → on_two op t go ≡ Some r →
      is_deep_op op ≡ true → is_deep (out-Term t) ≡ true
  deep_two op go e is =
      in_two ops op t go r (λ u. is_deep (out-Term u) ≡ true) e
      (λ a b h. ap is_deep (outs-Apply op (a ∷ b ∷ [])) ∙ is)

  deep_three : (op : Op) (go : Term → Term → Term → Option Term) → on_three op t go ≡ Some r →
      is_deep_op op ≡ true → is_deep (out-Term t) ≡ true
  deep_three op go e is =
      in_three ops op t go r (λ u. is_deep (out-Term u) ≡ true) e
      (λ a b c h. ap is_deep (outs-Apply op (a ∷ b ∷ c ∷ [])) ∙ is)

  -- by layers: what is made, and the parts of what is there
  applied : (n : ℕ) (op : Op) (us : List Term) → AllBelow n us → Below (suc n) (Apply op us)
  applied n op us is = subst (λ x. AllBelow n (parts_in x)) (sym (outs-Apply op us)) is

  one_at : (n : ℕ) (op : Op) (a : Term) → Below n a → Below (suc n) (one op a)
  one_at n op a x = applied n op (a ∷ []) (x, tt)

  two_at : (n : ℕ) (op : Op) (a b : Term) → Below n a → Below n b → Below (suc n) (two op a b)
  two_at n op a b x y = applied n op (a ∷ b ∷ []) (x, (y, tt))

  three_at : (n : ℕ) (op : Op) (a b c : Term) → Below n a → Below n b → Below n c → Below (suc n)
      (three op a b c)
  three_at n op a b c x y z = applied n op (a ∷ b ∷ c ∷ []) (x, (y, (z, tt)))

  literal_at : (n : ℕ) (x : Value) → Below (suc n) (Lit x)
  literal_at n x = subst (λ y. AllBelow n (parts_in y)) (sym (outs-Lit x)) tt

  truth_at : (n : ℕ) (b : Bool) → Below (suc n) (truth b)
  truth_at n b = literal_at n (Truth b)

  bits_at : (n w k : ℕ) → Below (suc n) (bits w k)
  bits_at n w k = literal_at n (Bits w k)

  if_at : (b : Bool) (u v : Term) → Below 2 u → Below 2 v → Below 2 (if b then u else v)
  if_at true u v x y = x
  if_at false u v x y = y

  args_are : (op : Op) (us : List Term) → Below 1 (Apply op us) → AllBelow 0 us
  args_are op us is = subst (λ x. AllBelow 0 (parts_in x)) (outs-Apply op us) is

  -- what a pattern finds
  from_one : (op : Op) (u : Term) (go : Term → Option Term) → on_one op u go ≡ Some r → Below 1 u →
      ((a : Term) → Below 0 a → go a ≡ Some r → Right) → Right
  from_one op u go e has k =
      in_one ops op u go r (λ w. Below 1 w → Right) e
      (λ a g is. k a (args_are op (a ∷ []) is).0 g) has

  from_two : (op : Op) (u : Term) (go : Term → Term → Option Term) → on_two op u go ≡ Some r →
      Below 1 u →
      ((a b : Term) → Below 0 a → Below 0 b → go a b ≡ Some r → Right) → Right
  from_two op u go e has k =
      in_two ops op u go r (λ w. Below 1 w → Right) e
      (λ a b g is. let each = args_are op (a ∷ b ∷ []) is in k a b each.0 each.1.0 g) has

  from_three : (op : Op) (u : Term) (go : Term → Term → Term → Option Term) → on_three op u go
      ≡ Some r → Below 1 u →
      ((a b c : Term) → Below 0 a → Below 0 b → Below 0 c → go a b c ≡ Some r → Right) →
      Right
  from_three op u go e has k =
      in_three ops op u go r (λ w. Below 1 w → Right) e
      (λ a b c g is. let each = args_are op (a ∷ b ∷ c ∷ []) is in
      k a b c each.0 each.1.0 each.1.1.0 g) has

  from_slice : (u : Term) (go : ℕ → ℕ → Term → Option Term) → on_slice u go ≡ Some r → Below 1 u →
      ((hi lo : ℕ) (a : Term) → Below 0 a → go hi lo a ≡ Some r → Right) → Right
  from_slice u go e has k =
      in_slice u go r (λ w. Below 1 w → Right) e
      (λ hi lo a g is. k hi lo a (args_are (Slice hi lo) (a ∷ []) is).0 g) has

  from_zext : (u : Term) (go : ℕ → Term → Option Term) → on_zext u go ≡ Some r → Below 1 u →
      ((w : ℕ) (a : Term) → Below 0 a → go w a ≡ Some r → Right) → Right
  from_zext u go e has k =
      in_zext u go r (λ w. Below 1 w → Right) e
      (λ w a g is. k w a (args_are (Zext w) (a ∷ []) is).0 g) has

  from_sext : (u : Term) (go : ℕ → Term → Option Term) → on_sext u go ≡ Some r → Below 1 u →
      ((w : ℕ) (a : Term) → Below 0 a → go w a ≡ Some r → Right) → Right
  from_sext u go e has k =
      in_sext u go r (λ w. Below 1 w → Right) e
      (λ w a g is. k w a (args_are (Sext w) (a ∷ []) is).0 g) has

  from_field : (u : Term) (go : ℕ → ℕ → Term → Option Term) → on_field u go ≡ Some r → Below 1 u →
      ((of field : ℕ) (a : Term) → Below 0 a → go of field a ≡ Some r → Right) → Right
  from_field u go e has k =
      in_field u go r (λ w. Below 1 w → Right) e (λ of field a g is. k of field a
      (args_are (Get of field) (a ∷ []) is).0 g) has

  from_made : (u : Term) (go : MadeTerm → Option Term) → on_made u go ≡ Some r → Below 1 u →
      ((m : MadeTerm) → Below 0 m.inner → go m ≡ Some r → Right) → Right
  from_made u go e has k =
      in_made u go r (λ w. Below 1 w → Right) e
      (λ m g is. k m (subst (λ x. AllBelow 0 (parts_in x))
      (outs-Make m.of m.ctor m.inner) is).0 g) has

  from_rec : (u : Term) (go : RecTerm → Option Term) → on_rec u go ≡ Some r → Below 1 u →
      ((m : RecTerm) → AllBelow 0 m.fields → go m ≡ Some r → Right) → Right
  from_rec u go e has k =
      in_rec u go r (λ w. Below 1 w → Right) e
      (λ m g is. k m (subst (λ x. AllBelow 0 (parts_in x)) (outs-Rec m.of m.fields) is) g) has

  from_bits : (u : Term) (go : ℕ → ℕ → Option Term) → on_bits u go ≡ Some r →
      ((w n : ℕ) → go w n ≡ Some r → Right) → Right
  from_bits u go e k = in_bits u go r (λ w. Right) e (λ w n fits g. k w n g)

  -- a literal on the one side of an operation on two
  from_first : (op : Op) (u : Term) (go : ℕ → ℕ → Term → Option Term) → on_two op u
      (λ l a. on_bits l (λ w n. go w n a)) ≡ Some r → Below 1 u →
      ((w n : ℕ) (a : Term) → Below 0 a → go w n a ≡ Some r → Right) → Right
  from_first op u go e has k =
      from_two op u (λ l a. on_bits l (λ w n. go w n a)) e has
      (λ l a x y g. from_bits l (λ w n. go w n a) g (λ w n h. k w n a y h))

  from_second : (op : Op) (u : Term) (go : ℕ → ℕ → Term → Option Term) → on_two op u
      (λ a l. on_bits l (λ w n. go w n a)) ≡ Some r → Below 1 u →
      ((w n : ℕ) (a : Term) → Below 0 a → go w n a ≡ Some r → Right) → Right
  from_second op u go e has k =
      from_two op u (λ a l. on_bits l (λ w n. go w n a)) e has
      (λ a l x y g. from_bits l (λ w n. go w n a) g (λ w n h. k w n a x h))

  -- truths
  literal_made : (x : Term-F Term) → literal_of_literals x ≡ Some r → Right
  literal_made (Application op args) e =
      by (option_and_then (value_of_op op) (all_there (map plain_of args))) e where
        by : (o : Option Value) → option_map Lit o ≡ Some r → Right
        by (Some x) h = gives (Lit x) h (literal_at 1 x)
        by None h = cc
  literal_made _ e = cc

  op_on_literals_shallow : Is op_on_literals
  op_on_literals_shallow e flat has = literal_made (out-Term t) e

  found_in : (us : List Term) (i : ℕ) → AllBelow 0 us → slice_get us i ≡ Some r → Below 0 r
  found_in [] i is e = cc
  found_in (u ∷ us) zero is e = some_is (Below 0) u r e is.0
  found_in (u ∷ us) (suc i) is e = found_in us i is.1 e

  get_of_rec_shallow : Is get_of_rec
  get_of_rec_shallow e flat has =
      from_field t _ e has (λ of field a x g. from_rec a _ g (goes a x)
      (λ m xs h. if_is (Right) (m.of == of) _ r h
      (λ same found. shown (rise 2 r (found_in m.fields field xs found)))))

  twice_shallow : (op : Op) → Is (λ us u. on_one op u (λ n. on_one op n (λ a. Some a)))
  twice_shallow op e flat has =
      from_one op t _ e has
      (λ n x g. from_one op n _ g (goes n x) (λ a y h. gives a h (rise 2 a y)))

  not_of_and_shallow : Is not_of_and
  not_of_and_shallow e flat has =
      from_one Not t _ e has (λ n x g. from_two And n _ g (goes n x)
      (λ a b y z h. gives _ h (two_at 1 Or (one Not a) (one Not b) (one_at 0 Not a (rise 0 a y))
      (one_at 0 Not b (rise 0 b z)))))

  not_of_or_shallow : Is not_of_or
  not_of_or_shallow e flat has =
      from_one Not t _ e has (λ n x g. from_two Or n _ g (goes n x)
      (λ a b y z h. gives _ h (two_at 1 And (one Not a) (one Not b) (one_at 0 Not a (rise 0 a y))
      (one_at 0 Not b (rise 0 b z)))))

  not_of_comparison_shallow : (op other : Op) → Is (not_of_comparison op other)
  not_of_comparison_shallow op other e flat has =
      from_one Not t _ e has (λ n x g. from_two op n _ g (goes n x)
      (λ a b y z h. gives _ h (two_at 1 other b a (rise 1 b z) (rise 1 a y))))

  from_first_truth : (op : Op) (q : Bool) (go : Term → Option Term) → on_first_truth op q t go
      ≡ Some r → Below 1 t → ((a : Term) → Below 0 a → go a ≡ Some r → Right) → Right
  from_first_truth op q go e has k =
      from_two op t _ e has (λ a b x y g. in_truth a _ r (λ w. Right) g
      (λ s h. if_is (Right) (beq q s) (go b) r h (λ same i. k b y i)))

  from_second_truth : (op : Op) (q : Bool) (go : Term → Option Term) → on_second_truth op q t go
      ≡ Some r → Below 1 t → ((a : Term) → Below 0 a → go a ≡ Some r → Right) → Right
  from_second_truth op q go e has k =
      from_two op t _ e has (λ a b x y g. in_truth b _ r (λ w. Right) g
      (λ s h. if_is (Right) (beq q s) (go a) r h (λ same i. k a x i)))

  and_of_first_false_shallow : Is and_of_first_false
  and_of_first_false_shallow e flat has =
      from_first_truth And false _ e has (λ b y g. gives _ g (truth_at 1 false))

  and_of_second_false_shallow : Is and_of_second_false
  and_of_second_false_shallow e flat has =
      from_second_truth And false _ e has (λ a x g. gives _ g (truth_at 1 false))

  and_of_first_true_shallow : Is and_of_first_true
  and_of_first_true_shallow e flat has =
      from_first_truth And true _ e has (λ b y g. gives b g (rise 2 b y))

  and_of_second_true_shallow : Is and_of_second_true
  and_of_second_true_shallow e flat has =
      from_second_truth And true _ e has (λ a x g. gives a g (rise 2 a x))

  or_of_first_true_shallow : Is or_of_first_true
  or_of_first_true_shallow e flat has =
      from_first_truth Or true _ e has (λ b y g. gives _ g (truth_at 1 true))

  or_of_second_true_shallow : Is or_of_second_true
  or_of_second_true_shallow e flat has =
      from_second_truth Or true _ e has (λ a x g. gives _ g (truth_at 1 true))

  or_of_first_false_shallow : Is or_of_first_false
  or_of_first_false_shallow e flat has =
      from_first_truth Or false _ e has (λ b y g. gives b g (rise 2 b y))

  or_of_second_false_shallow : Is or_of_second_false
  or_of_second_false_shallow e flat has =
      from_second_truth Or false _ e has (λ a x g. gives a g (rise 2 a x))

  equal_sides_shallow : (op : Op) → Is (λ us u. on_two op u (λ a b. only_if (term_eq a b) a))
  equal_sides_shallow op e flat has =
      from_two op t _ e has (λ a b x y g. only (term_eq a b) a g (λ is. rise 2 a x))

  ite_of_truth_shallow : Is ite_of_truth
  ite_of_truth_shallow e flat has =
      from_three Ite t _ e has (λ c a b x y z g. in_truth c _ r (λ w. Right) g
      (λ q h. gives _ h (if_at q a b (rise 2 a y) (rise 2 b z))))

  ite_of_same_shallow : Is ite_of_same
  ite_of_same_shallow e flat has =
      from_three Ite t _ e has (λ c a b x y z g. only (term_eq a b) a g (λ is. rise 2 a y))

  ite_of_not_shallow : Is ite_of_not
  ite_of_not_shallow e flat has =
      from_three Ite t _ e has (λ n a b x y z g. from_one Not n _ g (goes n x)
      (λ c w h. gives _ h (three_at 1 Ite c b a (rise 1 c w) (rise 1 b z) (rise 1 a y))))

  ite_of_truths_shallow : Is ite_of_truths
  ite_of_truths_shallow e flat has = let deep = deep_three Ite _ e refl in
      from_three Ite t _ e has (λ c a b x y z g. only_deep deep (is_bool vars a) _ g
      (λ is. two_at 2 Or (two And c a) (two And (one Not c) b) (two_at 1 And c a (rise 1 c x)
      (rise 1 a y)) (two_at 1 And (one Not c) b (one_at 0 Not c x) (rise 1 b z))))

  -- equations
  eq_of_same_shallow : Is eq_of_same
  eq_of_same_shallow e flat has =
      from_two Eq t _ e has (λ a b x y g. only (term_eq a b) _ g (λ is. truth_at 1 true))

  eq_of_recs_shallow : Is eq_of_recs
  eq_of_recs_shallow e flat has = by (two_args_of Eq t) e flat where
    by_first : (a b : Term) (o : Option RecTerm) →
        option_and_then (λ (l : RecTerm). on_rec b
        (λ (s : RecTerm). if l.of == s.of then equations_of l.fields s.fields else None)) o
        ≡ Some r →
        is_some o ≡ false → Right
    by_first a b None h differ = cc
    by_first a b (Some l) h differ = cc

    by : (o : Option (Term × Term)) → option_and_then (λ (sides : Term × Term). on_rec sides.0
        (λ (l : RecTerm). on_rec sides.1
        (λ (s : RecTerm). if l.of == s.of then equations_of l.fields s.fields else None))) o
        ≡ Some r → is_some (option_and_then (λ (sides : Term × Term). rec_of sides.0) o) ≡ false →
        Right
    by None h differ = cc
    by (Some sides) h differ = by_first sides.0 sides.1 (rec_of sides.0) h differ

  eq_of_makes_shallow : Is eq_of_makes
  eq_of_makes_shallow e flat has =
      from_two Eq t _ e has (λ a b x y g. from_made a _ g (goes a x)
      (λ k v h. from_made b _ h (goes b y) (λ l w i. only (k.of == l.of) _ i
      (λ same. if_at (k.ctor == l.ctor) (two Eq k.inner l.inner) (truth false)
      (two_at 1 Eq k.inner l.inner (rise 1 k.inner v) (rise 1 l.inner w)) (truth_at 1 false)))))

  eq_of_truth_shallow : Is eq_of_truth
  eq_of_truth_shallow e flat has =
      from_two Eq t _ e has (λ l a x y g. in_truth l _ r (λ w. Right) g
      (λ q h. gives _ h (if_at q a (one Not a) (rise 2 a y) (one_at 1 Not a (rise 1 a y)))))

  -- an equation of a literal
  with_literal : (op : Op) (w n : ℕ) (a : Term) → Below 0 a → Below 2 (two op (bits w n) a)
  with_literal op w n a x = two_at 1 op (bits w n) a (bits_at 0 w n) (rise 1 a x)

  before_literal : (op : Op) (w n : ℕ) (a : Term) → Below 0 a → Below 2 (two op a (bits w n))
  before_literal op w n a x = two_at 1 op a (bits w n) (rise 1 a x) (bits_at 0 w n)

  eq_of_literal_and_add_shallow : Is eq_of_literal_and_add
  eq_of_literal_and_add_shallow e flat has =
      from_first Eq t _ e has (λ w m s x g. from_two Add s _ g (goes s x)
      (λ k a y z h. in_bits_of w k _ r (λ u. Right) h
      (λ n fits i. gives _ i (with_literal Eq w _ a z))))

  eq_of_literal_and_bxor_shallow : Is eq_of_literal_and_bxor
  eq_of_literal_and_bxor_shallow e flat has =
      from_first Eq t _ e has (λ w m s x g. from_two Bxor s _ g (goes s x)
      (λ k a y z h. in_bits_of w k _ r (λ u. Right) h
      (λ n fits i. gives _ i (with_literal Eq w _ a z))))

  eq_of_literal_and_bnot_shallow : Is eq_of_literal_and_bnot
  eq_of_literal_and_bnot_shallow e flat has =
      from_first Eq t _ e has (λ w m s x g. from_one Bnot s _ g (goes s x)
      (λ a y h. gives _ h (with_literal Eq w _ a y)))

  eq_of_literal_and_zext_shallow : Is eq_of_literal_and_zext
  eq_of_literal_and_zext_shallow e flat has =
      from_first Eq t _ e has (λ w m z x g. from_one (Zext w) z _ g (goes z x)
      (λ a y h. in_width vars a _ r (Right) h
      (λ v is i. gives _ i (if_at _ (two Eq (bits v m) a) (truth false) (with_literal Eq v m a y)
      (truth_at 1 false)))))

  eq_of_literal_and_cat_shallow : Is eq_of_literal_and_cat
  eq_of_literal_and_cat_shallow e flat has = let deep = deep_two Eq _ e refl in
      from_first Eq t _ e has (λ w m c x g. from_two Cat c _ g (goes c x)
      (λ a b y z h. in_width vars b _ r (Right) h (λ v is i. only_deep deep (nat_lt v w) _ i
      (λ less. two_at 2 And _ _ (two_at 1 Eq _ a (bits_at 0 _ _) (rise 1 a y))
      (two_at 1 Eq _ b (bits_at 0 _ _) (rise 1 b z))))))

  comparison_of_zexts_shallow : (op : Op) → Is (comparison_of_zexts op)
  comparison_of_zexts_shallow op e flat has =
      from_two op t _ e has (λ y z hy hz g. from_zext y _ g (goes y hy)
      (λ u a ha h. from_zext z _ h (goes z hz) (λ v b hb i. in_width vars a _ r (Right) i
      (λ k is j. in_width vars b _ r (Right) j
      (λ l it f. only (k == l) _ f (λ same. two_at 1 op a b (rise 1 a ha) (rise 1 b hb)))))))

  eq_of_cats_shallow : Is eq_of_cats
  eq_of_cats_shallow e flat has =
      from_two Eq t _ e has (λ y z hy hz g. from_two Cat y _ g (goes y hy)
      (λ a b ha hb h. from_two Cat z _ h (goes z hz) (λ c d hc hd i. in_width vars a _ r (Right) i
      (λ k ik j. in_width vars b _ r (Right) j (λ l il f. in_width vars c _ r (Right) f
      (λ m im n. in_width vars d _ r (Right) n
      (λ o io q. only _ _ q (λ same. two_at 1 And (two Eq a c) (two Eq b d)
      (two_at 0 Eq a c (rise 0 a ha) (rise 0 c hc)) (two_at 0 Eq b d (rise 0 b hb)
      (rise 0 d hd))))))))))

  eq_of_literal_and_ite_shallow : Is eq_of_literal_and_ite
  eq_of_literal_and_ite_shallow e flat has =
      from_first Eq t _ e has (λ w m i x g. from_three Ite i _ g (goes i x)
      (λ c a b y z u h. in_bits_of w a _ r (λ v. Right) h (λ k fits j. in_bits_of w b _ r
      (λ v. Right) j (λ l fit f. only (not (k == l)) (choosing m k l c) f
      (λ differ. if_at (k == m) c _ (rise 2 c y) (if_at (l == m) (one Not c) (truth false)
      (one_at 1 Not c (rise 1 c y)) (truth_at 1 false)))))))

  -- comparisons
  comparison_of_same_shallow : (op : Op) (holds : Bool) → Is (comparison_of_same op holds)
  comparison_of_same_shallow op holds e flat has =
      from_two op t _ e has (λ a b x y g. only (term_eq a b) _ g (λ is. truth_at 1 holds))

  ult_of_zero_shallow : Is ult_of_zero
  ult_of_zero_shallow e flat has =
      from_second Ult t _ e has (λ w n a x g. only _ _ g (λ is. truth_at 1 false))

  ult_of_ones_shallow : Is ult_of_ones
  ult_of_ones_shallow e flat has =
      from_first Ult t _ e has (λ w n a x g. only _ _ g (λ is. truth_at 1 false))

  ule_of_zero_shallow : Is ule_of_zero
  ule_of_zero_shallow e flat has =
      from_first Ule t _ e has (λ w n a x g. only _ _ g (λ is. truth_at 1 true))

  ule_of_ones_shallow : Is ule_of_ones
  ule_of_ones_shallow e flat has =
      from_second Ule t _ e has (λ w n a x g. only _ _ g (λ is. truth_at 1 true))

  ult_of_one_shallow : Is ult_of_one
  ult_of_one_shallow e flat has =
      from_second Ult t _ e has (λ w n a x g. only _ _ g (λ is. with_literal Eq w 0 a x))

  ule_of_no_more_shallow : Is ule_of_no_more
  ule_of_no_more_shallow e flat has =
      from_second Ule t _ e has (λ w n a x g. only _ _ g (λ is. with_literal Eq w 0 a x))

  not_zero : (w : ℕ) (a : Term) → Below 0 a → Below 3 (one Not (is_zero w a))
  not_zero w a x =
      one_at 2 Not (is_zero w a) (two_at 1 Eq (bits w 0) a (bits_at 0 w 0) (rise 1 a x))

  ult_of_none_shallow : Is ult_of_none
  ult_of_none_shallow e flat has = let deep = deep_two Ult _ e refl in
      from_first Ult t _ e has (λ w n a x g. only_deep deep _ _ g (λ is. not_zero w a x))

  ule_of_one_shallow : Is ule_of_one
  ule_of_one_shallow e flat has = let deep = deep_two Ule _ e refl in
      from_first Ule t _ e has (λ w n a x g. only_deep deep _ _ g (λ is. not_zero w a x))

  from_bits_and_zext : (l z : Term) (go : ℕ → ℕ → Term → Option Term) →
      on_bits_and_zext vars l z go ≡ Some r → Below 0 z → ((v m : ℕ) (a : Term) → Below 0 a →
      go v m a ≡ Some r → Right) → Right
  from_bits_and_zext l z go e x k =
      from_bits l _ e (λ w m g. from_one (Zext w) z _ g (goes z x) (λ a y h. in_width vars a _ r
      (Right) h (λ v is i. k v m a y i)))

  ult_of_literal_and_zext_shallow : Is ult_of_literal_and_zext
  ult_of_literal_and_zext_shallow e flat has =
      from_two Ult t _ e has (λ l z x y g. from_bits_and_zext l z _ g y
      (λ v m a w h. gives _ h (if_at _ (truth false) (two Ult (bits v m) a) (truth_at 1 false)
      (with_literal Ult v m a w))))

  ult_of_zext_and_literal_shallow : Is ult_of_zext_and_literal
  ult_of_zext_and_literal_shallow e flat has =
      from_two Ult t _ e has (λ z l x y g. from_bits_and_zext l z _ g x
      (λ v m a w h. gives _ h (if_at _ (truth true) (two Ult a (bits v m)) (truth_at 1 true)
      (before_literal Ult v m a w))))

  ule_of_literal_and_zext_shallow : Is ule_of_literal_and_zext
  ule_of_literal_and_zext_shallow e flat has =
      from_two Ule t _ e has (λ l z x y g. from_bits_and_zext l z _ g y
      (λ v m a w h. gives _ h (if_at _ (truth false) (two Ule (bits v m) a) (truth_at 1 false)
      (with_literal Ule v m a w))))

  ule_of_zext_and_literal_shallow : Is ule_of_zext_and_literal
  ule_of_zext_and_literal_shallow e flat has =
      from_two Ule t _ e has (λ z l x y g. from_bits_and_zext l z _ g x
      (λ v m a w h. gives _ h (if_at _ (truth true) (two Ule a (bits v m)) (truth_at 1 true)
      (before_literal Ule v m a w))))

  -- sums and the order of sides
  sub_of_same_shallow : Is sub_of_same
  sub_of_same_shallow e flat has =
      from_two Sub t _ e has (λ a b x y g. in_width vars a _ r (Right) g
      (λ w is h. only (term_eq a b) _ h (λ same. bits_at 1 w 0)))

  sub_of_literal_shallow : Is sub_of_literal
  sub_of_literal_shallow e flat has =
      from_second Sub t _ e has (λ w n a x g. gives _ g (with_literal Add w _ a x))

  out_of_order_shallow : (op : Op) → Is (out_of_order op)
  out_of_order_shallow op e flat has =
      from_two op t _ e has (λ a b x y g. only (is_after a b) _ g
      (λ is. two_at 1 op b a (rise 1 b y) (rise 1 a x)))

  add_of_zero_shallow : Is add_of_zero
  add_of_zero_shallow e flat has =
      from_first Add t _ e has (λ w n a x g. only _ a g (λ is. rise 2 a x))

  add_of_literals_shallow : Is add_of_literals
  add_of_literals_shallow e flat has =
      from_first Add t _ e has (λ w m s x g. from_first Add s _ g (goes s x)
      (λ v n a y h. if_is (Right) (v == w) _ r h (λ same i. gives _ i (with_literal Add w _ a y))))

  sum_below : (w n : ℕ) (a b : Term) → Below 0 a → Below 0 b → Below 2
      (two Add (bits w n) (two Add a b))
  sum_below w n a b x y =
      two_at 1 Add (bits w n) (two Add a b) (bits_at 0 w n) (two_at 0 Add a b (rise 0 a x)
      (rise 0 b y))

  add_of_second_sum_shallow : Is add_of_second_sum
  add_of_second_sum_shallow e flat has =
      from_two Add t _ e has (λ a s x y g. from_first Add s _ g (goes s y)
      (λ w n b z h. gives _ h (sum_below w n a b x z)))

  add_of_first_sum_shallow : Is add_of_first_sum
  add_of_first_sum_shallow e flat has =
      from_two Add t _ e has (λ s b x y g. from_first Add s _ g (goes s x)
      (λ w n a z h. gives _ h (sum_below w n a b z y)))

  -- products and operations bit by bit
  from_zero : (op : Op) (go : ℕ → Term → Term) → on_zero op t go ≡ Some r → Below 1 t →
      ((w : ℕ) (a : Term) → Below 0 a → Below 2 (go w a)) → Right
  from_zero op go e has k =
      from_first op t _ e has (λ w n a x g. only (n == 0) (go w a) g (λ is. k w a x))

  from_ones : (op : Op) (go : ℕ → Term → Term) → on_ones op t go ≡ Some r → Below 1 t →
      ((w : ℕ) (a : Term) → Below 0 a → Below 2 (go w a)) → Right
  from_ones op go e has k = from_first op t _ e has (λ w n a x g. only _ (go w a) g (λ is. k w a x))

  from_same : (op : Op) (go : Term → Option Term) → on_same op t go ≡ Some r → Below 1 t →
      ((a : Term) → Below 0 a → go a ≡ Some r → Right) → Right
  from_same op go e has k =
      from_two op t _ e has (λ a b x y g. if_is (Right) (term_eq a b) (go a) r g
      (λ same h. k a x h))

  zero_shallow : (op : Op) → Is (λ us u. on_zero op u (λ w a. bits w 0))
  zero_shallow op e flat has = from_zero op _ e has (λ w a x. bits_at 1 w 0)

  side_of_zero_shallow : (op : Op) → Is (λ us u. on_zero op u (λ w a. a))
  side_of_zero_shallow op e flat has = from_zero op _ e has (λ w a x. rise 2 a x)

  side_of_same_shallow : (op : Op) → Is (λ us u. on_same op u (λ a. Some a))
  side_of_same_shallow op e flat has = from_same op _ e has (λ a x h. gives a h (rise 2 a x))

  mul_of_one_shallow : Is mul_of_one
  mul_of_one_shallow e flat has =
      from_first Mul t _ e has (λ w n a x g. only _ a g (λ is. rise 2 a x))

  band_of_ones_shallow : Is band_of_ones
  band_of_ones_shallow e flat has = from_ones Band _ e has (λ w a x. rise 2 a x)

  bor_of_ones_shallow : Is bor_of_ones
  bor_of_ones_shallow e flat has = from_ones Bor _ e has (λ w a x. bits_at 1 w _)

  bxor_of_ones_shallow : Is bxor_of_ones
  bxor_of_ones_shallow e flat has = from_ones Bxor _ e has (λ w a x. one_at 1 Bnot a (rise 1 a x))

  bxor_of_same_shallow : Is bxor_of_same
  bxor_of_same_shallow e flat has =
      from_same Bxor _ e has (λ a x h. in_width vars a _ r (Right) h
      (λ w is i. gives _ i (bits_at 1 w 0)))

  -- shifts and slices
  shift_by_zero_shallow : (op : Op) → Is (shift_by_zero op)
  shift_by_zero_shallow op e flat has =
      from_second op t _ e has (λ w n a x g. only (n == 0) a g (λ is. rise 2 a x))

  shift_out_shallow : (op : Op) → Is (shift_out op)
  shift_out_shallow op e flat has =
      from_second op t _ e has (λ w n a x g. only (nat_le w n) _ g (λ is. bits_at 1 w 0))

  part_at : (n hi lo : ℕ) (a : Term) → Below 0 a → Below (suc n) (slice hi lo a)
  part_at n hi lo a x = one_at n (Slice hi lo) a (rise n a x)

  shl_of_literal_shallow : Is shl_of_literal
  shl_of_literal_shallow e flat has =
      from_second Shl t _ e has (λ w n a x g. only _ _ g
      (λ is. two_at 1 Cat _ _ (part_at 0 _ _ a x) (bits_at 0 n 0)))

  shr_of_literal_shallow : Is shr_of_literal
  shr_of_literal_shallow e flat has =
      from_second Shr t _ e has (λ w n a x g. only _ _ g
      (λ is. one_at 1 (Zext w) _ (part_at 0 _ _ a x)))

  sar_of_literal_shallow : Is sar_of_literal
  sar_of_literal_shallow e flat has =
      from_second Sar t _ e has (λ w n a x g. only _ _ g
      (λ is. one_at 1 (Sext w) _ (part_at 0 _ _ a x)))

  slice_of_all_shallow : Is slice_of_all
  slice_of_all_shallow e flat has =
      from_slice t _ e has (λ hi lo a x g. in_width vars a _ r (Right) g
      (λ w is h. only _ a h (λ all. rise 2 a x)))

  slice_of_slice_shallow : Is slice_of_slice
  slice_of_slice_shallow e flat has =
      from_slice t _ e has (λ hi lo s x g. from_slice s _ g (goes s x)
      (λ top bottom a y h. only _ _ h (λ is. part_at 1 _ _ a y)))

  -- a slice of a join, and of what is longer
  from_join : (u : Term) (go : ℕ → Term → Term → Option Term) → on_two Cat u
      (λ a b. on_width vars b (λ v. go v a b)) ≡ Some r → Below 0 u →
      ((v : ℕ) (a b : Term) → Below 0 a → Below 0 b → go v a b ≡ Some r → Right) → Right
  from_join u go e x k =
      from_two Cat u (λ a b. on_width vars b (λ v. go v a b)) e (goes u x)
      (λ a b y z g. in_width vars b (λ v. go v a b) r (Right) g (λ v is h. k v a b y z h))

  slice_of_low_part_shallow : Is slice_of_low_part
  slice_of_low_part_shallow e flat has =
      from_slice t _ e has (λ hi lo c x g. from_join c _ g x
      (λ v a b y z h. only _ _ h (λ is. part_at 1 hi lo b z)))

  slice_of_high_part_shallow : Is slice_of_high_part
  slice_of_high_part_shallow e flat has =
      from_slice t _ e has (λ hi lo c x g. from_join c _ g x
      (λ v a b y z h. only _ _ h (λ is. part_at 1 _ _ a y)))

  slice_of_both_parts_shallow : Is slice_of_both_parts
  slice_of_both_parts_shallow e flat has =
      from_slice t _ e has (λ hi lo c x g. from_join c _ g x
      (λ v a b y z h. only _ _ h (λ is. two_at 1 Cat _ _ (part_at 0 _ _ a y) (part_at 0 _ _ b z))))

  from_longer : (u : Term) (go : ℕ → Term → Option Term) → on_zext u
      (λ w a. on_width vars a (λ v. go v a)) ≡ Some r → Below 0 u →
      ((v : ℕ) (a : Term) → Below 0 a → go v a ≡ Some r → Right) → Right
  from_longer u go e x k =
      from_zext u (λ w a. on_width vars a (λ v. go v a)) e (goes u x)
      (λ w a y g. in_width vars a (λ v. go v a) r (Right) g (λ v is h. k v a y h))

  slice_of_zeros_shallow : Is slice_of_zeros
  slice_of_zeros_shallow e flat has =
      from_slice t _ e has (λ hi lo z x g. from_longer z _ g x
      (λ v a y h. only _ _ h (λ is. bits_at 1 _ 0)))

  slice_within_zext_shallow : Is slice_within_zext
  slice_within_zext_shallow e flat has =
      from_slice t _ e has (λ hi lo z x g. from_longer z _ g x
      (λ v a y h. only _ _ h (λ is. part_at 1 hi lo a y)))

  slice_past_zext_shallow : Is slice_past_zext
  slice_past_zext_shallow e flat has =
      from_slice t _ e has (λ hi lo z x g. from_longer z _ g x
      (λ v a y h. only _ _ h (λ is. one_at 1 (Zext _) _ (part_at 0 _ _ a y))))

  slice_within_sext_shallow : Is slice_within_sext
  slice_within_sext_shallow e flat has =
      from_slice t _ e has (λ hi lo z x g. from_sext z _ g (goes z x)
      (λ w a y h. in_width vars a _ r (Right) h
      (λ v is i. only _ _ i (λ less. part_at 1 hi lo a y))))

  -- extensions and joins
  zext_to_own_width_shallow : Is zext_to_own_width
  zext_to_own_width_shallow e flat has =
      from_zext t _ e has (λ w a x g. in_width vars a _ r (Right) g
      (λ v is h. only _ a h (λ same. rise 2 a x)))

  sext_to_own_width_shallow : Is sext_to_own_width
  sext_to_own_width_shallow e flat has =
      from_sext t _ e has (λ w a x g. in_width vars a _ r (Right) g
      (λ v is h. only _ a h (λ same. rise 2 a x)))

  zext_of_zext_shallow : Is zext_of_zext
  zext_of_zext_shallow e flat has =
      from_zext t _ e has (λ w z x g. from_zext z _ g (goes z x)
      (λ u a y h. gives _ h (one_at 1 (Zext w) a (rise 1 a y))))

  cat_of_zero_shallow : Is cat_of_zero
  cat_of_zero_shallow e flat has =
      from_first Cat t _ e has (λ w n a x g. in_width vars a _ r (Right) g
      (λ v is h. only _ _ h (λ zero. one_at 1 _ a (rise 1 a x))))

  cat_of_slices_shallow : Is cat_of_slices
  cat_of_slices_shallow e flat has =
      from_two Cat t _ e has (λ y z hy hz g. from_slice y _ g (goes y hy)
      (λ hi middle a x h. from_slice z _ h (goes z hz)
      (λ top lo b w i. only _ _ i (λ is. part_at 1 hi lo a x))))

-- the rule that is there among these
first_shallow : (rules : List Rule) → AreShallow rules → IsShallow (first_of rules)
first_shallow [] each vars p goes t r e flat has = cc
first_shallow (rule ∷ more) each vars p goes t r e flat has =
    either_is (HoldsBelow p (new_levels t) r) (rule vars t) (first_of more vars t) r e
    (λ h. each.0 vars p goes t r h flat has)
    (λ h. first_shallow more each.1 vars p goes t r h flat has)

-- a rule with those behind it
also : {A B : Type 0} → A → B → A × B
also first others = (first, others)

-- the groups, rule by rule
module _ (ops : TestsOperations) where
  truths_shallow : AreShallow truth_rules
  truths_shallow =
      also (op_on_literals_shallow ops) (also (get_of_rec_shallow ops)
      (also (λ us p h t r. twice_shallow ops us p h t r Not) (also (not_of_and_shallow ops)
      (also (not_of_or_shallow ops)
      (also (λ us p h t r. not_of_comparison_shallow ops us p h t r Ult Ule)
      (also (λ us p h t r. not_of_comparison_shallow ops us p h t r Ule Ult)
      (also (λ us p h t r. not_of_comparison_shallow ops us p h t r Slt Sle)
      (also (λ us p h t r. not_of_comparison_shallow ops us p h t r Sle Slt)
      (also (and_of_first_false_shallow ops) (also (and_of_second_false_shallow ops)
      (also (and_of_first_true_shallow ops) (also (and_of_second_true_shallow ops)
      (also (or_of_first_true_shallow ops) (also (or_of_second_true_shallow ops)
      (also (or_of_first_false_shallow ops) (also (or_of_second_false_shallow ops)
      (also (λ us p h t r. equal_sides_shallow ops us p h t r And)
      (also (λ us p h t r. equal_sides_shallow ops us p h t r Or) (also (ite_of_truth_shallow ops)
      (also (ite_of_same_shallow ops) (also (ite_of_not_shallow ops)
      (also (ite_of_truths_shallow ops) tt))))))))))))))))))))))

  equations_shallow : AreShallow equation_rules
  equations_shallow =
      also (eq_of_same_shallow ops) (also (eq_of_recs_shallow ops) (also (eq_of_makes_shallow ops)
      (also (λ us p h t r. out_of_order_shallow ops us p h t r Eq) (also (eq_of_truth_shallow ops)
      (also (eq_of_literal_and_add_shallow ops) (also (eq_of_literal_and_bxor_shallow ops)
      (also (eq_of_literal_and_bnot_shallow ops) (also (eq_of_literal_and_zext_shallow ops)
      (also (eq_of_literal_and_cat_shallow ops)
      (also (λ us p h t r. comparison_of_zexts_shallow ops us p h t r Eq)
      (also (eq_of_cats_shallow ops) (also (eq_of_literal_and_ite_shallow ops) tt))))))))))))

  orders_shallow : AreShallow order_rules
  orders_shallow =
      also (λ us p h t r. comparison_of_same_shallow ops us p h t r Ult false)
      (also (λ us p h t r. comparison_of_same_shallow ops us p h t r Slt false)
      (also (λ us p h t r. comparison_of_same_shallow ops us p h t r Ule true)
      (also (λ us p h t r. comparison_of_same_shallow ops us p h t r Sle true)
      (also (ult_of_zero_shallow ops) (also (ult_of_ones_shallow ops)
      (also (ule_of_zero_shallow ops) (also (ule_of_ones_shallow ops)
      (also (ult_of_one_shallow ops) (also (ule_of_no_more_shallow ops)
      (also (ult_of_none_shallow ops) (also (ule_of_one_shallow ops)
      (also (λ us p h t r. comparison_of_zexts_shallow ops us p h t r Ult)
      (also (λ us p h t r. comparison_of_zexts_shallow ops us p h t r Ule)
      (also (ult_of_literal_and_zext_shallow ops) (also (ult_of_zext_and_literal_shallow ops)
      (also (ule_of_literal_and_zext_shallow ops) (also (ule_of_zext_and_literal_shallow ops)
      tt)))))))))))))))))

  sums_shallow : AreShallow sum_rules
  sums_shallow =
      also (sub_of_same_shallow ops) (also (sub_of_literal_shallow ops)
      (also (λ us p h t r. out_of_order_shallow ops us p h t r Add)
      (also (λ us p h t r. out_of_order_shallow ops us p h t r Mul)
      (also (λ us p h t r. out_of_order_shallow ops us p h t r Band)
      (also (λ us p h t r. out_of_order_shallow ops us p h t r Bor)
      (also (λ us p h t r. out_of_order_shallow ops us p h t r Bxor)
      (also (add_of_zero_shallow ops) (also (add_of_literals_shallow ops)
      (also (add_of_second_sum_shallow ops) (also (add_of_first_sum_shallow ops) tt))))))))))

  bits_shallow : AreShallow bit_rules
  bits_shallow =
      also (λ us p h t r. zero_shallow ops us p h t r Mul)
      (also (λ us p h t r. zero_shallow ops us p h t r Band) (also (mul_of_one_shallow ops)
      (also (band_of_ones_shallow ops)
      (also (λ us p h t r. side_of_same_shallow ops us p h t r Band)
      (also (λ us p h t r. side_of_zero_shallow ops us p h t r Bor)
      (also (λ us p h t r. side_of_same_shallow ops us p h t r Bor)
      (also (λ us p h t r. side_of_zero_shallow ops us p h t r Bxor)
      (also (bor_of_ones_shallow ops) (also (bxor_of_ones_shallow ops)
      (also (bxor_of_same_shallow ops) (also (λ us p h t r. twice_shallow ops us p h t r Bnot)
      tt)))))))))))

  shifts_shallow : AreShallow shift_rules
  shifts_shallow =
      also (λ us p h t r. shift_by_zero_shallow ops us p h t r Shl)
      (also (λ us p h t r. shift_by_zero_shallow ops us p h t r Shr)
      (also (λ us p h t r. shift_by_zero_shallow ops us p h t r Sar)
      (also (λ us p h t r. shift_out_shallow ops us p h t r Shl)
      (also (λ us p h t r. shift_out_shallow ops us p h t r Shr) (also (shl_of_literal_shallow ops)
      (also (shr_of_literal_shallow ops) (also (sar_of_literal_shallow ops)
      (also (slice_of_all_shallow ops) (also (slice_of_slice_shallow ops)
      (also (slice_of_low_part_shallow ops) (also (slice_of_high_part_shallow ops)
      (also (slice_of_both_parts_shallow ops) (also (slice_of_zeros_shallow ops)
      (also (slice_within_zext_shallow ops) (also (slice_past_zext_shallow ops)
      (also (slice_within_sext_shallow ops) tt))))))))))))))))

  joins_shallow : AreShallow join_rules
  joins_shallow =
      also (zext_to_own_width_shallow ops) (also (sext_to_own_width_shallow ops)
      (also (zext_of_zext_shallow ops) (also (cat_of_zero_shallow ops)
      (also (cat_of_slices_shallow ops) tt))))

  -- what is done at one place of a term
  pub rule_shallow : IsShallow rule_of
  unfolding rule_of
  rule_shallow =
      first_shallow rules
      (also (first_shallow truth_rules truths_shallow)
      (also (first_shallow equation_rules equations_shallow)
      (also (first_shallow order_rules orders_shallow) (also (first_shallow sum_rules sums_shallow)
      (also (first_shallow bit_rules bits_shallow) (also (first_shallow shift_rules shifts_shallow)
      (also (first_shallow join_rules joins_shallow) tt)))))))
