-- The rules on extensions and joins keep values.
use Rattle.std.proofs.Common.{◌≡◌, ◌∙◌, ℕ, ◌+◌, ◌-◌, ◌*◌, ◌/◌, ◌%◌, ◌^◌, ◌≤◌, true, List, Some, ap, sym, subst, nat_le, arith}
use Rattle.std.specs.Prelude.{◌==◌, ◌&&◌}
use Rattle.std.proofs.lemmas.Bool.{eqb-true, and_parts, leb-true}
use Rattle.kat_value.specs.declared.op.Op.TheVariants.{Slice, Cat, Zext, Sext}
use Rattle.kat_value.specs.declared.types.Ty.{Ty}
use Rattle.kat_value.specs.declared.types.TypeDecl.{TypeDecl}
use Rattle.kat_value.specs.declared.value.Value.TheVariants.{Bits}
use Rattle.kat_value.specs.Numbers.{sign_extended}
use Rattle.kat_value.specs.Widths.{is_number}
use Rattle.kat_value.specs.Widths.{is_width}
use Rattle.kat_term.specs.declared.term.Term.{Term}
use Rattle.kat_term.specs.Equality.{term_eq}
use Rattle.kat_term.specs.Types.{IsValuation}
use Rattle.kat_term.specs.Values.{Valuation, IsKept, value_of}
use Rattle.kat_term.specs.Views.{one, two, bits}
use Rattle.kat_rules.specs.Joins.{join_rules, zext_to_own_width, sext_to_own_width, zext_of_zext, cat_of_zero, cat_of_slices}
use Rattle.kat_rules.specs.Keeps.{AllKeep, KeepsValues}
use Rattle.kat_rules.specs.Widths.{width_of}
use Rattle.kat_rules.proofs.TermLaws.{TermLaws}
use Rattle.kat_rules.proofs.Meaning.{literal_is}
use Rattle.kat_rules.proofs.NumberParts.{extended_to_own, joined_parts}
use Rattle.kat_rules.proofs.PartMeaning.{same_bits, slice_of, slice_from, zext_number, zext_from, on_zext_value, on_sext_value, on_cat_value}
use Rattle.kat_rules.proofs.Patterns.{some_is, only_is, in_bits, in_two, in_slice, in_zext, in_sext, in_width}
use Rattle.kat_rules.proofs.ToldTypes.{width_is}

module _ (laws : TermLaws) (types : List TypeDecl) (vars : List Ty) (v : Valuation) (fits : IsValuation types vars v) where
  abbrev Kept : Term → Term → Type 0
  Kept l r = IsKept (value_of types v l) (value_of types v r)

  -- a number is of the width that its term tells
  is_of_width : (a : Term) (u n w : ℕ) → value_of types v a ≡ Some (Bits u n) → width_of vars a ≡ Some w → u ≡ w
  is_of_width = width_is laws.truths laws.numbers types vars v fits

  -- an extension to the own width
  zext_own-law : (w k : ℕ) (a : Term) → width_of vars a ≡ Some k → k ≡ w → Kept (one (Zext w) a) a
  zext_own-law w k a told same =
      on_zext_value types v w a a (λ u n is number longer within. is ∙ ap (λ i. Some (Bits i n)) (is_of_width a u n k is told ∙ same))

  pub zext_to_own_width_keeps : KeepsValues types v (zext_to_own_width vars)
  zext_to_own_width_keeps t r e =
      in_zext t _ r (λ u. Kept u r) e (λ w a g. in_width vars a _ r (Kept (one (Zext w) a) r) g
      (λ k told h. only_is (Kept (one (Zext w) a)) (k == w) a r h (λ test. zext_own-law w k a told (eqb-true k w test))))

  sext_own-law : (w k : ℕ) (a : Term) → width_of vars a ≡ Some k → k ≡ w → Kept (one (Sext w) a) a
  sext_own-law w k a told same =
      on_sext_value types v w a a
      (λ u n is number longer within. let width : u ≡ w = is_of_width a u n k is told ∙ same in
      is ∙ same_bits u w n _ width (sym (extended_to_own u n) ∙ ap (λ i. sign_extended u i n) width))

  pub sext_to_own_width_keeps : KeepsValues types v (sext_to_own_width vars)
  sext_to_own_width_keeps t r e =
      in_sext t _ r (λ u. Kept u r) e (λ w a g. in_width vars a _ r (Kept (one (Sext w) a) r) g
      (λ k told h. only_is (Kept (one (Sext w) a)) (k == w) a r h (λ test. sext_own-law w k a told (eqb-true k w test))))

  -- an extension of an extension
  zext_twice-law : (w k : ℕ) (a : Term) → Kept (one (Zext w) (one (Zext k) a)) (one (Zext w) a)
  zext_twice-law w k a =
      on_zext_value types v w (one (Zext k) a) (one (Zext w) a)
      (λ u n is number longer within. let z = zext_number types v k a u n is in
      zext_from types v w a z.w z.n z.is z.number (omega (arith, longer, z.longer, z.same)) within ∙ ap (λ i. Some (Bits w i)) (sym z.gives))

  pub zext_of_zext_keeps : KeepsValues types v (zext_of_zext vars)
  zext_of_zext_keeps t r e =
      in_zext t _ r (λ u. Kept u r) e (λ w z g. in_zext z _ r (λ u. Kept (one (Zext w) u) r) g
      (λ k a h. some_is (Kept (one (Zext w) (one (Zext k) a))) (one (Zext w) a) r h (zext_twice-law w k a)))

  -- zeros above a number
  cat_zero-law : (w n k : ℕ) (a : Term) → is_number w n ≡ true → width_of vars a ≡ Some k → n ≡ 0 → Kept (two Cat (bits w n) a) (one (Zext (w + k)) a)
  cat_zero-law w n k a number told zero =
      on_cat_value types v (bits w n) a (one (Zext (w + k)) a)
      (λ i m u l first second first_number second_number within.
      let literal = literal_is types v w n i m number first in
      let width : u ≡ k = is_of_width a u l k second told in
      let none : m ≡ 0 = literal.1 ∙ zero in
      let whole : w + k ≡ i + u = omega (arith, width, literal.0) in
      zext_from types v (w + k) a u l second second_number (omega (arith, width)) (omega (arith, whole, within))
      ∙ same_bits (w + k) (i + u) l (m * 2 ^ u + l) whole (sym (ap (λ j. j * 2 ^ u + l) none ∙ zero_above l (2 ^ u)))) where
        zero_above : (l p : ℕ) → 0 * p + l ≡ l
        zero_above l p = omega arith

  pub cat_of_zero_keeps : KeepsValues types v (cat_of_zero vars)
  cat_of_zero_keeps t r e =
      in_two laws.operations Cat t _ r (λ u. Kept u r) e (λ l a g. in_bits l _ r (λ u. Kept (two Cat u a) r) g
      (λ w n number h. in_width vars a _ r (Kept (two Cat (bits w n) a) r) h
      (λ k told i. only_is (Kept (two Cat (bits w n) a)) ((n == 0) && is_width (w + k)) (one (Zext (w + k)) a) r i
      (λ test. cat_zero-law w n k a number told (eqb-true n 0 (and_parts (n == 0) (is_width (w + k)) test).0)))))

  -- slices that follow one another
  cat_slices-law : (hi middle top lo : ℕ) (a : Term) → middle ≡ top + 1 → middle ≤ hi → lo ≤ top → Kept (two Cat (one (Slice hi middle) a) (one (Slice top lo) a)) (one (Slice hi lo) a)
  cat_slices-law hi middle top lo a next upper lower =
      on_cat_value types v (one (Slice hi middle) a) (one (Slice top lo) a) (one (Slice hi lo) a)
      (λ i m u l first second first_number second_number within.
      let s = slice_of types v hi middle a i m first in
      let z = slice_of types v top lo a u l second in
      let width : i + u ≡ hi - lo + 1 = omega (arith, s.width, z.width, next, upper, lower) in
      let place : middle ≡ lo + u = omega (arith, z.width, next, lower) in
      let same = told_twice a s.w s.n z.w z.n s.is z.is in
      let high : m ≡ s.n / 2 ^ (lo + u) % 2 ^ i =
      s.gives ∙ ap (λ j. s.n / 2 ^ middle % 2 ^ j) (sym s.width) ∙ ap (λ j. s.n / 2 ^ j % 2 ^ i) place in
      let low : l ≡ s.n / 2 ^ lo % 2 ^ u = z.gives ∙ ap (λ j. z.n / 2 ^ lo % 2 ^ j) (sym z.width) ∙ ap (λ j. j / 2 ^ lo % 2 ^ u) (sym same) in
      slice_from types v hi lo a s.w s.n s.is s.number (omega (arith, next, upper, lower)) s.inside
      ∙ same_bits (hi - lo + 1) (i + u) (s.n / 2 ^ lo % 2 ^ (hi - lo + 1)) (m * 2 ^ u + l) (sym width)
      (ap (λ j. s.n / 2 ^ lo % 2 ^ j) (sym width) ∙ sym (joined_parts s.n lo i u)
      ∙ ap (λ j. j * 2 ^ u + s.n / 2 ^ lo % 2 ^ u) (sym high) ∙ ap (λ j. m * 2 ^ u + j) (sym low))) where
        told_twice : (a : Term) (w n u m : ℕ) → value_of types v a ≡ Some (Bits w n) → value_of types v a ≡ Some (Bits u m) → n ≡ m
        told_twice a w n u m first second = let e : Some (Bits w n) ≡ Some (Bits u m) = sym first ∙ second in cc

  pub cat_of_slices_keeps : KeepsValues types v (cat_of_slices vars)
  cat_of_slices_keeps t r e =
      in_two laws.operations Cat t _ r (λ u. Kept u r) e (λ y z g. in_slice y _ r (λ u. Kept (two Cat u z) r) g
      (λ hi middle a h. in_slice z _ r (λ u. Kept (two Cat (one (Slice hi middle) a) u) r) h
      (λ top lo b i. only_is (Kept (two Cat (one (Slice hi middle) a) (one (Slice top lo) b)))
      ((middle == top + 1) && (nat_le middle hi && (nat_le lo top && term_eq a b))) (one (Slice hi lo) a) r i
      (λ test.
      let first = and_parts (middle == top + 1) (nat_le middle hi && (nat_le lo top && term_eq a b)) test in
      let second = and_parts (nat_le middle hi) (nat_le lo top && term_eq a b) first.1 in
      let third = and_parts (nat_le lo top) (term_eq a b) second.1 in
      subst (λ c. Kept (two Cat (one (Slice hi middle) a) (one (Slice top lo) c)) (one (Slice hi lo) a)) ((laws.terms a b).0 third.1)
      (cat_slices-law hi middle top lo a (eqb-true middle (top + 1) first.0) (leb-true middle hi second.0) (leb-true lo top third.0))))))

-- all of them
pub joins_keep : TermLaws → AllKeep join_rules
joins_keep laws = (zext_to_own_width_keeps laws, (sext_to_own_width_keeps laws, (zext_of_zext_keeps laws, (cat_of_zero_keeps laws, (cat_of_slices_keeps laws, tt)))))
