-- The rules on slices keep values.
use Rattle.std.proofs.Common.{◌≡◌, ◌∙◌, ℕ, ◌+◌, ◌-◌, ◌*◌, ◌/◌, ◌%◌, ◌^◌, ◌<◌, ◌≤◌, List, Some, ap, sym, nat_le, nat_lt, arith}
use Rattle.std.specs.Prelude.{◌==◌, ◌&&◌}
use Rattle.std.proofs.Math.Nat.{div-one}
use Rattle.std.proofs.lemmas.Bool.{eqb-true, and_parts, leb-true, ltb-true}
use Rattle.std.proofs.lemmas.Nat.{pow_pos}
use Rattle.kat_value.specs.declared.op.Op.TheVariants.{Cat, Zext, Sext}
use Rattle.kat_value.specs.declared.types.Ty.{Ty}
use Rattle.kat_value.specs.declared.types.TypeDecl.{TypeDecl}
use Rattle.kat_value.specs.declared.value.Value.TheVariants.{Bits}
use Rattle.kat_value.specs.Widths.{is_width}
use Rattle.kat_term.specs.declared.term.Term.{Term}
use Rattle.kat_term.specs.Types.{IsValuation}
use Rattle.kat_term.specs.Values.{Valuation, IsKept, value_of}
use Rattle.kat_term.specs.Views.{one, two, bits}
use Rattle.kat_rules.specs.Keeps.{AllKeep, KeepsValues}
use Rattle.kat_rules.specs.Shifts.{shift_rules, slice, slice_of_all, slice_of_slice, slice_of_low_part, slice_of_high_part, slice_of_both_parts, slice_of_zeros, slice_within_zext, slice_past_zext, slice_within_sext}
use Rattle.kat_rules.specs.Widths.{width_of}
use Rattle.kat_rules.proofs.Meaning.{bits_value}
use Rattle.kat_rules.proofs.NumberParts.{part_of_part, low_part, high_part, both_parts, no_part, whole_part, top_part, extended_part}
use Rattle.kat_rules.proofs.OrderLaws.{below}
use Rattle.kat_rules.proofs.PartMeaning.{positive, small, number_made, same_bits, slice_of, slice_from, slice_number, on_slice_value, zext_number, sext_number, zext_from, cat_of, cat_from}
use Rattle.kat_rules.proofs.Patterns.{only_is, in_two, in_slice, in_zext, in_sext, in_width}
use Rattle.kat_rules.proofs.ShiftLaws.{shl_by_zero_keeps, shr_by_zero_keeps, sar_by_zero_keeps, shl_out_keeps, shr_out_keeps, shl_of_literal_keeps, shr_of_literal_keeps, sar_of_literal_keeps}
use Rattle.kat_rules.proofs.TermLaws.{TermLaws}
use Rattle.kat_rules.proofs.ToldTypes.{width_is}

module _ (laws : TermLaws) (types : List TypeDecl) (vars : List Ty) (v : Valuation) (fits : IsValuation types vars v) where
  abbrev Kept : Term → Term → Type 0
  Kept l r = IsKept (value_of types v l) (value_of types v r)

  -- a number is of the width that its term tells
  is_of_width : (a : Term) (u n w : ℕ) → value_of types v a ≡ Some (Bits u n) → width_of vars a ≡ Some w → u ≡ w
  is_of_width = width_is laws.truths laws.numbers types vars v fits

  -- all bits
  all-law : (hi lo w : ℕ) (a : Term) → width_of vars a ≡ Some w → lo ≡ 0 → hi ≡ w - 1 → Kept (slice hi lo a) a
  all-law hi lo w a told first last =
      on_slice_value types v hi lo a a
      (λ u n is number ordered inside.
      let width : u ≡ hi - lo + 1 = omega (arith, is_of_width a u n w is told, first, last, positive u n number) in
      is ∙ same_bits u (hi - lo + 1) n (n / 2 ^ lo % 2 ^ (hi - lo + 1)) width
      (sym (ap (λ k. n / 2 ^ lo % 2 ^ k) (sym width) ∙ ap (λ k. n / 2 ^ k % 2 ^ u) first ∙ whole_part n u (below u n number))))

  pub slice_of_all_keeps : KeepsValues types v (slice_of_all vars)
  slice_of_all_keeps t r e =
      in_slice t _ r (λ u. Kept u r) e (λ hi lo a g. in_width vars a _ r (Kept (slice hi lo a) r) g
      (λ w told h. only_is (Kept (slice hi lo a)) ((lo == 0) && (hi == w - 1)) a r h
      (λ test. let parts = and_parts (lo == 0) (hi == w - 1) test in all-law hi lo w a told (eqb-true lo 0 parts.0) (eqb-true hi (w - 1) parts.1))))

  -- a slice of a slice
  twice-law : (hi lo top bottom : ℕ) (a : Term) → hi + bottom ≤ top → Kept (slice hi lo (slice top bottom a)) (slice (hi + bottom) (lo + bottom) a)
  twice-law hi lo top bottom a within =
      on_slice_value types v hi lo (slice top bottom a) (slice (hi + bottom) (lo + bottom) a)
      (λ u k is number ordered inside.
      let s = slice_of types v top bottom a u k is in
      let width : hi + bottom - (lo + bottom) + 1 ≡ hi - lo + 1 = omega arith in
      let top_inside : top < s.w = s.inside in
      slice_from types v (hi + bottom) (lo + bottom) a s.w s.n s.is s.number (omega (arith, ordered)) (omega (arith, within, top_inside))
      ∙ same_bits (hi + bottom - (lo + bottom) + 1) (hi - lo + 1) _ (k / 2 ^ lo % 2 ^ (hi - lo + 1)) width
      (ap (λ j. s.n / 2 ^ (lo + bottom) % 2 ^ j) width
      ∙ sym (ap (λ x. x / 2 ^ lo % 2 ^ (hi - lo + 1)) s.gives
      ∙ part_of_part s.n bottom (top - bottom + 1) lo (hi - lo + 1) (omega (arith, ordered, within)))))

  pub slice_of_slice_keeps : KeepsValues types v (slice_of_slice vars)
  slice_of_slice_keeps t r e =
      in_slice t _ r (λ u. Kept u r) e (λ hi lo s g. in_slice s _ r (λ u. Kept (slice hi lo u) r) g
      (λ top bottom a h. only_is (Kept (slice hi lo (slice top bottom a))) (nat_le lo hi && nat_le (hi + bottom) top) (slice (hi + bottom) (lo + bottom) a) r h
      (λ test. twice-law hi lo top bottom a (leb-true (hi + bottom) top (and_parts (nat_le lo hi) (nat_le (hi + bottom) top) test).1))))

  -- slices of a join
  low-law : (hi lo w : ℕ) (a b : Term) → width_of vars b ≡ Some w → hi < w → Kept (slice hi lo (two Cat a b)) (slice hi lo b)
  low-law hi lo w a b told within =
      on_slice_value types v hi lo (two Cat a b) (slice hi lo b)
      (λ i k is number ordered inside.
      let c = cat_of types v a b i k is in
      let width : c.u ≡ w = is_of_width b c.u c.n w c.second told in
      slice_from types v hi lo b c.u c.n c.second c.second_number ordered (omega (arith, width, within))
      ∙ ap (λ x. Some (Bits (hi - lo + 1) x))
      (sym (ap (λ x. x / 2 ^ lo % 2 ^ (hi - lo + 1)) c.gives
      ∙ low_part c.m c.n c.u lo (hi - lo + 1) (below c.u c.n c.second_number) (omega (arith, width, within, ordered)))))

  pub slice_of_low_part_keeps : KeepsValues types v (slice_of_low_part vars)
  slice_of_low_part_keeps t r e =
      in_slice t _ r (λ u. Kept u r) e (λ hi lo c g. in_two laws.operations Cat c _ r (λ u. Kept (slice hi lo u) r) g
      (λ a b h. in_width vars b _ r (Kept (slice hi lo (two Cat a b)) r) h
      (λ w told i. only_is (Kept (slice hi lo (two Cat a b))) (nat_lt hi w) (slice hi lo b) r i (λ test. low-law hi lo w a b told (ltb-true hi w test)))))

  high-law : (hi lo w : ℕ) (a b : Term) → width_of vars b ≡ Some w → w ≤ lo → Kept (slice hi lo (two Cat a b)) (slice (hi - w) (lo - w) a)
  high-law hi lo w a b told above =
      on_slice_value types v hi lo (two Cat a b) (slice (hi - w) (lo - w) a)
      (λ i k is number ordered inside.
      let c = cat_of types v a b i k is in
      let width : c.u ≡ w = is_of_width b c.u c.n w c.second told in
      let whole : i ≡ c.w + c.u = c.width in
      let same : hi - w - (lo - w) + 1 ≡ hi - lo + 1 = omega (arith, above, ordered) in
      let over : c.u ≤ lo = omega (arith, width, above) in
      slice_from types v (hi - w) (lo - w) a c.w c.m c.first c.first_number (omega (arith, ordered)) (omega (arith, inside, whole, width, above, ordered))
      ∙ same_bits (hi - w - (lo - w) + 1) (hi - lo + 1) _ (k / 2 ^ lo % 2 ^ (hi - lo + 1)) same
      (ap (λ j. c.m / 2 ^ (lo - w) % 2 ^ j) same
      ∙ ap (λ j. c.m / 2 ^ (lo - j) % 2 ^ (hi - lo + 1)) (sym width)
      ∙ sym (ap (λ x. x / 2 ^ lo % 2 ^ (hi - lo + 1)) c.gives ∙ high_part c.m c.n c.u lo (hi - lo + 1) (below c.u c.n c.second_number) over)))

  pub slice_of_high_part_keeps : KeepsValues types v (slice_of_high_part vars)
  slice_of_high_part_keeps t r e =
      in_slice t _ r (λ u. Kept u r) e (λ hi lo c g. in_two laws.operations Cat c _ r (λ u. Kept (slice hi lo u) r) g
      (λ a b h. in_width vars b _ r (Kept (slice hi lo (two Cat a b)) r) h
      (λ w told i. only_is (Kept (slice hi lo (two Cat a b))) (nat_le w lo && nat_le lo hi) (slice (hi - w) (lo - w) a) r i
      (λ test. high-law hi lo w a b told (leb-true w lo (and_parts (nat_le w lo) (nat_le lo hi) test).0)))))

  both-law : (hi lo w : ℕ) (a b : Term) → width_of vars b ≡ Some w → lo < w → w ≤ hi → Kept (slice hi lo (two Cat a b)) (two Cat (slice (hi - w) 0 a) (slice (w - 1) lo b))
  both-law hi lo w a b told under over =
      on_slice_value types v hi lo (two Cat a b) (two Cat (slice (hi - w) 0 a) (slice (w - 1) lo b))
      (λ i k is number ordered inside.
      let c = cat_of types v a b i k is in
      let width : c.u ≡ w = is_of_width b c.u c.n w c.second told in
      let whole : i ≡ c.w + c.u = c.width in
      let high : hi - w < c.w = omega (arith, inside, whole, width, over) in
      let low : w - 1 < c.u = omega (arith, width, under) in
      let low_ordered : lo ≤ w - 1 = omega (arith, under) in
      let none : 0 ≤ hi - w = omega arith in
      let same : hi - w - 0 + 1 + (w - 1 - lo + 1) ≡ hi - lo + 1 = omega (arith, under, over) in
      let lower : w - 1 - lo + 1 ≡ c.u - lo = omega (arith, width, under) in
      cat_from types v (slice (hi - w) 0 a) (slice (w - 1) lo b) (hi - w - 0 + 1) (c.m / 2 ^ 0 % 2 ^ (hi - w - 0 + 1)) (w - 1 - lo + 1) (c.n / 2 ^ lo % 2 ^ (w - 1 - lo + 1))
      (slice_from types v (hi - w) 0 a c.w c.m c.first c.first_number none high)
      (slice_from types v (w - 1) lo b c.u c.n c.second c.second_number low_ordered low)
      (slice_number types v (hi - w) 0 c.w c.m c.first_number none high)
      (slice_number types v (w - 1) lo c.u c.n c.second_number low_ordered low)
      (omega (arith, same, inside, small i k number))
      ∙ same_bits (hi - w - 0 + 1 + (w - 1 - lo + 1)) (hi - lo + 1) _ (k / 2 ^ lo % 2 ^ (hi - lo + 1)) same
      (ap (λ x. x % 2 ^ (hi - w - 0 + 1) * 2 ^ (w - 1 - lo + 1) + c.n / 2 ^ lo % 2 ^ (w - 1 - lo + 1)) (div-one c.m)
      ∙ ap (λ j. c.m % 2 ^ (hi - w - 0 + 1) * 2 ^ j + c.n / 2 ^ lo % 2 ^ j) lower
      ∙ sym (ap (λ x. x / 2 ^ lo % 2 ^ (hi - lo + 1)) c.gives
      ∙ ap (λ j. (c.m * 2 ^ c.u + c.n) / 2 ^ lo % 2 ^ j) (sym same ∙ ap (λ j. hi - w - 0 + 1 + j) lower)
      ∙ both_parts c.m c.n c.u lo (hi - w - 0 + 1) (below c.u c.n c.second_number) (omega (arith, width, under)))))

  pub slice_of_both_parts_keeps : KeepsValues types v (slice_of_both_parts vars)
  slice_of_both_parts_keeps t r e =
      in_slice t _ r (λ u. Kept u r) e (λ hi lo c g. in_two laws.operations Cat c _ r (λ u. Kept (slice hi lo u) r) g
      (λ a b h. in_width vars b _ r (Kept (slice hi lo (two Cat a b)) r) h
      (λ w told i. only_is (Kept (slice hi lo (two Cat a b))) (nat_lt lo w && nat_le w hi) (two Cat (slice (hi - w) 0 a) (slice (w - 1) lo b)) r i
      (λ test. let parts = and_parts (nat_lt lo w) (nat_le w hi) test in both-law hi lo w a b told (ltb-true lo w parts.0) (leb-true w hi parts.1)))))

  -- slices of an extension by zeros
  zeros-law : (hi lo w k : ℕ) (a : Term) → width_of vars a ≡ Some k → k ≤ lo → Kept (slice hi lo (one (Zext w) a)) (bits (hi - lo + 1) 0)
  zeros-law hi lo w k a told above =
      on_slice_value types v hi lo (one (Zext w) a) (bits (hi - lo + 1) 0)
      (λ i n is number ordered inside.
      let z = zext_number types v w a i n is in
      let over : z.w ≤ lo = omega (arith, is_of_width a z.w z.n k z.is told, above) in
      bits_value types v (hi - lo + 1) 0 (number_made (hi - lo + 1) 0 (omega arith) (omega (arith, inside, small i n number)) (pow_pos (hi - lo + 1)))
      ∙ ap (λ x. Some (Bits (hi - lo + 1) x))
      (sym (ap (λ x. x / 2 ^ lo % 2 ^ (hi - lo + 1)) z.gives ∙ no_part z.n z.w lo (hi - lo + 1) (below z.w z.n z.number) over)))

  pub slice_of_zeros_keeps : KeepsValues types v (slice_of_zeros vars)
  slice_of_zeros_keeps t r e =
      in_slice t _ r (λ u. Kept u r) e (λ hi lo z g. in_zext z _ r (λ u. Kept (slice hi lo u) r) g
      (λ w a h. in_width vars a _ r (Kept (slice hi lo (one (Zext w) a)) r) h
      (λ k told i. only_is (Kept (slice hi lo (one (Zext w) a))) (nat_le k lo && (nat_le lo hi && is_width (hi - lo + 1))) (bits (hi - lo + 1) 0) r i
      (λ test. zeros-law hi lo w k a told (leb-true k lo (and_parts (nat_le k lo) (nat_le lo hi && is_width (hi - lo + 1)) test).0)))))

  within_zext-law : (hi lo w k : ℕ) (a : Term) → width_of vars a ≡ Some k → hi < k → Kept (slice hi lo (one (Zext w) a)) (slice hi lo a)
  within_zext-law hi lo w k a told within =
      on_slice_value types v hi lo (one (Zext w) a) (slice hi lo a)
      (λ i n is number ordered inside.
      let z = zext_number types v w a i n is in
      slice_from types v hi lo a z.w z.n z.is z.number ordered (omega (arith, is_of_width a z.w z.n k z.is told, within))
      ∙ ap (λ x. Some (Bits (hi - lo + 1) (x / 2 ^ lo % 2 ^ (hi - lo + 1)))) (sym z.gives))

  pub slice_within_zext_keeps : KeepsValues types v (slice_within_zext vars)
  slice_within_zext_keeps t r e =
      in_slice t _ r (λ u. Kept u r) e (λ hi lo z g. in_zext z _ r (λ u. Kept (slice hi lo u) r) g
      (λ w a h. in_width vars a _ r (Kept (slice hi lo (one (Zext w) a)) r) h
      (λ k told i. only_is (Kept (slice hi lo (one (Zext w) a))) (nat_lt hi k) (slice hi lo a) r i (λ test. within_zext-law hi lo w k a told (ltb-true hi k test)))))

  past_zext-law : (hi lo w k : ℕ) (a : Term) → width_of vars a ≡ Some k → lo < k → k ≤ hi → Kept (slice hi lo (one (Zext w) a)) (one (Zext (hi - lo + 1)) (slice (k - 1) lo a))
  past_zext-law hi lo w k a told under over =
      on_slice_value types v hi lo (one (Zext w) a) (one (Zext (hi - lo + 1)) (slice (k - 1) lo a))
      (λ i n is number ordered inside.
      let z = zext_number types v w a i n is in
      let width : z.w ≡ k = is_of_width a z.w z.n k z.is told in
      let low : k - 1 < z.w = omega (arith, width, under) in
      let low_ordered : lo ≤ k - 1 = omega (arith, under) in
      let less = below z.w z.n z.number in
      zext_from types v (hi - lo + 1) (slice (k - 1) lo a) (k - 1 - lo + 1) (z.n / 2 ^ lo % 2 ^ (k - 1 - lo + 1))
      (slice_from types v (k - 1) lo a z.w z.n z.is z.number low_ordered low) (slice_number types v (k - 1) lo z.w z.n z.number low_ordered low)
      (omega (arith, under, over)) (omega (arith, inside, small i n number))
      ∙ ap (λ x. Some (Bits (hi - lo + 1) x))
      (top_part z.n z.w lo (k - 1 - lo + 1) less (omega (arith, width, under))
      ∙ sym (ap (λ x. x / 2 ^ lo % 2 ^ (hi - lo + 1)) z.gives ∙ top_part z.n z.w lo (hi - lo + 1) less (omega (arith, width, under, over)))))

  pub slice_past_zext_keeps : KeepsValues types v (slice_past_zext vars)
  slice_past_zext_keeps t r e =
      in_slice t _ r (λ u. Kept u r) e (λ hi lo z g. in_zext z _ r (λ u. Kept (slice hi lo u) r) g
      (λ w a h. in_width vars a _ r (Kept (slice hi lo (one (Zext w) a)) r) h
      (λ k told i. only_is (Kept (slice hi lo (one (Zext w) a))) (nat_lt lo k && (nat_le k hi && is_width (hi - lo + 1))) (one (Zext (hi - lo + 1)) (slice (k - 1) lo a)) r i
      (λ test. let parts = and_parts (nat_lt lo k) (nat_le k hi && is_width (hi - lo + 1)) test in
      past_zext-law hi lo w k a told (ltb-true lo k parts.0) (leb-true k hi (and_parts (nat_le k hi) (is_width (hi - lo + 1)) parts.1).0)))))

  -- slices of an extension by copies of the top bit
  within_sext-law : (hi lo w k : ℕ) (a : Term) → width_of vars a ≡ Some k → hi < k → Kept (slice hi lo (one (Sext w) a)) (slice hi lo a)
  within_sext-law hi lo w k a told within =
      on_slice_value types v hi lo (one (Sext w) a) (slice hi lo a)
      (λ i n is number ordered inside.
      let z = sext_number types v w a i n is in
      let width : z.w ≡ k = is_of_width a z.w z.n k z.is told in
      slice_from types v hi lo a z.w z.n z.is z.number ordered (omega (arith, width, within))
      ∙ ap (λ x. Some (Bits (hi - lo + 1) x))
      (sym (ap (λ x. x / 2 ^ lo % 2 ^ (hi - lo + 1)) z.gives
      ∙ extended_part z.w w z.n lo (hi - lo + 1) (below z.w z.n z.number) z.longer (omega (arith, width, within, ordered)))))

  pub slice_within_sext_keeps : KeepsValues types v (slice_within_sext vars)
  slice_within_sext_keeps t r e =
      in_slice t _ r (λ u. Kept u r) e (λ hi lo z g. in_sext z _ r (λ u. Kept (slice hi lo u) r) g
      (λ w a h. in_width vars a _ r (Kept (slice hi lo (one (Sext w) a)) r) h
      (λ k told i. only_is (Kept (slice hi lo (one (Sext w) a))) (nat_lt hi k) (slice hi lo a) r i (λ test. within_sext-law hi lo w k a told (ltb-true hi k test)))))

-- all rules on shifts and slices
pub shifts_keep : TermLaws → AllKeep shift_rules
shifts_keep laws = (shl_by_zero_keeps laws, (shr_by_zero_keeps laws, (sar_by_zero_keeps laws, (shl_out_keeps laws, (shr_out_keeps laws, (shl_of_literal_keeps laws, (shr_of_literal_keeps laws, (sar_of_literal_keeps laws, (slice_of_all_keeps laws, (slice_of_slice_keeps laws, (slice_of_low_part_keeps laws, (slice_of_high_part_keeps laws, (slice_of_both_parts_keeps laws, (slice_of_zeros_keeps laws, (slice_within_zext_keeps laws, (slice_past_zext_keeps laws, (slice_within_sext_keeps laws, tt)))))))))))))))))
