-- The rules that can be there at an operation: those whose left side begins with it.
use Rattle.std.specs.Prelude.{◌≡◌, List, [], ◌∷◌, None}
use Rattle.kat_value.specs.declared.op.Op.{Op}
use Rattle.kat_value.specs.declared.op.Op.TheVariants.{Not, And, Or, Eq, Ult, Ule, Slt, Sle, Add, Sub, Mul, Band, Bor, Bxor, Bnot, Shl, Shr, Sar, Slice, Cat, Zext, Sext, Ite, Get}
use Rattle.kat_value.specs.declared.types.Ty.{Ty}
use Rattle.kat_term.specs.declared.term.Term.{Term}
use Rattle.kat_term.specs.declared.term.Term.TheOpen.{Term-F, Apply as Application}
use Rattle.kat_term.specs.declared.term.Term.TheViews.{out-Term}
use Rattle.kat_rules.specs.BitOperations.{mul_of_zero, band_of_zero, mul_of_one, band_of_ones, band_of_same, bor_of_zero, bor_of_same, bxor_of_zero, bor_of_ones, bxor_of_ones, bxor_of_same, bnot_of_bnot}
use Rattle.kat_rules.specs.Equations.{equation_rules}
use Rattle.kat_rules.specs.Joins.{zext_to_own_width, sext_to_own_width, zext_of_zext, cat_of_zero, cat_of_slices}
use Rattle.kat_rules.specs.Orders.{ult_of_same, slt_of_same, ule_of_same, sle_of_same, ult_of_zero, ult_of_ones, ule_of_zero, ule_of_ones, ult_of_one, ule_of_no_more, ult_of_none, ule_of_one, ult_of_zexts, ule_of_zexts, ult_of_literal_and_zext, ult_of_zext_and_literal, ule_of_literal_and_zext, ule_of_zext_and_literal}
use Rattle.kat_rules.specs.Patterns.{Rule}
use Rattle.kat_rules.specs.Rules.{first_of, rule_of}
use Rattle.kat_rules.specs.Shifts.{shl_by_zero, shr_by_zero, sar_by_zero, shl_out, shr_out, shl_of_literal, shr_of_literal, sar_of_literal, slice_of_all, slice_of_slice, slice_of_low_part, slice_of_high_part, slice_of_both_parts, slice_of_zeros, slice_within_zext, slice_past_zext, slice_within_sext}
use Rattle.kat_rules.specs.Sums.{sub_of_same, sub_of_literal, add_out_of_order, mul_out_of_order, band_out_of_order, bor_out_of_order, bxor_out_of_order, add_of_zero, add_of_literals, add_of_second_sum, add_of_first_sum}
use Rattle.kat_rules.specs.Truths.{op_on_literals, get_of_rec, not_of_not, not_of_and, not_of_or, not_of_ult, not_of_ule, not_of_slt, not_of_sle, and_of_first_false, and_of_second_false, and_of_first_true, and_of_second_true, or_of_first_true, or_of_second_true, or_of_first_false, or_of_second_false, and_of_same, or_of_same, ite_of_truth, ite_of_same, ite_of_not, ite_of_truths}

-- the rules whose left side begins with an operation, in their order
abbrev pub rules_at : Op → List Rule
rules_at Not =
    not_of_not ∷ not_of_and ∷ not_of_or ∷ not_of_ult ∷ not_of_ule ∷ not_of_slt ∷ not_of_sle ∷ []
rules_at And =
    and_of_first_false ∷ and_of_second_false ∷ and_of_first_true ∷ and_of_second_true
    ∷ and_of_same ∷ []
rules_at Or =
    or_of_first_true ∷ or_of_second_true ∷ or_of_first_false ∷ or_of_second_false ∷ or_of_same ∷ []
rules_at Eq = equation_rules
rules_at Ult =
    ult_of_same ∷ ult_of_zero ∷ ult_of_ones ∷ ult_of_one ∷ ult_of_none ∷ ult_of_zexts
    ∷ ult_of_literal_and_zext ∷ ult_of_zext_and_literal ∷ []
rules_at Ule =
    ule_of_same ∷ ule_of_zero ∷ ule_of_ones ∷ ule_of_no_more ∷ ule_of_one ∷ ule_of_zexts
    ∷ ule_of_literal_and_zext ∷ ule_of_zext_and_literal ∷ []
rules_at Slt = slt_of_same ∷ []
rules_at Sle = sle_of_same ∷ []
rules_at Add =
    add_out_of_order ∷ add_of_zero ∷ add_of_literals ∷ add_of_second_sum ∷ add_of_first_sum ∷ []
rules_at Sub = sub_of_same ∷ sub_of_literal ∷ []
rules_at Mul = mul_out_of_order ∷ mul_of_zero ∷ mul_of_one ∷ []
rules_at Band = band_out_of_order ∷ band_of_zero ∷ band_of_ones ∷ band_of_same ∷ []
rules_at Bor = bor_out_of_order ∷ bor_of_zero ∷ bor_of_same ∷ bor_of_ones ∷ []
rules_at Bxor = bxor_out_of_order ∷ bxor_of_zero ∷ bxor_of_ones ∷ bxor_of_same ∷ []
rules_at Bnot = bnot_of_bnot ∷ []
rules_at Shl = shl_by_zero ∷ shl_out ∷ shl_of_literal ∷ []
rules_at Shr = shr_by_zero ∷ shr_out ∷ shr_of_literal ∷ []
rules_at Sar = sar_by_zero ∷ sar_of_literal ∷ []
rules_at (Slice hi lo) =
    slice_of_all ∷ slice_of_slice ∷ slice_of_low_part ∷ slice_of_high_part ∷ slice_of_both_parts
    ∷ slice_of_zeros ∷ slice_within_zext ∷ slice_past_zext ∷ slice_within_sext ∷ []
rules_at Cat = cat_of_zero ∷ cat_of_slices ∷ []
rules_at (Zext width) = zext_to_own_width ∷ zext_of_zext ∷ []
rules_at (Sext width) = sext_to_own_width ∷ []
rules_at Ite = ite_of_truth ∷ ite_of_same ∷ ite_of_not ∷ ite_of_truths ∷ []
rules_at (Get of field) = get_of_rec ∷ []

-- the first rule at a term of this layer, by its operation: that on literals, else one of those
-- whose left side begins with the operation; no rule is at any other term
abbrev pub first_at : Term-F Term → Rule
first_at (Application op args) vars t = first_of (op_on_literals ∷ rules_at op) vars t
first_at _ vars t = None

-- the first rule of all is the first by the operation
abbrev pub GoesByOperation : Type 0
GoesByOperation = (vars : List Ty) (t : Term) → rule_of vars t ≡ first_at (out-Term t) vars t
