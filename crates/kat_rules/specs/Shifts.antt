-- The rules on shifts and slices.
use Rattle.std.specs.Prelude.{ℕ, ◌+◌, ◌-◌, ◌==◌, ◌&&◌, nat_le, nat_lt, min, List, [], ◌∷◌, Option}
use Rattle.kat_value.specs.declared.op.Op.{Op}
use Rattle.kat_value.specs.declared.op.Op.TheVariants.{Shl, Shr, Sar, Slice, Cat, Zext, Sext}
use Rattle.kat_value.specs.Widths.{is_width}
use Rattle.kat_term.specs.declared.term.Term.{Term}
use Rattle.kat_term.specs.Views.{one, two, bits}
use Rattle.kat_rules.specs.Patterns.{Rule, only_if, on_two, on_bits, on_slice, on_zext, on_sext}
use Rattle.kat_rules.specs.Widths.{on_width}

-- goes on with the argument, the width and the amount of a shift by a literal
abbrev pub on_shift : Op → Term → (Term → ℕ → ℕ → Option Term) → Option Term
on_shift op t go = on_two op t (λ a l. on_bits l (λ w n. go a w n))

-- a slice of a term
abbrev pub slice : ℕ → ℕ → Term → Term
slice hi lo a = one (Slice hi lo) a

-- a shift by 0 is its argument
abbrev pub shift_by_zero : Op → Rule
shift_by_zero op vars t = on_shift op t (λ a w n. only_if (n == 0) a)

-- shl(a,0) is a
abbrev pub shl_by_zero : Rule
shl_by_zero = shift_by_zero Shl

-- shr(a,0) is a
abbrev pub shr_by_zero : Rule
shr_by_zero = shift_by_zero Shr

-- sar(a,0) is a
abbrev pub sar_by_zero : Rule
sar_by_zero = shift_by_zero Sar

-- a shift by n >= w is 0
abbrev pub shift_out : Op → Rule
shift_out op vars t = on_shift op t (λ a w n. only_if (nat_le w n) (bits w 0))

-- shl(a,n) by n >= w is 0
abbrev pub shl_out : Rule
shl_out = shift_out Shl

-- shr(a,n) by n >= w is 0
abbrev pub shr_out : Rule
shr_out = shift_out Shr

-- shl(a,n) is cat(slice(w-1-n,0,a), 0 of width n)
abbrev pub shl_of_literal : Rule
shl_of_literal vars t =
    on_shift Shl t (λ a w n.
    only_if (nat_lt 0 n && nat_lt n w) (two Cat (slice (w - 1 - n) 0 a) (bits n 0)))

-- shr(a,n) is zext w (slice(w-1,n,a))
abbrev pub shr_of_literal : Rule
shr_of_literal vars t =
    on_shift Shr t (λ a w n.
    only_if (nat_lt 0 n && nat_lt n w) (one (Zext w) (slice (w - 1) n a)))

-- sar(a,n) is sext w (slice(w-1,k,a)) with k the lesser of n and w-1
abbrev pub sar_of_literal : Rule
sar_of_literal vars t =
    on_shift Sar t (λ a w n.
    only_if (nat_lt 0 n) (one (Sext w) (slice (w - 1) (min n (w - 1)) a)))

-- slice(w-1,0,a) is a
abbrev pub slice_of_all : Rule
slice_of_all vars t =
    on_slice t (λ hi lo a. on_width vars a (λ w. only_if ((lo == 0) && (hi == w - 1)) a))

-- slice(h,l,slice(h2,l2,a)) is slice(h+l2,l+l2,a)
abbrev pub slice_of_slice : Rule
slice_of_slice vars t =
    on_slice t (λ hi lo s. on_slice s (λ top bottom a.
    only_if (nat_le lo hi && nat_le (hi + bottom) top) (slice (hi + bottom) (lo + bottom) a)))

-- slice of cat(a,b) that lies in b is the slice of b
abbrev pub slice_of_low_part : Rule
slice_of_low_part vars t =
    on_slice t (λ hi lo c. on_two Cat c (λ a b. on_width vars b (λ v.
    only_if (nat_lt hi v) (slice hi lo b))))

-- slice of cat(a,b) that lies in a is the slice of a
abbrev pub slice_of_high_part : Rule
slice_of_high_part vars t =
    on_slice t (λ hi lo c. on_two Cat c (λ a b. on_width vars b (λ v.
    only_if (nat_le v lo && nat_le lo hi) (slice (hi - v) (lo - v) a))))

-- slice of cat(a,b) that lies in both is the cat of both slices
abbrev pub slice_of_both_parts : Rule
slice_of_both_parts vars t =
    on_slice t (λ hi lo c. on_two Cat c (λ a b. on_width vars b (λ v.
    only_if (nat_lt lo v && nat_le v hi)
    (two Cat (slice (hi - v) 0 a) (slice (v - 1) lo b)))))

-- with v the width of a: slice(h,l,zext a) is 0 where l >= v
abbrev pub slice_of_zeros : Rule
slice_of_zeros vars t =
    on_slice t (λ hi lo z. on_zext z (λ w a. on_width vars a (λ v.
    only_if (nat_le v lo && (nat_le lo hi && is_width (hi - lo + 1))) (bits (hi - lo + 1) 0))))

-- slice(h,l,zext a) is slice(h,l,a) where h < v
abbrev pub slice_within_zext : Rule
slice_within_zext vars t =
    on_slice t (λ hi lo z. on_zext z (λ w a. on_width vars a (λ v.
    only_if (nat_lt hi v) (slice hi lo a))))

-- slice(h,l,zext a) with l < v and h >= v is the zext of slice(v-1,l,a)
abbrev pub slice_past_zext : Rule
slice_past_zext vars t =
    on_slice t (λ hi lo z. on_zext z (λ w a. on_width vars a (λ v.
    only_if (nat_lt lo v && (nat_le v hi && is_width (hi - lo + 1)))
    (one (Zext (hi - lo + 1)) (slice (v - 1) lo a)))))

-- slice(h,l,sext a) with h < v is slice(h,l,a)
abbrev pub slice_within_sext : Rule
slice_within_sext vars t =
    on_slice t (λ hi lo z. on_sext z (λ w a. on_width vars a (λ v.
    only_if (nat_lt hi v) (slice hi lo a))))

-- the rules on shifts and slices
abbrev pub shift_rules : List Rule
shift_rules =
    shl_by_zero ∷ shr_by_zero ∷ sar_by_zero ∷ shl_out ∷ shr_out ∷ shl_of_literal ∷ shr_of_literal
    ∷ sar_of_literal ∷ slice_of_all ∷ slice_of_slice ∷ slice_of_low_part ∷ slice_of_high_part
    ∷ slice_of_both_parts ∷ slice_of_zeros ∷ slice_within_zext ∷ slice_past_zext
    ∷ slice_within_sext ∷ []
