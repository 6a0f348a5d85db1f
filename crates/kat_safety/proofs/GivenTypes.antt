-- Where an operation takes its arguments, something fixes its type.
use Rattle.std.proofs.Common.{◌≡◌, ℕ, ◌+◌, ◌-◌, ◌<◌, ◌≤◌, nat_le, nat_lt, Bool, true, false, if◌then◌else◌, List, [], ◌∷◌, length, map, Option, Some, None, refl, sym, ap, subst, ◌∙◌, arith}
use Rattle.std.specs.Option.{option_or}
use Rattle.std.specs.List.{AllByRecursion}
use Rattle.std.proofs.lemmas.Bool.{and_parts, and_from, leb-true, ltb-true, le-leb, false≢true}
use Rattle.kat_value.specs.declared.op.Op.{Op}
use Rattle.kat_value.specs.declared.op.Op.TheVariants as op
use Rattle.kat_value.specs.declared.signature.Signature.{Signature}
use Rattle.kat_value.specs.declared.signature.Signature.TheVariants as signature
use Rattle.kat_value.specs.declared.types.Ty.{Ty}
use Rattle.kat_value.specs.declared.types.Ty.TheVariants as ty
use Rattle.kat_value.specs.Signatures.{all_taken, bits_of, fixed_behind, fixed_by, fixed_from, is_test, signature_of, takes, type_given, widths_fit}
use Rattle.kat_value.specs.Widths.{is_width, widest}
use Rattle.kat_value.specs.Words.{arity_of, is_written}

-- a type, where it is one of bits, has a width
abbrev pub IsWide : Ty → Type 0
IsWide (ty.Bits w) = is_width w ≡ true
IsWide _ = Unit {0}

-- a type that something fixes
abbrev IsFixed : Option Ty → Type 0
IsFixed o = (t : Ty) × (o ≡ Some t)

-- what is fixed stays
behind_fixed : (sig : Signature) (at : ℕ) (u : Ty) (type : Option Ty) → fixed_behind sig at (Some u)
    type ≡ Some u
behind_fixed sig at u type = by (is_test sig at) (takes sig at (Some u) type) where
  by : (b c : Bool) → (if b then Some u else if c then option_or (Some u) type else Some u) ≡ Some u
  by true c = refl
  by false true = refl
  by false false = refl

stays : (sig : Signature) (at : ℕ) (u : Ty) (types : List (Option Ty)) → fixed_from sig at (Some u)
    types ≡ Some u
stays sig at u [] = refl
stays sig at u (type ∷ types) = ap (λ f. fixed_from sig (at + 1) f types)
    (behind_fixed sig at u type) ∙ stays sig (at + 1) u types

arithmetic_given : (ts : List Ty) → 0 < length ts → all_taken signature.Arithmetic 0 None
    (map Some ts) ≡ true → IsFixed (fixed_by signature.Arithmetic (map Some ts))
arithmetic_given [] some taken = absurd (omega (arith, some))
arithmetic_given (ty.Bits w ∷ ts) some taken = (
  ty.Bits w,
  stays signature.Arithmetic 1 (ty.Bits w)
      (map Some ts),
)
arithmetic_given (ty.Unit ∷ ts) some taken = absurd (false≢true taken)
arithmetic_given (ty.Bool ∷ ts) some taken = absurd (false≢true taken)
arithmetic_given (ty.Enum p ∷ ts) some taken = absurd (false≢true taken)
arithmetic_given (ty.Union p ∷ ts) some taken = absurd (false≢true taken)
arithmetic_given (ty.Rec p ∷ ts) some taken = absurd (false≢true taken)

chosen_given : (c t : Ty) (ts : List Ty) → takes signature.Choice 1 None (Some t) ≡ true →
    IsFixed (fixed_by signature.Choice (Some c ∷ Some t ∷ map Some ts))
chosen_given c (ty.Bits w) ts taken = (
  ty.Bits w,
  stays signature.Choice 2 (ty.Bits w)
      (map Some ts),
)
chosen_given c ty.Bool ts taken = (ty.Bool, stays signature.Choice 2 ty.Bool (map Some ts))
chosen_given c ty.Unit ts taken = absurd (false≢true taken)
chosen_given c (ty.Enum p) ts taken = absurd (false≢true taken)
chosen_given c (ty.Union p) ts taken = absurd (false≢true taken)
chosen_given c (ty.Rec p) ts taken = absurd (false≢true taken)

choice_given : (ts : List Ty) → length ts ≡ 3 → all_taken signature.Choice 0 None (map Some ts) ≡
    true → IsFixed (fixed_by signature.Choice (map Some ts))
choice_given [] count taken = absurd (omega (arith, count))
choice_given (c ∷ []) count taken = absurd (omega (arith, count))
choice_given (c ∷ t ∷ ts) count taken = chosen_given c t ts
    (and_parts _ _ (and_parts _ _ taken).1).0

-- bits of a width are there
bits_given : (w : ℕ) → is_width w ≡ true → IsFixed (bits_of w)
bits_given w wide = (ty.Bits w, ap (λ b. if b then Some (ty.Bits w) else None) wide)

-- a width, from its bounds
width_from : (w : ℕ) → 1 ≤ w → w ≤ 64 → is_width w ≡ true
width_from w low high = and_from (nat_le 1 w) (nat_le w widest) (le-leb 1 w low)
    (le-leb w widest high)

width_low : (w : ℕ) → is_width w ≡ true → 1 ≤ w
width_low w wide = leb-true 1 w (and_parts (nat_le 1 w) (nat_le w widest) wide).0

width_high : (w : ℕ) → is_width w ≡ true → w ≤ 64
width_high w wide = leb-true w widest (and_parts (nat_le 1 w) (nat_le w widest) wide).1

-- the one argument of an operation on bits
one_of_bits : (P : List Ty → Type 0) (sig : Signature) (ts : List Ty) → length ts ≡ 1 →
    ((t : Ty) → takes sig 0 None (Some t) ≡ true → (w : ℕ) × (t ≡ ty.Bits w)) → all_taken sig 0 None
    (map Some ts) ≡ true →
    ((w : ℕ) → P (ty.Bits w ∷ [])) → P ts
one_of_bits P sig [] count is taken then_p = absurd (omega (arith, count))
one_of_bits P sig (t ∷ []) count is taken then_p =
    let found = is t (and_parts _ _ taken).0 in
    subst (λ u. P (u ∷ [])) (sym found.1) (then_p found.0)
one_of_bits P sig (t ∷ u ∷ ts) count is taken then_p = absurd (omega (arith, count))

slice_bits : (hi lo : ℕ) (t : Ty) → takes (signature.Slice hi lo) 0 None (Some t) ≡ true → (w : ℕ) ×
    (t ≡ ty.Bits w)
slice_bits hi lo (ty.Bits w) taken = (w, refl)
slice_bits hi lo ty.Unit taken = absurd (false≢true taken)
slice_bits hi lo ty.Bool taken = absurd (false≢true taken)
slice_bits hi lo (ty.Enum p) taken = absurd (false≢true taken)
slice_bits hi lo (ty.Union p) taken = absurd (false≢true taken)
slice_bits hi lo (ty.Rec p) taken = absurd (false≢true taken)

-- what is given of a slice
abbrev SliceGiven : ℕ → ℕ → List Ty → Type 0
SliceGiven hi lo ts = AllByRecursion IsWide ts → widths_fit (signature.Slice hi lo) (map Some ts) ≡
    true →
    IsFixed (type_given [] (signature.Slice hi lo) (map Some ts))

slice_of_bits : (hi lo w : ℕ) → SliceGiven hi lo (ty.Bits w ∷ [])
slice_of_bits hi lo w wide fit =
    let parts = and_parts (nat_le lo hi) (nat_lt hi w) fit in
    let low : lo ≤ hi = leb-true lo hi parts.0 in
    let high : hi < w = ltb-true hi w parts.1 in
    let most = width_high w wide.0 in
    let given = bits_given (hi - lo + 1) (width_from (hi - lo + 1) (omega arith)
    (omega (arith, low, high, most))) in
    (given.0, ap (λ b. if b then bits_of (hi - lo + 1) else None) parts.0 ∙ given.1)

slice_given : (hi lo : ℕ) (ts : List Ty) → length ts ≡ 1 → all_taken (signature.Slice hi lo) 0 None
    (map Some ts) ≡ true → SliceGiven hi lo ts
slice_given hi lo ts count taken = one_of_bits (SliceGiven hi lo) (signature.Slice hi lo) ts count
    (slice_bits hi lo) taken (slice_of_bits hi lo)

cat_bits : (at : ℕ) (t : Ty) → takes signature.Cat at None (Some t) ≡ true → (w : ℕ) ×
    (t ≡ ty.Bits w)
cat_bits at (ty.Bits w) taken = (w, refl)
cat_bits at ty.Unit taken = absurd (false≢true taken)
cat_bits at ty.Bool taken = absurd (false≢true taken)
cat_bits at (ty.Enum p) taken = absurd (false≢true taken)
cat_bits at (ty.Union p) taken = absurd (false≢true taken)
cat_bits at (ty.Rec p) taken = absurd (false≢true taken)

-- what is given of a join
abbrev CatGiven : List Ty → Type 0
CatGiven ts = AllByRecursion IsWide ts → widths_fit signature.Cat (map Some ts) ≡ true →
    IsFixed (type_given [] signature.Cat (map Some ts))

cat_of_bits : (v w : ℕ) → CatGiven (ty.Bits v ∷ ty.Bits w ∷ [])
cat_of_bits v w wide fit =
    let low = width_low v wide.0 in
    bits_given (v + w) (width_from (v + w) (omega (arith, low)) (leb-true (v + w) widest fit))

cat_given : (ts : List Ty) → length ts ≡ 2 → all_taken signature.Cat 0 None (map Some ts) ≡ true →
    CatGiven ts
cat_given [] count taken = absurd (omega (arith, count))
cat_given (t ∷ []) count taken = absurd (omega (arith, count))
cat_given (ty.Bits v ∷ u ∷ []) count taken =
    second u (and_parts (takes signature.Cat 1 (Some (ty.Bits v)) (Some u)) true taken).0 where
      second : (u : Ty) → takes signature.Cat 1 (Some (ty.Bits v)) (Some u) ≡ true →
          CatGiven (ty.Bits v ∷ u ∷ [])
      second (ty.Bits w) is = cat_of_bits v w
      second ty.Unit is = absurd (false≢true is)
      second ty.Bool is = absurd (false≢true is)
      second (ty.Enum p) is = absurd (false≢true is)
      second (ty.Union p) is = absurd (false≢true is)
      second (ty.Rec p) is = absurd (false≢true is)
cat_given (ty.Unit ∷ u ∷ []) count taken = absurd (false≢true taken)
cat_given (ty.Bool ∷ u ∷ []) count taken = absurd (false≢true taken)
cat_given (ty.Enum p ∷ u ∷ []) count taken = absurd (false≢true taken)
cat_given (ty.Union p ∷ u ∷ []) count taken = absurd (false≢true taken)
cat_given (ty.Rec p ∷ u ∷ []) count taken = absurd (false≢true taken)
cat_given (t ∷ u ∷ x ∷ ts) count taken = absurd (omega (arith, count))

-- an extension is to a width
abbrev pub IsStatedWidth : Signature → Type 0
IsStatedWidth (signature.Extension width) = is_width width ≡ true
IsStatedWidth _ = Unit {0}

-- the count of arguments, what each takes, and the widths
abbrev Taken : Op → List Ty → Type 0
Taken o ts = (length ts ≡ arity_of o) × (all_taken (signature_of o) 0 None (map Some ts) ≡ true) ×
    (widths_fit (signature_of o) (map Some ts) ≡ true)

-- an operation that is written, on arguments that it takes, has a type that something fixes
pub given_type : (o : Op) (ts : List Ty) → is_written o ≡ true → IsStatedWidth (signature_of o) →
    AllByRecursion IsWide ts → Taken o ts →
    IsFixed (type_given [] (signature_of o) (map Some ts))
given_type op.Not ts written stated wide taken = (ty.Bool, refl)
given_type op.And ts written stated wide taken = (ty.Bool, refl)
given_type op.Or ts written stated wide taken = (ty.Bool, refl)
given_type op.Eq ts written stated wide taken = (ty.Bool, refl)
given_type op.Ult ts written stated wide taken = (ty.Bool, refl)
given_type op.Ule ts written stated wide taken = (ty.Bool, refl)
given_type op.Slt ts written stated wide taken = (ty.Bool, refl)
given_type op.Sle ts written stated wide taken = (ty.Bool, refl)
given_type (op.Slice hi lo) ts written stated wide taken = slice_given hi lo ts taken.0 taken.1 wide
    taken.2
given_type op.Cat ts written stated wide taken = cat_given ts taken.0 taken.1 wide taken.2
given_type (op.Zext width) ts written stated wide taken = bits_given width stated
given_type (op.Sext width) ts written stated wide taken = bits_given width stated
given_type op.Ite ts written stated wide taken = choice_given ts taken.0 taken.1
given_type (op.Get of field) ts written stated wide taken = absurd (false≢true written)
given_type _ ts written stated wide taken = arithmetic_given ts (let count = taken.0 in
    omega (arith, count)) taken.1
