-- What the operations on numbers give is a number of its width.
use Rattle.std.proofs.Common.{◌≡◌, ℕ, ◌+◌, ◌-◌, ◌*◌, ◌/◌, ◌%◌, ◌^◌, ◌<◌, ◌≤◌, Bool, true, false, sym, subst, if◌then◌else◌, arith, nat_lt, nat_le, inl, inr}
use Rattle.std.specs.Prelude.{min}
use Rattle.std.specs.Int.Bits.{and_lt, or_lt, xor_lt}
use Rattle.std.proofs.Math.Nat.{mod-lt, div-le_self, div-lt_iff_lt-mul, pow-le-pow_right}
use Rattle.std.proofs.lemmas.Nat.{pow_pos, pow-add, mul-add-lt}
use Rattle.std.proofs.lemmas.Bool.{cases_Bool, cond-true, cond-false, and_parts, and_from, lt-ltb, leb-true, le-leb, ltb-true}
use Rattle.kat_value.specs.declared.op.Op.TheVariants.{Add, Sub, Mul, Band, Bor, Bxor, Bnot, Shl, Shr, Sar, Slice, Cat}
use Rattle.kat_value.specs.Numbers.{has_top_bit, sign_extended, number_of_op}
use Rattle.kat_value.specs.Widths.{is_number}
use Rattle.kat_value.specs.Widths.{widest, is_width}
use Rattle.kat_rules.proofs.OrderLaws.{below, number_of_less}

width_of_number : (w n : ℕ) → is_number w n ≡ true → is_width w ≡ true
width_of_number w n is = (and_parts (is_width w) (nat_lt n (2 ^ w)) is).0

positive_of : (w n : ℕ) → is_number w n ≡ true → 1 ≤ w
positive_of w n is = leb-true 1 w (and_parts (nat_le 1 w) (nat_le w widest) (width_of_number w n is)).0

number_from : (w n : ℕ) → 1 ≤ w → nat_le w widest ≡ true → n < 2 ^ w → is_number w n ≡ true
number_from w n positive small less =
    and_from (is_width w) (nat_lt n (2 ^ w)) (and_from (nat_le 1 w) (nat_le w widest) (le-leb 1 w positive) small) (lt-ltb n (2 ^ w) less)

-- the longer width has the greater power
pow_of_longer : (w v : ℕ) → w ≤ v → 2 ^ w ≤ 2 ^ v
pow_of_longer w v longer = pow-le-pow_right (omega arith) longer

-- a longer number with the same sign is within its width
sign_extended_below : (w v n : ℕ) → n < 2 ^ w → w ≤ v → sign_extended w v n < 2 ^ v
sign_extended_below w v n less longer =
    let more : 2 ^ w ≤ 2 ^ v = pow_of_longer w v longer in
    elim (cases_Bool (has_top_bit w n)) [
      | inl top ↦ subst (λ x. x < 2 ^ v) (sym (cond-true (has_top_bit w n) (n + (2 ^ v - 2 ^ w)) n top)) (omega arith)
      | inr plain ↦ subst (λ x. x < 2 ^ v) (sym (cond-false (has_top_bit w n) (n + (2 ^ v - 2 ^ w)) n plain)) (omega arith)
    ]

-- an operation that gives numbers of the width of its arguments
abbrev pub KeepsWidth : (ℕ → ℕ → ℕ → ℕ) → Type 0
KeepsWidth f = (w m n : ℕ) → is_number w m ≡ true → is_number w n ≡ true → is_number w (f w m n) ≡ true

keeps_from : (f : ℕ → ℕ → ℕ → ℕ) → ((w m n : ℕ) → m < 2 ^ w → n < 2 ^ w → f w m n < 2 ^ w) → KeepsWidth f
keeps_from f less w m n first second = number_of_less w m (f w m n) first (less w m n (below w m first) (below w n second))

pub add_keeps : KeepsWidth (number_of_op Add)
add_keeps = keeps_from (number_of_op Add) (λ w m n a b. mod-lt (m + n) (pow_pos w))

pub sub_keeps : KeepsWidth (number_of_op Sub)
sub_keeps = keeps_from (number_of_op Sub) (λ w m n a b. mod-lt (m + (2 ^ w - n)) (pow_pos w))

pub mul_keeps : KeepsWidth (number_of_op Mul)
mul_keeps = keeps_from (number_of_op Mul) (λ w m n a b. mod-lt (m * n) (pow_pos w))

pub band_keeps : KeepsWidth (number_of_op Band)
band_keeps = keeps_from (number_of_op Band) (λ w m n a b. and_lt w m n a b)

pub bor_keeps : KeepsWidth (number_of_op Bor)
bor_keeps = keeps_from (number_of_op Bor) (λ w m n a b. or_lt w m n a b)

pub bxor_keeps : KeepsWidth (number_of_op Bxor)
bxor_keeps = keeps_from (number_of_op Bxor) (λ w m n a b. xor_lt w m n a b)

shl_within : (w m n : ℕ) → m < 2 ^ w → n < 2 ^ w → number_of_op Shl w m n < 2 ^ w
shl_within w m n a b = by (nat_lt n w) where
  by : (c : Bool) → (if c then (m * 2 ^ n) % 2 ^ w else 0) < 2 ^ w
  by true = mod-lt (m * 2 ^ n) (pow_pos w)
  by false = pow_pos w

pub shl_keeps : KeepsWidth (number_of_op Shl)
shl_keeps = keeps_from (number_of_op Shl) shl_within

shr_within : (w m n : ℕ) → m < 2 ^ w → n < 2 ^ w → number_of_op Shr w m n < 2 ^ w
shr_within w m n a b = by (nat_lt n w) where
  by : (c : Bool) → (if c then m / 2 ^ n else 0) < 2 ^ w
  by true = let less : m / 2 ^ n ≤ m = div-le_self m (2 ^ n) in omega (arith, less, a)
  by false = pow_pos w

pub shr_keeps : KeepsWidth (number_of_op Shr)
shr_keeps = keeps_from (number_of_op Shr) shr_within

sar_within : (w m n : ℕ) → m < 2 ^ w → n < 2 ^ w → number_of_op Sar w m n < 2 ^ w
sar_within w m n a b =
    let k : ℕ = min n w in
    (div-lt_iff_lt-mul (pow_pos k)).1 (subst (λ x. sign_extended w (w + k) m < x) (pow-add 2 w k) (sign_extended_below w (w + k) m a (omega arith)))

pub sar_keeps : KeepsWidth (number_of_op Sar)
sar_keeps = keeps_from (number_of_op Sar) sar_within

pub bnot_keeps : (w m : ℕ) → is_number w m ≡ true → is_number w (number_of_op Bnot w m 0) ≡ true
bnot_keeps w m is = number_of_less w m (2 ^ w - 1 - m) is (omega (arith, pow_pos w))

-- the slice of a number, which stands within it
pub slice_number : (hi lo w m : ℕ) → is_number w m ≡ true → (nat_le lo hi ≡ true) × (nat_lt hi w ≡ true) → is_number (hi - lo + 1) (number_of_op (Slice hi lo) w m 0) ≡ true
slice_number hi lo w m is within =
    let small : w ≤ 64 = leb-true w widest (and_parts (nat_le 1 w) (nat_le w widest) (width_of_number w m is)).1 in
    let less : hi < w = ltb-true hi w within.1 in
    number_from (hi - lo + 1) ((m / 2 ^ lo) % 2 ^ (hi - lo + 1)) (omega arith) (le-leb (hi - lo + 1) widest (let e : hi - lo + 1 ≤ 64 = omega (arith, small, less) in e))
    (mod-lt (m / 2 ^ lo) (pow_pos (hi - lo + 1)))

-- two numbers one above the other
pub cat_number : (v w a b : ℕ) → is_number v a ≡ true → is_number w b ≡ true → nat_le (v + w) widest ≡ true → is_number (v + w) (number_of_op Cat w a b) ≡ true
cat_number v w a b high low small =
    let above : a < 2 ^ v = below v a high in
    let under : b < 2 ^ w = below w b low in
    number_from (v + w) (a * 2 ^ w + b) (let p : 1 ≤ v = positive_of v a high in omega (arith, p)) small
    (omega (arith, mul-add-lt a (2 ^ w) b (2 ^ v) (omega arith) (omega arith), pow-add 2 v w))

-- a number with zeros above it, and with copies of its top bit
longer_positive : (v w m : ℕ) → is_number w m ≡ true → nat_le w v ≡ true → 1 ≤ v
longer_positive v w m is longer = let p : 1 ≤ w = positive_of w m is in let l : w ≤ v = leb-true w v longer in omega (arith, p, l)

pub zext_number : (v w m : ℕ) → is_number w m ≡ true → (nat_le w v ≡ true) × (nat_le v widest ≡ true) → is_number v m ≡ true
zext_number v w m is taken =
    let l : 2 ^ w ≤ 2 ^ v = pow_of_longer w v (leb-true w v taken.0) in
    let less : m < 2 ^ w = below w m is in
    number_from v m (longer_positive v w m is taken.0) taken.1 (omega (arith, l, less))

pub sext_number : (v w m : ℕ) → is_number w m ≡ true → (nat_le w v ≡ true) × (nat_le v widest ≡ true) → is_number v (sign_extended w v m) ≡ true
sext_number v w m is taken =
    number_from v (sign_extended w v m) (longer_positive v w m is taken.0) taken.1 (sign_extended_below w v m (below w m is) (leb-true w v taken.0))
