-- What the operations on numbers give is a number of its width.
use Rattle.std.proofs.Common.{◌≡◌, ℕ, ◌+◌, ◌-◌, ◌*◌, ◌/◌, ◌%◌, ◌^◌, ◌<◌, ◌≤◌, Bool, true, false, sym, subst, if◌then◌else◌, arith, nat_lt, nat_le, inl, inr}
use Rattle.std.specs.Prelude.{min}
use Rattle.std.specs.Int.Bits.{and_lt, or_lt, xor_lt}
use Rattle.std.proofs.Math.Nat.{mod-lt, div-le_self, div-lt_iff_lt-mul, pow-le-pow_right}
use Rattle.std.proofs.lemmas.Nat.{pow_pos, pow-add, mul-add-lt}
use Rattle.std.proofs.lemmas.Bool.{cases_Bool, cond-true, cond-false, and_parts, and_from, ltb-true, lt-ltb, leb-true, le-leb}
use Rattle.kat_value.specs.declared.op.Op.TheVariants.{Add, Sub, Mul, Band, Bor, Bxor, Bnot, Shl, Shr, Sar, Slice, Cat}
use Rattle.kat_value.specs.Numbers.{has_top_bit, sign_extended, number_of_op}
use Rattle.kat_value.specs.Widths.{is_number, widest, is_width}

-- the parts of a number
pub width_of : (w n : ℕ) → is_number w n ≡ true → is_width w ≡ true
width_of w n is = (and_parts (is_width w) (nat_lt n (2 ^ w)) is).0

pub below_of : (w n : ℕ) → is_number w n ≡ true → n < 2 ^ w
below_of w n is = ltb-true n (2 ^ w) (and_parts (is_width w) (nat_lt n (2 ^ w)) is).1

pub positive_of : (w n : ℕ) → is_number w n ≡ true → 1 ≤ w
positive_of w n is = leb-true 1 w (and_parts (nat_le 1 w) (nat_le w widest) (width_of w n is)).0

pub number_from : (w n : ℕ) → is_width w ≡ true → n < 2 ^ w → is_number w n ≡ true
number_from w n width below = and_from (is_width w) (nat_lt n (2 ^ w)) width (lt-ltb n (2 ^ w) below)

pub width_from : (w : ℕ) → 1 ≤ w → nat_le w widest ≡ true → is_width w ≡ true
width_from w positive small = and_from (nat_le 1 w) (nat_le w widest) (le-leb 1 w positive) small

-- the longer width has the greater power
pow_of_longer : (w v : ℕ) → w ≤ v → 2 ^ w ≤ 2 ^ v
pow_of_longer w v longer = pow-le-pow_right (omega arith) longer

-- a longer number with the same sign is within its width
sign_extended_below : (w v n : ℕ) → n < 2 ^ w → w ≤ v → sign_extended w v n < 2 ^ v
sign_extended_below w v n below longer =
    let more : 2 ^ w ≤ 2 ^ v = pow_of_longer w v longer in
    elim (cases_Bool (has_top_bit w n)) [
      | inl top ↦ subst (λ x. x < 2 ^ v) (sym (cond-true (has_top_bit w n) (n + (2 ^ v - 2 ^ w)) n top)) (omega arith)
      | inr plain ↦ subst (λ x. x < 2 ^ v) (sym (cond-false (has_top_bit w n) (n + (2 ^ v - 2 ^ w)) n plain)) (omega arith)
    ]

-- an operation that gives numbers of the width of its arguments
abbrev pub KeepsWidth : (ℕ → ℕ → ℕ → ℕ) → Type 0
KeepsWidth f = (w m n : ℕ) → is_number w m ≡ true → is_number w n ≡ true → is_number w (f w m n) ≡ true

keeps_from : (f : ℕ → ℕ → ℕ → ℕ) → ((w m n : ℕ) → m < 2 ^ w → n < 2 ^ w → f w m n < 2 ^ w) → KeepsWidth f
keeps_from f below w m n first second = number_from w (f w m n) (width_of w m first) (below w m n (below_of w m first) (below_of w n second))

pub add_keeps : KeepsWidth (number_of_op Add)
add_keeps = keeps_from (number_of_op Add) (λ w m n a b. mod-lt (m + n) (pow_pos w))

pub sub_keeps : KeepsWidth (number_of_op Sub)
sub_keeps = keeps_from (number_of_op Sub) (λ w m n a b. mod-lt (m + (2 ^ w - n)) (pow_pos w))

pub mul_keeps : KeepsWidth (number_of_op Mul)
mul_keeps = keeps_from (number_of_op Mul) (λ w m n a b. mod-lt (m * n) (pow_pos w))

pub band_keeps : KeepsWidth (number_of_op Band)
band_keeps = keeps_from (number_of_op Band) (λ w m n a b. and_lt w m n a b)

pub bor_keeps : KeepsWidth (number_of_op Bor)
bor_keeps = keeps_from (number_of_op Bor) (λ w m n a b. or_lt w m n a b)

pub bxor_keeps : KeepsWidth (number_of_op Bxor)
bxor_keeps = keeps_from (number_of_op Bxor) (λ w m n a b. xor_lt w m n a b)

shl_below : (w m n : ℕ) → m < 2 ^ w → n < 2 ^ w → number_of_op Shl w m n < 2 ^ w
shl_below w m n a b = by (nat_lt n w) where
  by : (c : Bool) → (if c then (m * 2 ^ n) % 2 ^ w else 0) < 2 ^ w
  by true = mod-lt (m * 2 ^ n) (pow_pos w)
  by false = pow_pos w

pub shl_keeps : KeepsWidth (number_of_op Shl)
shl_keeps = keeps_from (number_of_op Shl) shl_below

shr_below : (w m n : ℕ) → m < 2 ^ w → n < 2 ^ w → number_of_op Shr w m n < 2 ^ w
shr_below w m n a b = by (nat_lt n w) where
  by : (c : Bool) → (if c then m / 2 ^ n else 0) < 2 ^ w
  by true = let less : m / 2 ^ n ≤ m = div-le_self m (2 ^ n) in omega (arith, less, a)
  by false = pow_pos w

pub shr_keeps : KeepsWidth (number_of_op Shr)
shr_keeps = keeps_from (number_of_op Shr) shr_below

sar_below : (w m n : ℕ) → m < 2 ^ w → n < 2 ^ w → number_of_op Sar w m n < 2 ^ w
sar_below w m n a b =
    let k : ℕ = min n w in
    (div-lt_iff_lt-mul (pow_pos k)).1 (subst (λ x. sign_extended w (w + k) m < x) (pow-add 2 w k) (sign_extended_below w (w + k) m a (omega arith)))

pub sar_keeps : KeepsWidth (number_of_op Sar)
sar_keeps = keeps_from (number_of_op Sar) sar_below

pub bnot_keeps : (w m : ℕ) → is_number w m ≡ true → is_number w (number_of_op Bnot w m 0) ≡ true
bnot_keeps w m is = number_from w (2 ^ w - 1 - m) (width_of w m is) (omega (arith, pow_pos w))

-- the slice of a number, which stands within it
pub slice_number : (hi lo w m : ℕ) → is_number w m ≡ true → nat_le lo hi ≡ true → nat_lt hi w ≡ true →
    (is_width (hi - lo + 1) ≡ true) × (is_number (hi - lo + 1) (number_of_op (Slice hi lo) w m 0) ≡ true)
slice_number hi lo w m is order within =
    let small : w ≤ 64 = leb-true w widest (and_parts (nat_le 1 w) (nat_le w widest) (width_of w m is)).1 in
    let less : hi < w = ltb-true hi w within in
    let width : is_width (hi - lo + 1) ≡ true = width_from (hi - lo + 1) (omega arith) (le-leb (hi - lo + 1) widest (let e : hi - lo + 1 ≤ 64 = omega (arith, small, less) in e)) in
    (width, number_from (hi - lo + 1) ((m / 2 ^ lo) % 2 ^ (hi - lo + 1)) width (mod-lt (m / 2 ^ lo) (pow_pos (hi - lo + 1))))

-- two numbers one above the other
pub cat_number : (v w a b : ℕ) → is_number v a ≡ true → is_number w b ≡ true → nat_le (v + w) widest ≡ true →
    (is_width (v + w) ≡ true) × (is_number (v + w) (number_of_op Cat w a b) ≡ true)
cat_number v w a b high low small =
    let width : is_width (v + w) ≡ true = width_from (v + w) (let p : 1 ≤ v = positive_of v a high in omega (arith, p)) small in
    let above : a < 2 ^ v = below_of v a high in
    let under : b < 2 ^ w = below_of w b low in
    (width, number_from (v + w) (a * 2 ^ w + b) width (omega (arith, mul-add-lt a (2 ^ w) b (2 ^ v) (omega arith) (omega arith), pow-add 2 v w)))

-- a number with zeros above it, and with copies of its top bit
pub longer_width : (v w m : ℕ) → is_number w m ≡ true → nat_le w v ≡ true → nat_le v widest ≡ true → is_width v ≡ true
longer_width v w m is longer small =
    width_from v (let p : 1 ≤ w = positive_of w m is in let l : w ≤ v = leb-true w v longer in omega (arith, p, l)) small

pub zext_number : (v w m : ℕ) → is_number w m ≡ true → nat_le w v ≡ true → nat_le v widest ≡ true → is_number v m ≡ true
zext_number v w m is longer small =
    let l : 2 ^ w ≤ 2 ^ v = pow_of_longer w v (leb-true w v longer) in
    let below : m < 2 ^ w = below_of w m is in
    number_from v m (longer_width v w m is longer small) (omega (arith, l, below))

pub sext_number : (v w m : ℕ) → is_number w m ≡ true → nat_le w v ≡ true → nat_le v widest ≡ true → is_number v (sign_extended w v m) ≡ true
sext_number v w m is longer small =
    number_from v (sign_extended w v m) (longer_width v w m is longer small) (sign_extended_below w v m (below_of w m is) (leb-true w v longer))
