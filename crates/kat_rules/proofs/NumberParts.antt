-- Runs of the bits of a number: k bits from bit lo on are n / 2 ^ lo % 2 ^ k.
use Rattle.std.proofs.Common.{◌≡◌, ◌∙◌, ℕ, ◌+◌, ◌-◌, ◌*◌, ◌/◌, ◌%◌, ◌^◌, ◌<◌, ◌≤◌, Bool, true, false, refl, ap, sym, subst, if◌then◌else◌, min, inl, inr, arith}
use Rattle.std.proofs.Math.Nat.{zero-mod, div-one, div-eq_of_lt, mod-eq_of_lt, mul_assoc, mul-mod_left, add-mul-mod_self_right, add-mul-div_right}
use Rattle.std.proofs.Math.Pow.{pow_mono, high_ones, field, mod-mod-pow}
use Rattle.std.proofs.lemmas.Bool.{cases_lt, le-leb, lt-leb, leb-true, leb-false}
use Rattle.std.proofs.lemmas.Nat.{pow_pos, pow-add, shr-shr, mod-pow-add, mod_low, shr_high, shr_below, div_below, le-div, shl-shr}
use Rattle.kat_value.specs.Numbers.{has_top_bit, sign_extended}

-- bits of the lower bits
pub part_of_low : (n lo k v : ℕ) → lo + k ≤ v → n % 2 ^ v / 2 ^ lo % 2 ^ k ≡ n / 2 ^ lo % 2 ^ k
part_of_low n lo k v within =
    let d : ℕ = v - lo - k in
    let whole : v ≡ (d + k) + lo = omega arith in
    ap (λ u. n % 2 ^ u / 2 ^ lo % 2 ^ k) whole ∙ ap (λ m. m % 2 ^ k) (field n (d + k) lo) ∙ mod-mod-pow (n / 2 ^ lo) d k

-- bits of bits
pub part_of_part : (n bottom k lo j : ℕ) → lo + j ≤ k → n / 2 ^ bottom % 2 ^ k / 2 ^ lo % 2 ^ j ≡ n / 2 ^ (lo + bottom) % 2 ^ j
part_of_part n bottom k lo j within =
    let turned : bottom + lo ≡ lo + bottom = omega arith in
    part_of_low (n / 2 ^ bottom) lo j k within ∙ ap (λ x. x % 2 ^ j) (shr-shr n bottom lo ∙ ap (λ u. n / 2 ^ u) turned)

-- bits of two numbers one above the other, that lie in the lower, in the upper, and in both
pub low_part : (m n v lo k : ℕ) → n < 2 ^ v → lo + k ≤ v → (m * 2 ^ v + n) / 2 ^ lo % 2 ^ k ≡ n / 2 ^ lo % 2 ^ k
low_part m n v lo k less within = sym (part_of_low (m * 2 ^ v + n) lo k v within) ∙ ap (λ x. x / 2 ^ lo % 2 ^ k) (mod_low m v n less)

pub high_part : (m n v lo k : ℕ) → n < 2 ^ v → v ≤ lo → (m * 2 ^ v + n) / 2 ^ lo % 2 ^ k ≡ m / 2 ^ (lo - v) % 2 ^ k
high_part m n v lo k less above =
    let whole : lo ≡ v + (lo - v) = omega arith in
    ap (λ u. (m * 2 ^ v + n) / 2 ^ u % 2 ^ k) whole
    ∙ ap (λ x. x % 2 ^ k) (sym (shr-shr (m * 2 ^ v + n) v (lo - v)) ∙ ap (λ x. x / 2 ^ (lo - v)) (shr_high m v n less))

pub both_parts : (m n v lo j : ℕ) → n < 2 ^ v → lo < v → (m * 2 ^ v + n) / 2 ^ lo % 2 ^ (j + (v - lo)) ≡ (m % 2 ^ j) * 2 ^ (v - lo) + n / 2 ^ lo % 2 ^ (v - lo)
both_parts m n v lo j less inside =
    let x : ℕ = m * 2 ^ v + n in
    let whole : lo + (v - lo) ≡ v = omega arith in
    let top : x / 2 ^ lo / 2 ^ (v - lo) ≡ m = shr-shr x lo (v - lo) ∙ ap (λ u. x / 2 ^ u) whole ∙ shr_high m v n less in
    mod-pow-add (x / 2 ^ lo) j (v - lo)
    ∙ ap (λ y. y % 2 ^ j * 2 ^ (v - lo) + x / 2 ^ lo % 2 ^ (v - lo)) top
    ∙ ap (λ y. m % 2 ^ j * 2 ^ (v - lo) + y) (low_part m n v lo (v - lo) less (omega arith))

-- bits above a number, all of its bits, and its upper bits
pub no_part : (n v lo k : ℕ) → n < 2 ^ v → v ≤ lo → n / 2 ^ lo % 2 ^ k ≡ 0
no_part n v lo k less above =
    let more : 2 ^ v ≤ 2 ^ lo = pow_mono above in
    let gone : n < 2 ^ lo = omega (arith, less, more) in
    ap (λ x. x % 2 ^ k) (div-eq_of_lt gone) ∙ zero-mod (2 ^ k)

pub whole_part : (n w : ℕ) → n < 2 ^ w → n / 2 ^ 0 % 2 ^ w ≡ n
whole_part n w less = ap (λ x. x % 2 ^ w) (div-one n) ∙ mod-eq_of_lt less

pub top_part : (n v lo k : ℕ) → n < 2 ^ v → v ≤ k + lo → n / 2 ^ lo % 2 ^ k ≡ n / 2 ^ lo
top_part n v lo k less within =
    let more : 2 ^ v ≤ 2 ^ (k + lo) = pow_mono within in
    mod-eq_of_lt (shr_below n k lo (omega (arith, less, more)))

-- bits that follow one another
pub joined_parts : (n lo j k : ℕ) → (n / 2 ^ (lo + k) % 2 ^ j) * 2 ^ k + n / 2 ^ lo % 2 ^ k ≡ n / 2 ^ lo % 2 ^ (j + k)
joined_parts n lo j k = sym (mod-pow-add (n / 2 ^ lo) j k ∙ ap (λ y. y % 2 ^ j * 2 ^ k + n / 2 ^ lo % 2 ^ k) (shr-shr n lo k))

-- a number moved up
pub moved_up : (a n j : ℕ) → (a * 2 ^ n) % 2 ^ (j + n) ≡ (a / 2 ^ 0 % 2 ^ j) * 2 ^ n + 0
moved_up a n j =
    let low : (a * 2 ^ n) % 2 ^ n ≡ 0 = mul-mod_left a (2 ^ n) in
    mod-pow-add (a * 2 ^ n) j n
    ∙ ap (λ x. x % 2 ^ j * 2 ^ n + (a * 2 ^ n) % 2 ^ n) (shl-shr a n ∙ sym (div-one a))
    ∙ ap (λ x. a / 2 ^ 0 % 2 ^ j * 2 ^ n + x) low

-- copies of the top bit
pub extended_to_own : (w n : ℕ) → sign_extended w w n ≡ n
extended_to_own w n = by (has_top_bit w n) where
  by : (b : Bool) → (if b then n + (2 ^ w - 2 ^ w) else n) ≡ n
  by true = omega arith
  by false = refl

pub extended_low : (v w n : ℕ) → n < 2 ^ v → v ≤ w → sign_extended v w n % 2 ^ v ≡ n
extended_low v w n less longer = by (has_top_bit v n) where
  by : (b : Bool) → (if b then n + (2 ^ w - 2 ^ v) else n) % 2 ^ v ≡ n
  by true =
      let whole : w ≡ (w - v) + v = omega arith in
      ap (λ u. (n + (2 ^ u - 2 ^ v)) % 2 ^ v) whole ∙ ap (λ x. (n + x) % 2 ^ v) (high_ones (w - v) v)
      ∙ add-mul-mod_self_right n (2 ^ (w - v) - 1) (2 ^ v) ∙ mod-eq_of_lt less
  by false = mod-eq_of_lt less

pub extended_part : (v w n lo k : ℕ) → n < 2 ^ v → v ≤ w → lo + k ≤ v → sign_extended v w n / 2 ^ lo % 2 ^ k ≡ n / 2 ^ lo % 2 ^ k
extended_part v w n lo k less longer within =
    sym (part_of_low (sign_extended v w n) lo k v within) ∙ ap (λ x. x / 2 ^ lo % 2 ^ k) (extended_low v w n less longer)

pub extended_below : (v w n : ℕ) → n < 2 ^ v → v ≤ w → sign_extended v w n < 2 ^ w
extended_below v w n less longer = by (has_top_bit v n) where
  more : 2 ^ v ≤ 2 ^ w
  more = pow_mono longer

  by : (b : Bool) → (if b then n + (2 ^ w - 2 ^ v) else n) < 2 ^ w
  by true = omega (arith, more, less)
  by false = omega (arith, more, less)

-- the top bit of the upper bits is that of the number
top_bit_stays : (w k a : ℕ) → k < w → has_top_bit (w - k) (a / 2 ^ k) ≡ has_top_bit w a
top_bit_stays w k a inside =
    let whole : w - 1 ≡ (w - k - 1) + k = omega arith in
    let product : 2 ^ (w - 1) ≡ 2 ^ (w - k - 1) * 2 ^ k = ap (λ u. 2 ^ u) whole ∙ pow-add 2 (w - k - 1) k in
    elim (cases_lt a (2 ^ (w - 1))) [
      | inl less ↦
          let small : a / 2 ^ k < 2 ^ (w - k - 1) = div_below a (2 ^ k) (2 ^ (w - k - 1)) (pow_pos k) (subst (λ x. a < x) product less) in
          lt-leb (2 ^ (w - k - 1)) (a / 2 ^ k) small ∙ sym (lt-leb (2 ^ (w - 1)) a less)
      | inr least ↦
          let large : 2 ^ (w - k - 1) ≤ a / 2 ^ k = le-div (2 ^ (w - k - 1)) a (2 ^ k) (pow_pos k) (subst (λ x. x ≤ a) product least) in
          le-leb (2 ^ (w - k - 1)) (a / 2 ^ k) large ∙ sym (le-leb (2 ^ (w - 1)) a least)
    ]

-- a number with copies of its top bit above it, moved down
moved_with_top : (w m a : ℕ) → m ≤ w → (a + (2 ^ (w + m) - 2 ^ w)) / 2 ^ m ≡ a / 2 ^ m + (2 ^ w - 2 ^ (w - m))
moved_with_top w m a within =
    let turned : w + m ≡ m + w = omega arith in
    let whole : w ≡ (w - m) + m = omega arith in
    let same : w ≡ m + (w - m) = omega arith in
    let product : 2 ^ (w + m) - 2 ^ w ≡ (2 ^ w - 2 ^ (w - m)) * 2 ^ m =
    ap (λ u. 2 ^ u - 2 ^ w) turned ∙ high_ones m w ∙ ap (λ x. (2 ^ m - 1) * x) (ap (λ u. 2 ^ u) whole ∙ pow-add 2 (w - m) m)
    ∙ sym (mul_assoc (2 ^ m - 1) (2 ^ (w - m)) (2 ^ m)) ∙ ap (λ x. x * 2 ^ m) (sym (ap (λ u. 2 ^ u - 2 ^ (w - m)) same ∙ high_ones m (w - m))) in
    ap (λ x. (a + x) / 2 ^ m) product ∙ add-mul-div_right a (2 ^ w - 2 ^ (w - m)) (pow_pos m)

moved_within : (w n a : ℕ) → n < w → sign_extended w (w + n) a / 2 ^ n ≡ sign_extended (w - n) w (a / 2 ^ n)
moved_within w n a inside =
    by (has_top_bit w a) ∙ ap (λ b. if b then a / 2 ^ n + (2 ^ w - 2 ^ (w - n)) else a / 2 ^ n) (sym (top_bit_stays w n a inside)) where
      by : (b : Bool) → (if b then a + (2 ^ (w + n) - 2 ^ w) else a) / 2 ^ n ≡ (if b then a / 2 ^ n + (2 ^ w - 2 ^ (w - n)) else a / 2 ^ n)
      by true = moved_with_top w n a (omega (arith, inside))
      by false = refl

moved_past : (w a : ℕ) → 0 < w → a < 2 ^ w → sign_extended w (w + w) a / 2 ^ w ≡ sign_extended (w - (w - 1)) w (a / 2 ^ (w - 1))
moved_past w a positive less =
    by (has_top_bit w a) refl
    ∙ ap (λ b. if b then a / 2 ^ (w - 1) + (2 ^ w - 2 ^ (w - (w - 1))) else a / 2 ^ (w - 1)) (sym (top_bit_stays w (w - 1) a (omega (arith, positive)))) where
      gone : a / 2 ^ w ≡ 0
      gone = div-eq_of_lt less

      double : 2 ^ w ≡ 2 ^ (w - 1) * 2
      double = let whole : w ≡ (w - 1) + 1 = omega (arith, positive) in ap (λ u. 2 ^ u) whole ∙ pow-add 2 (w - 1) 1

      by : (b : Bool) → has_top_bit w a ≡ b →
          (if b then a + (2 ^ (w + w) - 2 ^ w) else a) / 2 ^ w ≡ (if b then a / 2 ^ (w - 1) + (2 ^ w - 2 ^ (w - (w - 1))) else a / 2 ^ (w - 1))
      by true is =
          let least : 2 ^ (w - 1) ≤ a = leb-true (2 ^ (w - 1)) a is in
          let last : w - (w - 1) ≡ 1 = omega (arith, positive) in
          let none : w - w ≡ 0 = omega arith in
          let one : 2 ^ (w - w) ≡ 1 = ap (λ u. 2 ^ u) none in
          let two : 2 ^ (w - (w - 1)) ≡ 2 = ap (λ u. 2 ^ u) last in
          let large : 1 ≤ a / 2 ^ (w - 1) = le-div 1 a (2 ^ (w - 1)) (pow_pos (w - 1)) (omega (arith, least)) in
          let small : a / 2 ^ (w - 1) < 2 = div_below a (2 ^ (w - 1)) 2 (pow_pos (w - 1)) (omega (arith, less, double)) in
          moved_with_top w w a (omega arith)
          ∙ ap (λ x. x + (2 ^ w - 2 ^ (w - w))) gone
          ∙ ap (λ x. 0 + (2 ^ w - x)) one
          ∙ sums (a / 2 ^ (w - 1)) (2 ^ w) (2 ^ (w - 1)) large small double (pow_pos (w - 1))
          ∙ ap (λ x. a / 2 ^ (w - 1) + (2 ^ w - x)) (sym two) where
            sums : (q p h : ℕ) → 1 ≤ q → q < 2 → p ≡ h * 2 → 0 < h → 0 + (p - 1) ≡ q + (p - 2)
            sums q p h large small double positive = omega (arith, large, small, double, positive)
      by false is =
          let few : a < 2 ^ (w - 1) = leb-false (2 ^ (w - 1)) a is in
          gone ∙ sym (div-eq_of_lt few)

-- the number that a shift down with copies of the top bit gives, as the lower bits of its slice
pub moved_signed : (w n a : ℕ) → 0 < w → a < 2 ^ w → sign_extended w (w + min n w) a / 2 ^ min n w ≡ sign_extended (w - min n (w - 1)) w (a / 2 ^ min n (w - 1))
moved_signed w n a positive less =
    elim (cases_lt n w) [
      | inl inside ↦
          let p : min n w ≡ n = omega (arith, inside) in
          let q : min n (w - 1) ≡ n = omega (arith, inside) in
          ap (λ m. sign_extended w (w + m) a / 2 ^ m) p ∙ moved_within w n a inside ∙ ap (λ m. sign_extended (w - m) w (a / 2 ^ m)) (sym q)
      | inr past ↦
          let p : min n w ≡ w = omega (arith, past) in
          let q : min n (w - 1) ≡ w - 1 = omega (arith, past) in
          ap (λ m. sign_extended w (w + m) a / 2 ^ m) p ∙ moved_past w a positive less ∙ ap (λ m. sign_extended (w - m) w (a / 2 ^ m)) (sym q)
    ]
