-- Powers of two, and the operations on machine words as arithmetic.
use Rattle.std.proofs.Common.{◌≡◌, ℕ, ◌+◌, ◌-◌, ◌*◌, ◌/◌, ◌%◌, ◌^◌, ◌<◌, ◌≤◌, bit_and, bit_or, inl, inr, if◌then◌else◌, nat_lt, sym, ap, subst, ◌∙◌, arith}
use Rattle.std.proofs.Math.Nat.{pow-le-pow_right, div-lt_iff_lt-mul, div-eq_of_lt, div-le_self, mod-lt, mod-eq_of_lt, add-mul-mod_self_right, zero-mul}
use Rattle.std.proofs.lemmas.Bool.{cases_lt, cases_Bool, cond-true, cond-false, lt-ltb, le-ltb, le-leb}
use Rattle.std.proofs.Math.Pow.{mod-mod-pow}
use Rattle.std.proofs.lemmas.Nat.{pow_pos, pow-add, and_mask, or_shifted, div-mul-add, div-add-mod', mul-add-lt}
use Rattle.std.proofs.lemmas.Nat.Bits.{ones_shr}
use Rattle.kat_value.specs.Numbers.{sign_extended, has_top_bit}

-- a word of ones moved down
pub ones_of_width : (w : ℕ) → w ≤ 64 → 18446744073709551615 / 2 ^ (64 - w) + 1 ≡ 2 ^ w
ones_of_width w small =
    let back : 64 - (64 - w) ≡ w = omega arith in
    let moved : 18446744073709551615 / 2 ^ (64 - w) ≡ 2 ^ w - 1 = ones_shr 64 (64 - w) (omega arith) ∙ ap (λ k. 2 ^ k - 1) back in
    omega (arith, moved, pow_pos w)

-- a mask of ones keeps the lowest bits
pub masked : (n m w : ℕ) → m + 1 ≡ 2 ^ w → bit_and n m ≡ n % 2 ^ w
masked n m w ones =
    let mask : m ≡ 2 ^ w - 1 = omega arith in
    ap (bit_and n) mask ∙ and_mask n w

-- the lowest bits of a word are those of the number that it was cut from
pub low_bits_of_word : (n w : ℕ) → w ≤ 64 → n % 2 ^ 64 % 2 ^ w ≡ n % 2 ^ w
low_bits_of_word n w small =
    let whole : (64 - w) + w ≡ 64 = omega arith in
    subst (λ k. n % 2 ^ k % 2 ^ w ≡ n % 2 ^ w) whole (mod-mod-pow n (64 - w) w)

-- the longer width has the greater power
pub pow_of_longer : (w v : ℕ) → w ≤ v → 2 ^ w ≤ 2 ^ v
pow_of_longer w v longer = pow-le-pow_right (omega arith) longer

-- a difference that wraps at a word, in its lowest bits
pub low_difference : (a b w : ℕ) → w ≤ 64 → b < 2 ^ w → (a + (2 ^ 64 - b)) % 2 ^ 64 % 2 ^ w ≡ (a + (2 ^ w - b)) % 2 ^ w
low_difference a b w small below =
    let whole : (64 - w) + w ≡ 64 = omega arith in
    let one_less : 2 ^ (64 - w) ≡ (2 ^ (64 - w) - 1) + 1 = omega (arith, pow_pos (64 - w)) in
    let parts : 2 ^ 64 ≡ ((2 ^ (64 - w) - 1) + 1) * 2 ^ w =
    sym (ap (λ k. 2 ^ k) whole) ∙ pow-add 2 (64 - w) w ∙ ap (λ n. n * 2 ^ w) one_less in
    let more : 2 ^ w ≤ 2 ^ 64 = pow_of_longer w 64 small in
    let split : a + (2 ^ 64 - b) ≡ (a + (2 ^ w - b)) + (2 ^ (64 - w) - 1) * 2 ^ w = omega arith in
    low_bits_of_word (a + (2 ^ 64 - b)) w small
    ∙ ap (λ n. n % 2 ^ w) split
    ∙ add-mul-mod_self_right (a + (2 ^ w - b)) (2 ^ (64 - w) - 1) (2 ^ w)

-- two numbers one above the other
pub joined_below : (a b v w : ℕ) → a < 2 ^ v → b < 2 ^ w → a * 2 ^ w + b < 2 ^ (v + w)
joined_below a b v w high low =
    omega (arith, mul-add-lt a (2 ^ w) b (2 ^ v) (omega arith) (omega arith), pow-add 2 v w)

-- a number moved up within a word
pub moved_up : (a w : ℕ) → w ≤ 64 → a < 2 ^ (64 - w) → (if nat_lt w 64 then (a * 2 ^ w) % 2 ^ 64 else 0) ≡ a * 2 ^ w
moved_up a w small fits =
    let whole : (64 - w) + w ≡ 64 = omega arith in
    let joined : a * 2 ^ w + 0 < 2 ^ ((64 - w) + w) = joined_below a 0 (64 - w) w fits (pow_pos w) in
    let within : a * 2 ^ w < 2 ^ 64 = omega (arith, subst (λ k. a * 2 ^ w + 0 < 2 ^ k) whole joined) in
    elim (cases_lt w 64) [
      | inl less ↦ cond-true (nat_lt w 64) _ _ (lt-ltb w 64 less) ∙ mod-eq_of_lt within
      | inr least ↦
          let all : w ≡ 64 = omega arith in
          let none : 64 - w ≡ 0 = omega arith in
          let empty : a < 1 = subst (λ k. a < 2 ^ k) none fits in
          let zero : a ≡ 0 = omega arith in
          cond-false (nat_lt w 64) _ _ (le-ltb w 64 least) ∙ sym (ap (λ n. n * 2 ^ w) zero ∙ zero-mul (2 ^ w))
    ]

-- a number moved down within a word
pub moved_down : (n w k : ℕ) → w ≤ 64 → n < 2 ^ w → (if nat_lt k 64 then n / 2 ^ k else 0) ≡ n / 2 ^ k
moved_down n w k small below =
    elim (cases_lt k 64) [
      | inl less ↦ cond-true (nat_lt k 64) _ _ (lt-ltb k 64 less)
      | inr least ↦
          let gone : n < 2 ^ k = omega (arith, pow_of_longer w k (omega arith)) in
          cond-false (nat_lt k 64) _ _ (le-ltb k 64 least) ∙ sym (div-eq_of_lt gone)
    ]

-- the complement of the complement moved down is the number moved down with ones above it
pub complement_moved_down : (n w k : ℕ) → n < 2 ^ w → (2 ^ w - 1) - ((2 ^ w - 1) - n) / 2 ^ k ≡ (n + (2 ^ (w + k) - 2 ^ w)) / 2 ^ k
complement_moved_down n w k below =
    let m : ℕ = (2 ^ w - 1) - n in
    let q : ℕ = m / 2 ^ k in
    let r : ℕ = m % 2 ^ k in
    let parts : q * 2 ^ k + r ≡ m = div-add-mod' m (2 ^ k) in
    let small : r < 2 ^ k = mod-lt m (pow_pos k) in
    let less : q ≤ m = div-le_self m (2 ^ k) in
    let t : ℕ = (2 ^ w - 1) - q in
    let top : 2 ^ w ≡ (t + q) + 1 = omega arith in
    let longer : 2 ^ w ≤ 2 ^ (w + k) = pow_of_longer w (w + k) (omega arith) in
    let whole : 2 ^ (w + k) ≡ ((t + q) + 1) * 2 ^ k = pow-add 2 w k ∙ ap (λ n. n * 2 ^ k) top in
    let moved : n + (2 ^ (w + k) - 2 ^ w) ≡ t * 2 ^ k + (2 ^ k - 1 - r) = omega arith in
    sym (ap (λ n. n / 2 ^ k) moved ∙ div-mul-add t (2 ^ k) (2 ^ k - 1 - r) (omega arith))

-- a number whose top bit is 1, with copies of it above
pub sign_extended_top : (w v n : ℕ) → 2 ^ (w - 1) ≤ n → sign_extended w v n ≡ n + (2 ^ v - 2 ^ w)
sign_extended_top w v n top = cond-true (has_top_bit w n) _ _ (le-leb (2 ^ (w - 1)) n top)

-- a longer number with the same sign is within its width
pub sign_extended_below : (w v n : ℕ) → n < 2 ^ w → w ≤ v → sign_extended w v n < 2 ^ v
sign_extended_below w v n below longer =
    let more : 2 ^ w ≤ 2 ^ v = pow_of_longer w v longer in
    elim (cases_Bool (has_top_bit w n)) [
      | inl top ↦ subst (λ x. x < 2 ^ v) (sym (cond-true (has_top_bit w n) (n + (2 ^ v - 2 ^ w)) n top)) (omega arith)
      | inr plain ↦ subst (λ x. x < 2 ^ v) (sym (cond-false (has_top_bit w n) (n + (2 ^ v - 2 ^ w)) n plain)) (omega arith)
    ]

-- and moved down again, within the first width
pub sign_moved_down_below : (w k n : ℕ) → n < 2 ^ w → sign_extended w (w + k) n / 2 ^ k < 2 ^ w
sign_moved_down_below w k n below =
    (div-lt_iff_lt-mul (pow_pos k)).1 (subst (λ x. sign_extended w (w + k) n < x) (pow-add 2 w k) (sign_extended_below w (w + k) n below (omega arith)))

-- the first of two numbers moved above the second, in one word
pub joined_in_word : (a b w : ℕ) → w ≤ 64 → a < 2 ^ (64 - w) → b < 2 ^ w → bit_or (if nat_lt w 64 then (a * 2 ^ w) % 2 ^ 64 else 0) b ≡ a * 2 ^ w + b
joined_in_word a b w small fits below = ap (λ n. bit_or n b) (moved_up a w small fits) ∙ or_shifted a w b below
