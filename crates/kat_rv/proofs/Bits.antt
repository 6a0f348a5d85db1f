-- Immediates, and the parts of a word in which they lie.
use Rattle.std.proofs.Common.{◌≡◌, ◌∙◌, ℕ, ◌+◌, ◌-◌, ◌*◌, ◌/◌, ◌%◌, ◌<◌, ◌≤◌, ap, refl, arith}
use Rattle.std.proofs.Common.{true, false, if◌then◌else◌}
use Rattle.std.specs.Prelude.{ℤ, pos, negsuc, nat_lt}
use Rattle.std.proofs.lemmas.Bool.Decides.{nat_tests}
use Rattle.kat_rv.specs.Numbers.{IsSigned, signed_of, unsigned_of}
use Rattle.kat_rv.specs.Encoding.{high_part, low_part}

-- a number below the half is itself
signed_low : (half n : ℕ) → n < half → signed_of half n ≡ pos n
signed_low half n lt = grind (arith, nat_tests)

-- another is negative
signed_high : (half n : ℕ) → half ≤ n → signed_of half n ≡ negsuc (half + half - (n + 1))
signed_high half n le = grind (arith, nat_tests)

pub signed-unsigned : (half : ℕ) (z : ℤ) → IsSigned half z → signed_of half (unsigned_of half z) ≡ z
signed-unsigned half (pos n) h = signed_low half n h
signed-unsigned half (negsuc n) h =
    let at : half + half - (half + half - (n + 1) + 1) ≡ n = omega arith in
    signed_high half (half + half - (n + 1)) (omega arith) ∙ ap negsuc at

pub unsigned_below : (half : ℕ) (z : ℤ) → IsSigned half z → unsigned_of half z < half + half
unsigned_below half (pos n) h = omega arith
unsigned_below half (negsuc n) h = omega arith

pub unsigned-signed : (half n : ℕ) → n < half + half → unsigned_of half (signed_of half n) ≡ n
unsigned-signed half n lt =
    elim (nat_lt n half)
    as (λ b. (nat_lt n half ≡ b)
    → unsigned_of half (if b then pos n else negsuc (half + half - (n + 1))) ≡ n)
    [ true ↦ λ e. refl | false ↦ λ e. grind (arith, nat_tests) ] refl

pub is_signed : (half n : ℕ) → n < half + half → IsSigned half (signed_of half n)
is_signed half n lt =
    elim (nat_lt n half)
    as (λ b. (nat_lt n half ≡ b)
    → IsSigned half (if b then pos n else negsuc (half + half - (n + 1))))
    [ true ↦ λ e. grind (arith, nat_tests) | false ↦ λ e. grind (arith, nat_tests) ] refl

-- offsets of branches, by the parts r (rd) and f (funct7)
pub branch_low : (f r : ℕ) → r < 32 → f < 128
    → low_part (f / 64 * 4096 + r % 2 * 2048 + f % 64 * 32 + r / 2 * 2) ≡ r
branch_low f r lt less = omega arith

pub branch_high : (f r : ℕ) → r < 32 → f < 128
    → high_part 4096 (f / 64 * 4096 + r % 2 * 2048 + f % 64 * 32 + r / 2 * 2) ≡ f
branch_high f r lt less = omega arith

pub branch_number : (n : ℕ) → n < 8192 → n % 2 ≡ 0
    → high_part 4096 n / 64 * 4096 + low_part n % 2 * 2048 + high_part 4096 n % 64 * 32
    + low_part n / 2 * 2 ≡ n
branch_number n lt even = omega arith

-- the offset of a jump, by funct7, rs1, funct3 and rs2
abbrev pub jump_number_of : ℕ → ℕ → ℕ → ℕ → ℕ
jump_number_of f a c r =
    f / 64 * 1048576 + a * 32768 + c * 4096 + r % 2 * 2048 + f % 64 * 32 + r / 2 * 2

pub jump_low : (f a c r : ℕ) → f < 128 → a < 32 → c < 8 → r < 32
    → low_part (jump_number_of f a c r) ≡ r
jump_low f a c r p q s t = omega arith

pub jump_high : (f a c r : ℕ) → f < 128 → a < 32 → c < 8 → r < 32
    → high_part 1048576 (jump_number_of f a c r) ≡ f
jump_high f a c r p q s t = omega arith

pub jump_funct3 : (f a c r : ℕ) → f < 128 → a < 32 → c < 8 → r < 32
    → jump_number_of f a c r / 4096 % 8 ≡ c
jump_funct3 f a c r p q s t = omega arith

pub jump_rs1 : (f a c r : ℕ) → f < 128 → a < 32 → c < 8 → r < 32
    → jump_number_of f a c r / 32768 % 32 ≡ a
jump_rs1 f a c r p q s t = omega arith

pub jump_number : (n : ℕ) → n < 2097152 → n % 2 ≡ 0
    → jump_number_of (high_part 1048576 n) (n / 32768 % 32) (n / 4096 % 8) (low_part n) ≡ n
jump_number n lt even = omega arith

pub branch_high_below : (n : ℕ) → n < 8192 → high_part 4096 n < 128
branch_high_below n lt = omega arith

pub jump_high_below : (n : ℕ) → n < 2097152 → high_part 1048576 n < 128
jump_high_below n lt = omega arith

pub low_below : (n : ℕ) → low_part n < 32
low_below n = omega arith
