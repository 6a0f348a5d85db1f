-- The numbers that the fields of an instruction hold.
use Rattle.std.specs.Prelude.{◌≡◌, ◌<◌, ◌+◌, ◌-◌, ◌%◌, ℕ, ℤ, pos, negsuc, nat_lt, if◌then◌else◌}

-- the two's complement reading of a number below twice the half
abbrev pub signed_of : ℕ → ℕ → ℤ
signed_of half n = if nat_lt n half then pos n else negsuc (half + half - (n + 1))

-- the number below twice the half whose reading in two's complement this is
abbrev pub unsigned_of : ℕ → ℤ → ℕ
unsigned_of half (pos n) = n
unsigned_of half (negsuc n) = half + half - (n + 1)

-- a number that is not negative
abbrev pub natural_of : ℤ → ℕ
natural_of (pos n) = n
natural_of (negsuc n) = 0

-- a number of so many bits, the highest of which is the sign
abbrev pub IsSigned : ℕ → ℤ → Type 0
IsSigned half (pos n) = n < half
IsSigned half (negsuc n) = n < half

-- the same, and even
abbrev pub IsEven : ℕ → ℤ → Type 0
IsEven half z = IsSigned half z × (unsigned_of half z % 2 ≡ 0)

-- a number below the bound
abbrev pub IsBelow : ℕ → ℤ → Type 0
IsBelow bound (pos n) = n < bound
IsBelow bound (negsuc n) = ⊥

-- the number of a register, 0 to 31
abbrev pub IsRegister : ℕ → Type 0
IsRegister n = n < 32

-- the number of a CSR, of 12 bits
abbrev pub IsCsr : ℕ → Type 0
IsCsr n = n < 4096

-- an immediate of 12 bits with a sign
abbrev pub IsImmediate : ℤ → Type 0
IsImmediate z = IsSigned 2048 z

-- an even offset of 13 bits with a sign
abbrev pub IsBranchOffset : ℤ → Type 0
IsBranchOffset z = IsEven 4096 z

-- an even offset of 21 bits with a sign
abbrev pub IsJumpOffset : ℤ → Type 0
IsJumpOffset z = IsEven 1048576 z

-- the upper 20 bits of a word, without a sign
abbrev pub IsUpper : ℤ → Type 0
IsUpper z = IsBelow 1048576 z

-- the amount of a shift, 0 to 31
abbrev pub IsAmount : ℤ → Type 0
IsAmount z = IsBelow 32 z
