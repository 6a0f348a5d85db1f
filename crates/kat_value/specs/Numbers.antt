-- The operations on bits, as arithmetic on whole numbers.
use Rattle.std.specs.Prelude.{ℕ, Bool, false, ◌+◌, ◌-◌, ◌*◌, ◌/◌, ◌%◌, ◌^◌, ◌<◌, ◌≤◌, ◌==◌, nat_lt, nat_le, if◌then◌else◌, min, bit_and, bit_or, bit_xor, ℤ, pos, ◌-ℤ◌, int_lt, int_le}
use Rattle.kat_value.specs.declared.op.Op.{Op}
use Rattle.kat_value.specs.declared.op.Op.TheVariants.{Not, And, Or, Eq, Ult, Ule, Slt, Sle, Add, Sub, Mul, Band, Bor, Bxor, Bnot, Shl, Shr, Sar, Slice, Cat, Zext, Sext, Ite, Get}
use Rattle.kat_value.specs.Widths.{widest, IsWidth}

-- 1 where a comparison holds, else 0
abbrev pub number_of_truth : Bool → ℕ
number_of_truth holds = if holds then 1 else 0

-- whether the top bit of a number of w bits is 1
abbrev pub has_top_bit : ℕ → ℕ → Bool
has_top_bit w n = nat_le (2 ^ (w - 1)) n

-- what the w bits of a number say in two's complement
abbrev pub signed : ℕ → ℕ → ℤ
signed w n = if has_top_bit w n then pos n -ℤ pos (2 ^ w) else pos n

-- a number of w bits with copies of its top bit above them, as a number of v bits
abbrev pub sign_extended : ℕ → ℕ → ℕ → ℕ
sign_extended w v n = if has_top_bit w n then n + (2 ^ v - 2 ^ w) else n

-- whether a comparison holds of two numbers of w bits; not where the operation is no comparison
abbrev pub truth_of_op : Op → ℕ → ℕ → ℕ → Bool
truth_of_op Eq w a b = a == b
truth_of_op Ult w a b = nat_lt a b
truth_of_op Ule w a b = nat_le a b
truth_of_op Slt w a b = int_lt (signed w a) (signed w b)
truth_of_op Sle w a b = int_le (signed w a) (signed w b)
truth_of_op _ w a b = false

-- the number that an operation on bits gives, 0 where it is no such operation; w is the width of
-- the arguments, for `Cat` of the second
abbrev pub number_of_op : Op → ℕ → ℕ → ℕ → ℕ
number_of_op Eq w a b = number_of_truth (truth_of_op Eq w a b)
number_of_op Ult w a b = number_of_truth (truth_of_op Ult w a b)
number_of_op Ule w a b = number_of_truth (truth_of_op Ule w a b)
number_of_op Slt w a b = number_of_truth (truth_of_op Slt w a b)
number_of_op Sle w a b = number_of_truth (truth_of_op Sle w a b)
number_of_op Add w a b = (a + b) % 2 ^ w
number_of_op Sub w a b = (a + (2 ^ w - b)) % 2 ^ w
number_of_op Mul w a b = (a * b) % 2 ^ w
number_of_op Band w a b = bit_and a b
number_of_op Bor w a b = bit_or a b
number_of_op Bxor w a b = bit_xor a b
number_of_op Bnot w a b = 2 ^ w - 1 - a
number_of_op Shl w a b = if nat_lt b w then (a * 2 ^ b) % 2 ^ w else 0
number_of_op Shr w a b = if nat_lt b w then a / 2 ^ b else 0
number_of_op Sar w a b = let k = min b w in sign_extended w (w + k) a / 2 ^ k
number_of_op (Slice hi lo) w a b = (a / 2 ^ lo) % 2 ^ (hi - lo + 1)
number_of_op Cat w a b = a * 2 ^ w + b
number_of_op (Zext v) w a b = a
number_of_op (Sext v) w a b = sign_extended w v a
number_of_op _ w a b = 0

-- a is a number of w bits
pub record IsNumber (w a : ℕ) : Type 0 where
  pub width : IsWidth w
  pub below : a < 2 ^ w

-- a and b are numbers of w bits
pub record AreNumbers (w a b : ℕ) : Type 0 where
  pub first : IsNumber w a
  pub second : IsNumber w b

-- the operation is one on bits, and takes these arguments without a fault; one with one argument
-- does not look at b
abbrev pub CanApply : Op → ℕ → ℕ → ℕ → Type 0
CanApply Not w a b = ⊥
CanApply And w a b = ⊥
CanApply Or w a b = ⊥
CanApply Ite w a b = ⊥
CanApply (Get of field) w a b = ⊥
CanApply Bnot w a b = IsNumber w a
CanApply (Slice hi lo) w a b = IsNumber w a × (lo ≤ hi) × (hi < w)
CanApply Cat w a b = IsNumber w b × (a < 2 ^ (widest - w))
CanApply (Zext v) w a b = IsNumber w a × (w ≤ v) × (v ≤ widest)
CanApply (Sext v) w a b = IsNumber w a × (w ≤ v) × (v ≤ widest)
CanApply _ w a b = AreNumbers w a b

-- the operation takes any two numbers of one width
abbrev pub TakesTwoNumbers : Op → Type 0
TakesTwoNumbers op = (w a b : ℕ) → AreNumbers w a b → CanApply op w a b

-- the width that an operation on numbers of w bits gives; 1 for a truth, and for `Cat`, whose first
-- width is not told, the greatest
abbrev pub width_of_op : Op → ℕ → ℕ
width_of_op Eq w = 1
width_of_op Ult w = 1
width_of_op Ule w = 1
width_of_op Slt w = 1
width_of_op Sle w = 1
width_of_op (Slice hi lo) w = hi - lo + 1
width_of_op Cat w = widest
width_of_op (Zext v) w = v
width_of_op (Sext v) w = v
width_of_op _ w = w
