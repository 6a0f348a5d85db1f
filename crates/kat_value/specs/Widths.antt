-- The widths of bits, and the numbers of a width.
use Rattle.std.specs.Prelude.{ℕ, Bool, ◌^◌, ◌&&◌, ◌≤◌, nat_le, nat_lt}

-- the greatest width
abbrev pub widest : ℕ
widest = 64

-- whether this is a width: 1 to 64
abbrev pub is_width : ℕ → Bool
is_width w = nat_le 1 w && nat_le w widest

-- whether n is a number of bits(w), w being a width
abbrev pub is_number : ℕ → ℕ → Bool
is_number w n = is_width w && nat_lt n (2 ^ w)

-- w is a width
pub record IsWidth (w : ℕ) : Type 0 where
  pub positive : 1 ≤ w
  pub small : w ≤ widest
