-- What a word that begins with a digit stands for, digit by digit.
use Rattle.std.specs.Prelude.{ℕ, ◌+◌, ◌*◌, ◌^◌, List, [], ◌∷◌, length, Option, Some, None, ◌&&◌, ◌==◌, nat_lt, if◌then◌else◌}
use Rattle.std.specs.Char.{digit_value}
use Rattle.std.specs.Option.{option_and_then}

-- the number with one digit more, if that is a digit of the base and the number is below 2^64
abbrev pub with_digit : ℕ → ℕ → ℕ → Option ℕ
with_digit base total digit =
    if nat_lt (digit_value digit) base && nat_lt (total * base + digit_value digit) (2 ^ 64)
    then Some (total * base + digit_value digit) else None

-- the number that digits behind a number make
unfoldable pub with_digits : ℕ → ℕ → List ℕ → Option ℕ
with_digits base total [] = Some total
with_digits base total (digit ∷ digits) =
    option_and_then (λ n. with_digits base n digits) (with_digit base total digit)

-- the number of at least one digit
abbrev pub digits_number : ℕ → List ℕ → Option ℕ
digits_number base digits = if length digits == 0 then None else with_digits base 0 digits

-- behind `0x` stand hexadecimal digits, else all are decimal
abbrev pub word_number : List ℕ → Option ℕ
word_number [] = None
word_number (c ∷ []) = digits_number 10 (c ∷ [])
word_number (c ∷ d ∷ more) =
    if (c == 48) && (d == 120) then digits_number 16 more else digits_number 10 (c ∷ d ∷ more)
