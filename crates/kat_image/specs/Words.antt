-- The words of a line, and the numbers that they spell.
use Rattle.std.specs.Prelude.{◌≡◌, ℕ, IfOk, Result, ◌+◌, ◌^◌, ◌==◌, ◌||◌, ◌&&◌, nat_lt, Bool, true, if◌then◌else◌, List, [], ◌∷◌, take, drop, Option, None, Some, option_and_then}
use Rattle.std.specs.Option.{option_map}
use Rattle.std.specs.Char.{digit_value}
use Rattle.std.specs.Str.{all_ascii_digits, bytes_eq, chars, is_utf8}
use Rattle.kat_tree.specs.Spelling.{value_behind}

-- a word goes up to a space or a closing bracket
abbrev pub ends_word : ℕ → Bool
ends_word byte = (byte == 32) || (byte == 41)

-- how many bytes the word at the front of a text has
abbrev pub word_length : List ℕ → ℕ
word_length [] = 0
word_length (byte ∷ text) = if ends_word byte then 0 else word_length text + 1

-- a part of a line that was read, and what stands behind it
abbrev pub Front : Type 0 → Type 0
Front A = Option (A × List ℕ)

-- an answer other than want of memory is what was read, and this stands behind it
abbrev pub IsReadAs : {A E : Type 0} → Result (Option A) E → List ℕ → Front A → Type 0
IsReadAs result rest front = IfOk result (λ read. option_map (λ a. (a, rest)) read ≡ front)

-- the word at the front of a text, and what stands behind it; each word is text
abbrev pub word_front : List ℕ → Front (List ℕ)
word_front text =
    if is_utf8 (take (word_length text) text)
    then Some (take (word_length text) text, drop (word_length text) text)
    else None

-- what stands behind this byte at the front of a text
abbrev pub behind : ℕ → List ℕ → Option (List ℕ)
behind byte [] = None
behind byte (first ∷ rest) = if first == byte then Some rest else None

-- the word behind an opening bracket
abbrev pub head_front : List ℕ → Front (List ℕ)
head_front text = option_and_then word_front (behind 40 text)

-- whether all characters are digits of a base
abbrev pub are_digits : ℕ → List ℕ → Bool
are_digits base [] = true
are_digits base (c ∷ cs) = nat_lt (digit_value c) base && are_digits base cs

-- the number that characters spell as digits of a base: at least one, and below 2^64
abbrev pub numeral : ℕ → List ℕ → Option ℕ
numeral base [] = None
numeral base (c ∷ cs) =
    if are_digits base (c ∷ cs) && nat_lt (value_behind base 0 (c ∷ cs)) (2 ^ 64)
    then Some (value_behind base 0 (c ∷ cs))
    else None

-- whether a word begins with `0x`
abbrev pub is_marked : List ℕ → Bool
is_marked cs = bytes_eq (take 2 cs) (48 ∷ 120 ∷ [])

-- the number that characters spell as a token of tree text
abbrev pub number_spelled : List ℕ → Option ℕ
number_spelled cs = if is_marked cs then numeral 16 (drop 2 cs) else numeral 10 cs

-- the number that a word spells as a token of tree text
abbrev pub number_of : List ℕ → Option ℕ
number_of word = number_spelled (chars word)

-- the number that a word spells in decimal digits alone
abbrev pub index_of : List ℕ → Option ℕ
index_of word = if all_ascii_digits word then number_of word else None
