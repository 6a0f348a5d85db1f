-- The numbers that words spell.
use Rattle.std.specs.Prelude.{ℕ, Bool, ◌+◌, ◌-◌, ◌*◌, ◌==◌, ◌&&◌, nat_le, if◌then◌else◌}
use Rattle.std.specs.Prelude.{List, [], ◌∷◌, ◌++◌, length, Option, Some, None}
use Rattle.std.specs.Char.{is_ascii_digit}
use Rattle.std.specs.List.{list_any, slice_split}
use Rattle.clap.specs.Words.{Text}
use Rattle.kat_words.specs.Limits.{most_device, most_devices, most_digits}

-- the number of decimal digits that stand behind a number
abbrev pub number_from : ℕ → Text → Option ℕ
number_from n [] = Some n
number_from n (byte ∷ bytes) =
    if is_ascii_digit byte then number_from (n * 10 + (byte - 48)) bytes else None

-- a number, if it is from low to high
abbrev pub between : ℕ → ℕ → Option ℕ → Option ℕ
between low high None = None
between low high (Some n) = if nat_le low n && nat_le n high then Some n else None

-- whether a word has as many bytes as a number may have digits
abbrev pub has_length_of_number : Text → Bool
has_length_of_number word = nat_le 1 (length word) && nat_le (length word) most_digits

-- the number that a word's decimal digits spell, if it is from low to high
abbrev pub number_within : ℕ → ℕ → Text → Option ℕ
number_within low high word =
    if has_length_of_number word then between low high (number_from 0 word) else None

-- the number of a device that a word names
abbrev pub device_of : Text → Option ℕ
device_of word = number_within 0 most_device word

-- the list with a number behind it, where that is there and new
abbrev pub with_new : List ℕ → Option ℕ → Option (List ℕ)
with_new numbers None = None
with_new numbers (Some n) =
    if list_any (λ m. m == n) numbers then None else Some (numbers ++ n ∷ [])

-- the list with the devices that words name behind it, none of them twice
abbrev pub with_devices : Option (List ℕ) → List Text → Option (List ℕ)
with_devices None words = None
with_devices (Some numbers) [] = Some numbers
with_devices (Some numbers) (word ∷ words) =
    with_devices (with_new numbers (device_of word)) words

-- the devices that a text names between its commas (44)
abbrev pub devices_of : Text → Option (List ℕ)
devices_of word =
    let parts = slice_split (λ b. b == 44) word in
    if nat_le (length parts) most_devices then with_devices (Some []) parts else None
