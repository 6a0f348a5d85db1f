-- The bytes of cells: hexadecimal digits decode to them, and they are read back as the numbers.
use Rattle.std.proofs.Common.{◌≡◌, ℕ, zero, suc, ◌+◌, ◌*◌, ◌/◌, ◌%◌, ◌<◌, ◌≤◌, ◌^◌, ◌==◌, ◌&&◌, Bool, true, if◌then◌else◌, List, [], ◌∷◌, ◌++◌, append_assoc, length, length-append, take, drop, drop_of_length-le, slice_index, None, Some, Ok, inl, inr, refl, sym, ap, ◌∙◌, subst, arith, pow-add}
use Rattle.std.specs.List.{All, AllByRecursion}
use Rattle.std.specs.Option.{option_map}
use Rattle.std.specs.Prelude.{IsTrue, nat_le, nat_lt, option_and_then}
use Rattle.std.proofs.Math.Nat.{pow-le-pow_right}
use Rattle.std.proofs.lemmas.Bool.{and_from, and_parts, cases_lt, cond-true, eqb-true, le-leb, leb-true, lt-ltb, ltb-true}
use Rattle.std.proofs.lemmas.List.{drop-append-le, take-append-le, take_all}
use Rattle.std.proofs.lemmas.List.Elements.{All-append, All-head, All-nil, All-push, All-tail}
use Rattle.std.proofs.lemmas.Nat.{div_below}
use Rattle.hex.specs.Hex.{IsBytes, decode_of, encode_lower, encode_with, lower_digits}
use Rattle.hex.proofs.HexLemmas.{decode_of-encode_lower}
use Rattle.kat_text.specs.Hexadecimal.{hex_digit, hex_digits}
use Rattle.kat_value.specs.Widths.{is_number, is_width}
use Rattle.kat_image.specs.ImageText.{digits_of_cell}
use Rattle.kat_image.specs.Lines.{bytes_behind, cell_in, cells_in, numbers_in, size_of_cell}
use Rattle.kat_image.specs.ReadsBack.{cell_digits}

-- the last so many bytes of a number, the highest first
abbrev pub bytes_of : ℕ → ℕ → List ℕ
bytes_of zero n = []
bytes_of (suc size) n = bytes_of size (n / 256) ++ n % 256 ∷ []

-- the bytes of cells of so many each
abbrev pub cell_bytes : ℕ → List ℕ → List ℕ
cell_bytes size [] = []
cell_bytes size (n ∷ numbers) = bytes_of size n ++ cell_bytes size numbers

-- whether the digits below this one are those of hexadecimal text
abbrev same_below : ℕ → Bool
same_below zero = true
same_below (suc d) = (hex_digit d == slice_index lower_digits d) && same_below d

same_at : (k d : ℕ) → same_below k ≡ true → d < k → hex_digit d ≡ slice_index lower_digits d
same_at zero d h less = absurd (omega arith)
same_at (suc k) d h less =
    let parts = and_parts (hex_digit k == slice_index lower_digits k) (same_below k) h in
    elim (cases_lt d k) [
      | inl below ↦ same_at k d parts.1 below
      | inr top ↦
          let e : k ≡ d = omega arith in
          subst (λ d. hex_digit d ≡ slice_index lower_digits d) e
          (eqb-true (hex_digit k) (slice_index lower_digits k) parts.0)
    ]

same_digit : (d : ℕ) → d < 16 → hex_digit d ≡ slice_index lower_digits d
same_digit d less = same_at 16 d refl less

-- a byte has two digits
abbrev twice : ℕ → ℕ
twice zero = zero
twice (suc n) = suc (suc (twice n))

twice_is : (n : ℕ) → twice n ≡ 2 * n
twice_is zero = refl
twice_is (suc n) = omega (arith, twice_is n)

encode_append : (a b : List ℕ) → encode_lower (a ++ b) ≡ encode_lower a ++ encode_lower b
unfolding encode_with
encode_append [] b = refl
encode_append (byte ∷ a) b =
    ap (λ t. slice_index lower_digits (byte / 16) ∷ slice_index lower_digits (byte % 16) ∷ t)
    (encode_append a b)

-- the digits of one byte
one_byte : (n : ℕ) →
    hex_digit (n / 16 % 16) ∷ hex_digit (n % 16) ∷ [] ≡ encode_lower (n % 256 ∷ [])
unfolding encode_with
one_byte n =
    let high : n / 16 % 16 ≡ n % 256 / 16 = omega arith in
    let low : n % 16 ≡ n % 256 % 16 = omega arith in
    ap (λ d. hex_digit d ∷ hex_digit (n % 16) ∷ []) high
    ∙ ap (λ d. hex_digit (n % 256 / 16) ∷ hex_digit d ∷ []) low
    ∙ ap (λ d. d ∷ hex_digit (n % 256 % 16) ∷ []) (same_digit (n % 256 / 16) (omega arith))
    ∙ ap (λ d. slice_index lower_digits (n % 256 / 16) ∷ d ∷ [])
    (same_digit (n % 256 % 16) (omega arith))

-- the digits of a number are those of its bytes
number_digits : (size n : ℕ) → hex_digits (twice size) n ≡ encode_lower (bytes_of size n)
unfolding encode_with
number_digits zero n = refl
number_digits (suc size) n =
    let front = hex_digits (twice size) (n / 16 / 16) in
    let high = hex_digit (n / 16 % 16) in
    let low = hex_digit (n % 16) in
    let above : n / 16 / 16 ≡ n / 256 = omega arith in
    append_assoc front (high ∷ []) (low ∷ [])
    ∙ ap (λ m. hex_digits (twice size) m ++ high ∷ low ∷ []) above
    ∙ ap (λ t. t ++ high ∷ low ∷ []) (number_digits size (n / 256))
    ∙ ap (λ t. encode_lower (bytes_of size (n / 256)) ++ t) (one_byte n)
    ∙ sym (encode_append (bytes_of size (n / 256)) (n % 256 ∷ []))

all_digits : (size : ℕ) (numbers : List ℕ) →
    cell_digits (twice size) numbers ≡ encode_lower (cell_bytes size numbers)
unfolding encode_with
all_digits size [] = refl
all_digits size (n ∷ numbers) =
    ap (λ t. t ++ cell_digits (twice size) numbers) (number_digits size n)
    ∙ ap (λ t. encode_lower (bytes_of size n) ++ t) (all_digits size numbers)
    ∙ sym (encode_append (bytes_of size n) (cell_bytes size numbers))

-- bytes are below 256
bytes_small : (size n : ℕ) → All (λ b. b < 256) (bytes_of size n)
bytes_small zero n = All-nil (λ b. b < 256)
bytes_small (suc size) n =
    All-push (λ b. b < 256) (bytes_of size (n / 256)) (n % 256) (bytes_small size (n / 256))
    (omega arith)

all_small : (size : ℕ) (numbers : List ℕ) → All (λ b. b < 256) (cell_bytes size numbers)
all_small size [] = All-nil (λ b. b < 256)
all_small size (n ∷ numbers) =
    All-append (λ b. b < 256) (bytes_of size n) (cell_bytes size numbers) (bytes_small size n)
    (all_small size numbers)

are_bytes : (bytes : List ℕ) → All (λ b. b < 256) bytes → IsBytes bytes
are_bytes [] h i = omega arith
are_bytes (b ∷ bytes) h zero = All-head (λ b. b < 256) b bytes h
are_bytes (b ∷ bytes) h (suc i) = are_bytes bytes (All-tail (λ b. b < 256) b bytes h) i

-- the digits of cells decode to their bytes
pub cells_decode : (width : ℕ) (numbers : List ℕ) →
    decode_of (cell_digits (digits_of_cell width) numbers)
    ≡ Ok (cell_bytes (size_of_cell width) numbers)
cells_decode width numbers =
    let size = size_of_cell width in
    ap (λ d. decode_of (cell_digits d numbers)) (sym (twice_is size))
    ∙ ap decode_of (all_digits size numbers)
    ∙ decode_of-encode_lower (cell_bytes size numbers)
    (are_bytes (cell_bytes size numbers) (all_small size numbers))

-- bytes make their number
behind_push : (k : ℕ) (bytes : List ℕ) (b : ℕ) →
    bytes_behind k (bytes ++ b ∷ []) ≡ bytes_behind k bytes * 256 + b
behind_push k [] b = refl
behind_push k (a ∷ bytes) b = behind_push (k * 256 + a) bytes b

number_back : (size n : ℕ) → n < 256 ^ size → bytes_behind 0 (bytes_of size n) ≡ n
number_back zero n h = omega arith
number_back (suc size) n h =
    let less : n / 256 < 256 ^ size = div_below n 256 (256 ^ size) (omega arith) (omega arith) in
    let high : bytes_behind 0 (bytes_of size (n / 256)) ≡ n / 256 =
    number_back size (n / 256) less in
    behind_push 0 (bytes_of size (n / 256)) (n % 256) ∙ omega (arith, high)

length_bytes : (size n : ℕ) → length (bytes_of size n) ≡ size
length_bytes zero n = refl
length_bytes (suc size) n =
    omega (
      arith,
      length-append (bytes_of size (n / 256)) (n % 256 ∷ []),
      length_bytes size (n / 256),
    )

powers : (size : ℕ) → 256 ^ size ≡ 2 ^ (8 * size)
powers zero = refl
powers (suc size) =
    let more : 8 * suc size ≡ 8 + 8 * size = omega arith in
    omega (arith, powers size, pow-add 2 8 (8 * size), ap (λ k. 2 ^ k) more)

-- a number of so many bits fits the bytes of its cell
number_fits : (width n : ℕ) → IsTrue (is_number width n) → n < 256 ^ size_of_cell width
number_fits width n h =
    let less = ltb-true n (2 ^ width) (and_parts (is_width width) (nat_lt n (2 ^ width)) h).1 in
    let bits : width ≤ 8 * size_of_cell width = omega arith in
    let most : 2 ^ width ≤ 2 ^ (8 * size_of_cell width) =
    pow-le-pow_right {n = 2} (omega arith) {i = width} {j = 8 * size_of_cell width} bits in
    omega (arith, less, most, powers (size_of_cell width))

take_front : (k : ℕ) (front rest : List ℕ) → length front ≡ k → take k (front ++ rest) ≡ front
take_front k front rest e =
    take-append-le k front rest (omega (arith, e)) ∙ take_all k front (omega (arith, e))

drop_front : (k : ℕ) (front rest : List ℕ) → length front ≡ k → drop k (front ++ rest) ≡ rest
drop_front k front rest e =
    drop-append-le k front rest (omega (arith, e))
    ∙ ap (λ t. t ++ rest) (drop_of_length-le front {i = k} (omega (arith, e)))

-- a cell is read back
cell_back : (width n : ℕ) (rest : List ℕ) → IsTrue (is_number width n) →
    cell_in width (bytes_of (size_of_cell width) n ++ rest) ≡ Some n
cell_back width n rest fits =
    let size = size_of_cell width in
    let bytes = bytes_of size n in
    let long = length_bytes size n in
    let number : bytes_behind 0 (take size (bytes ++ rest)) ≡ n =
    ap (bytes_behind 0) (take_front size bytes rest long)
    ∙ number_back size n (number_fits width n fits) in
    let enough : size ≤ length (bytes ++ rest) =
    omega (arith, long, length-append bytes rest) in
    let there = nat_le size (length (bytes ++ rest)) in
    ap (λ m. if there && is_number width m then Some m else None) number
    ∙ cond-true (there && is_number width n) (Some n) None
    (and_from there (is_number width n) (le-leb size (length (bytes ++ rest)) enough) fits)

-- the cell at the front, and those behind it
one_cell : (width left : ℕ) (bytes : List ℕ) → 0 < length bytes →
    cells_in width (suc left) bytes
    ≡ option_and_then (λ number.
    option_map (λ more. number ∷ more) (cells_in width left (drop (size_of_cell width) bytes)))
    (cell_in width bytes)
one_cell width left [] some = absurd (omega (arith, some))
one_cell width left (b ∷ bytes) some = refl

-- cells are read back
cells_back : (width left : ℕ) (numbers : List ℕ) → 0 < size_of_cell width →
    AllByRecursion (λ n. IsTrue (is_number width n)) numbers →
    length (cell_bytes (size_of_cell width) numbers) ≤ left →
    cells_in width left (cell_bytes (size_of_cell width) numbers) ≡ Some numbers
cells_back width left [] some fits enough = refl
cells_back width zero (n ∷ numbers) some fits enough =
    let long = length_bytes (size_of_cell width) n in
    let whole = length-append (bytes_of (size_of_cell width) n)
    (cell_bytes (size_of_cell width) numbers) in
    absurd (omega (arith, enough, long, whole, some))
cells_back width (suc left) (n ∷ numbers) some fits enough =
    let size = size_of_cell width in
    let more = cell_bytes size numbers in
    let bytes = bytes_of size n ++ more in
    let long = length_bytes size n in
    let whole = length-append (bytes_of size n) more in
    one_cell width left bytes (omega (arith, long, whole, some))
    ∙ ap (option_and_then (λ number.
    option_map (λ more. number ∷ more) (cells_in width left (drop size bytes))))
    (cell_back width n more fits.0)
    ∙ ap (λ t. option_map (λ more. n ∷ more) (cells_in width left t))
    (drop_front size (bytes_of size n) more long)
    ∙ ap (option_map (λ more. n ∷ more))
    (cells_back width left numbers some fits.1 (omega (arith, enough, long, whole, some)))

-- the numbers of at least one cell are read back
pub numbers_back : (width : ℕ) (numbers : List ℕ) → IsTrue (is_width width) →
    0 < length numbers → AllByRecursion (λ n. IsTrue (is_number width n)) numbers →
    numbers_in width (cell_bytes (size_of_cell width) numbers) ≡ Some numbers
numbers_back width [] is some fits = absurd (omega (arith, some))
numbers_back width (n ∷ numbers) is some fits =
    let size = size_of_cell width in
    let bytes = cell_bytes size (n ∷ numbers) in
    let positive = leb-true 1 width (and_parts (nat_le 1 width) (nat_le width 64) is).0 in
    let sized : 0 < size = omega (arith, positive) in
    let long = length_bytes size n in
    let whole = length-append (bytes_of size n) (cell_bytes size numbers) in
    let filled : 0 < length bytes = omega (arith, long, whole, sized) in
    cond-true (is_width width && nat_lt 0 (length bytes)) (cells_in width (length bytes) bytes) None
    (and_from (is_width width) (nat_lt 0 (length bytes)) is (lt-ltb 0 (length bytes) filled))
    ∙ cells_back width (length bytes) (n ∷ numbers) sized fits (omega arith)
