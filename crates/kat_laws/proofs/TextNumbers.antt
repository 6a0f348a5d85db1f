-- What the digits of a text tell.
use Rattle.std.proofs.Common.{◌≡◌, ℕ, zero, suc, ◌+◌, ◌/◌, ◌%◌, ◌^◌, ◌<◌, ◌≤◌, List, [], ◌∷◌, ◌++◌, length, get_or, drop, nat_lt, inl, inr, refl, sym, ap, subst, ◌∙◌, arith}
use Rattle.std.specs.Fmt.{decimal}
use Rattle.std.proofs.Math.Nat.{div-lt_iff_lt-mul, mod-lt}
use Rattle.std.proofs.lemmas.Bool.{cases_lt, cond-true, cond-false, lt-ltb, le-ltb}
use Rattle.std.proofs.lemmas.Nat.{div-add-mod'}
use Rattle.std.proofs.lemmas.List.{length-append}
use Rattle.std.proofs.lemmas.List.Elements.{All-head, All-tail, All-nil, All-cons, All-push}
use Rattle.std.proofs.lemmas.Fmt.{decimal_by_steps, decimal_injective}
use Rattle.kat_text.specs.Hexadecimal.{hex_digit, hex_digits}
use Rattle.kat_laws.specs.TextLaw.{IsWord, first_of_words}

-- two lists of one length are told apart from what follows them
pub front_told : (xs ys r s : List ℕ) → length xs ≡ length ys → xs ++ r ≡ ys ++ s → (xs ≡ ys) ×
    (r ≡ s)
front_told [] [] r s len e = (refl, e)
front_told [] (y ∷ ys) r s len e = absurd (omega (arith, len))
front_told (x ∷ xs) [] r s len e = absurd (omega (arith, len))
front_told (x ∷ xs) (y ∷ ys) r s len e =
    let head : x ≡ y = ap (λ l. get_or l 0 0) e in
    let rest = front_told xs ys r s (omega (arith, len)) (ap (drop 1) e) in
    (cc, rest.1)

-- what stands here does not go on with a word
abbrev pub Stops : List ℕ → Type 0
Stops text = get_or text 0 0 < first_of_words

-- a word is told apart from what stands behind it
pub word_told : (xs ys r s : List ℕ) → IsWord xs → IsWord ys → Stops r → Stops s →
    xs ++ r ≡ ys ++ s → (xs ≡ ys) × (r ≡ s)
word_told [] [] r s p q f g e = (refl, e)
word_told [] (y ∷ ys) r s p q f g e =
    let low : y < 48 = subst (λ byte. byte < 48) (ap (λ l. get_or l 0 0) e) f in
    absurd (omega (arith, low, All-head (λ byte. 48 ≤ byte) y ys q))
word_told (x ∷ xs) [] r s p q f g e =
    let low : x < 48 = subst (λ byte. byte < 48) (ap (λ l. get_or l 0 0) (sym e)) g in
    absurd (omega (arith, low, All-head (λ byte. 48 ≤ byte) x xs p))
word_told (x ∷ xs) (y ∷ ys) r s p q f g e =
    let head : x ≡ y = ap (λ l. get_or l 0 0) e in
    let rest = word_told xs ys r s (All-tail (λ byte. 48 ≤ byte) x xs p)
    (All-tail (λ byte. 48 ≤ byte) y ys q) f g (ap (drop 1) e) in
    (cc, rest.1)

-- a digit tells its number
hex_digit_told : (m n : ℕ) → m < 16 → n < 16 → hex_digit m ≡ hex_digit n → m ≡ n
hex_digit_told m n p q e =
    elim (cases_lt m 10) [
      | inl a ↦ elim (cases_lt n 10) [
        | inl b ↦
            let l = cond-true (nat_lt m 10) (48 + m) (87 + m) (lt-ltb m 10 a) in
            let r = cond-true (nat_lt n 10) (48 + n) (87 + n) (lt-ltb n 10 b) in
            omega (arith, e, l, r)
        | inr b ↦
            let l = cond-true (nat_lt m 10) (48 + m) (87 + m) (lt-ltb m 10 a) in
            let r = cond-false (nat_lt n 10) (48 + n) (87 + n) (le-ltb n 10 b) in
            omega (arith, e, l, r)
      ]
      | inr a ↦ elim (cases_lt n 10) [
        | inl b ↦
            let l = cond-false (nat_lt m 10) (48 + m) (87 + m) (le-ltb m 10 a) in
            let r = cond-true (nat_lt n 10) (48 + n) (87 + n) (lt-ltb n 10 b) in
            omega (arith, e, l, r)
        | inr b ↦
            let l = cond-false (nat_lt m 10) (48 + m) (87 + m) (le-ltb m 10 a) in
            let r = cond-false (nat_lt n 10) (48 + n) (87 + n) (le-ltb n 10 b) in
            omega (arith, e, l, r)
      ]
    ]

pub length-hex_digits : (count n : ℕ) → length (hex_digits count n) ≡ count
length-hex_digits zero n = refl
length-hex_digits (suc count) n =
    let front = length-hex_digits count (n / 16) in
    let all = length-append (hex_digits count (n / 16)) (hex_digit (n % 16) ∷ []) in
    omega (arith, front, all)

-- so many digits tell a number below that power of 16
pub hex_digits_told : (count m n : ℕ) → m < 16 ^ count → n < 16 ^ count → hex_digits count m ≡
    hex_digits count n → m ≡ n
hex_digits_told zero m n p q e = omega arith
hex_digits_told (suc count) m n p q e =
    let lens : length (hex_digits count (m / 16)) ≡ length (hex_digits count (n / 16)) =
    length-hex_digits count (m / 16) ∙ sym (length-hex_digits count (n / 16)) in
    let parts = front_told (hex_digits count (m / 16)) (hex_digits count (n / 16))
    (hex_digit (m % 16) ∷ []) (hex_digit (n % 16) ∷ []) lens e in
    let high : m / 16 ≡ n / 16 =
    hex_digits_told count (m / 16) (n / 16) ((div-lt_iff_lt-mul {k = 16} {x = m} {y = 16 ^ count}
    (omega arith)).1 (omega arith)) ((div-lt_iff_lt-mul {k = 16} {x = n} {y = 16 ^ count}
    (omega arith)).1 (omega arith)) parts.0 in
    let low : m % 16 ≡ n % 16 = hex_digit_told (m % 16) (n % 16) (mod-lt m (omega arith))
    (mod-lt n (omega arith)) (ap (λ l. get_or l 0 0) parts.1) in
    omega (arith, div-add-mod' m 16, div-add-mod' n 16, high, low)

-- the digits of a number are a word
decimal_is_word : (n : ℕ) → n < 2 ^ 64 → IsWord (decimal n)
decimal_is_word n small =
    decimal_by_steps (λ n ds. IsWord ds)
    (λ m p. All-cons (λ byte. 48 ≤ byte) (48 + m) [] (omega arith) (All-nil (λ byte. 48 ≤ byte)))
    (λ m ds p ih. All-push (λ byte. 48 ≤ byte) ds (48 + m % 10) ih (omega arith))
    n small

-- a number in decimal digits is told apart from what stands behind it
pub decimal_told : (m n : ℕ) (r s : List ℕ) → m < 2 ^ 64 → n < 2 ^ 64 → Stops r → Stops s →
    decimal m ++ r ≡ decimal n ++ s → (m ≡ n) × (r ≡ s)
decimal_told m n r s p q f g e =
    let parts = word_told (decimal m) (decimal n) r s (decimal_is_word m p) (decimal_is_word n q)
    f g e in
    (decimal_injective m n p q parts.0, parts.1)
