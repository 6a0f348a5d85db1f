-- Hexadecimal digits as powers of sixteen.
use Rattle.std.proofs.Common.{◌≡◌, ℕ, zero, suc, ◌+◌, ◌-◌, ◌*◌, ◌/◌, ◌%◌, ◌^◌, ◌<◌, ◌≤◌, [], ◌∷◌, ◌++◌, List, refl, ap, sym, append_assoc, ◌∙◌, arith}
use Rattle.std.proofs.Math.Nat.{pow-le-pow_right, div-eq_of_lt, div-div-eq-div-mul}
use Rattle.std.proofs.lemmas.Nat.{pow-add}
use Rattle.kat_text.specs.Hexadecimal.{hex_digit, hex_digits}

-- a power of sixteen as one of two
pub sixteens : (p : ℕ) → 2 ^ (4 * p) ≡ 16 ^ p
sixteens zero = refl
sixteens (suc p) =
    let fours : 4 * suc p ≡ 4 + 4 * p = omega arith in
    let more : suc p ≡ 1 + p = omega arith in
    ap (λ k. 2 ^ k) fours ∙ pow-add 2 4 (4 * p) ∙ ap (λ x. 16 * x) (sixteens p) ∙ sym (ap (λ k. 16 ^ k) more ∙ pow-add 16 1 p)

-- the digit that a shift gives
pub digit_by_shift : (n p : ℕ) → (n / 2 ^ (4 * p)) % 16 ≡ (n / 16 ^ p) % 16
digit_by_shift n p = ap (λ x. (n / x) % 16) (sixteens p)

-- a word has sixteen digits
pub digit_past_word : (n p : ℕ) → n < 2 ^ 64 → 16 ≤ p → 0 ≡ (n / 16 ^ p) % 16
digit_past_word n p word past =
    let more : 16 ^ 16 ≤ 16 ^ p = pow-le-pow_right (omega arith) past in
    let below : n < 16 ^ p = omega arith in
    sym (ap (λ x. x % 16) (div-eq_of_lt below))

-- one more digit, from the front
pub one_more_digit : (done left n : ℕ) → hex_digits (done + 1) (n / 16 ^ left) ≡ hex_digits done (n / 16 ^ (left + 1)) ++ hex_digit ((n / 16 ^ left) % 16) ∷ []
one_more_digit done left n =
    let more : done + 1 ≡ suc done = omega arith in
    let next : n / 16 ^ left / 16 ≡ n / 16 ^ (left + 1) = div-div-eq-div-mul n (16 ^ left) 16 ∙ ap (λ x. n / x) (sym (pow-add 16 left 1)) in
    ap (λ k. hex_digits k (n / 16 ^ left)) more ∙ ap (λ x. hex_digits done x ++ hex_digit ((n / 16 ^ left) % 16) ∷ []) next

-- a text behind which that digit was pushed
pub digit_pushed : (start old new encoded : List ℕ) (digits done n ch : ℕ) → done < digits → old ≡ start ++ hex_digits done (n / 16 ^ (digits - done)) → new ≡ old ++ encoded → encoded ≡ ch ∷ [] → ch ≡ hex_digit ((n / 16 ^ (digits - 1 - done)) % 16) → new ≡ start ++ hex_digits (done + 1) (n / 16 ^ (digits - (done + 1)))
digit_pushed start old new encoded digits done n ch more was is one digit =
    let left : ℕ = digits - 1 - done in
    let behind : digits - done ≡ left + 1 = omega arith in
    let before : digits - (done + 1) ≡ left = omega arith in
    let last : encoded ≡ hex_digit ((n / 16 ^ left) % 16) ∷ [] = one ∙ ap (λ d. d ∷ []) digit in
    let front : old ≡ start ++ hex_digits done (n / 16 ^ (left + 1)) = was ∙ ap (λ k. start ++ hex_digits done (n / 16 ^ k)) behind in
    is ∙ ap (λ x. x ++ encoded) front ∙ ap (λ x. (start ++ hex_digits done (n / 16 ^ (left + 1))) ++ x) last
    ∙ append_assoc start (hex_digits done (n / 16 ^ (left + 1))) (hex_digit ((n / 16 ^ left) % 16) ∷ [])
    ∙ ap (λ x. start ++ x) (sym (one_more_digit done left n))
    ∙ ap (λ k. start ++ hex_digits (done + 1) (n / 16 ^ k)) (sym before)
