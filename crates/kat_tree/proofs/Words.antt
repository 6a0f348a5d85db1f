-- Words: which characters begin one, and which token one stands for.
use Rattle.std.proofs.Common.{◌≡◌, ℕ, ◌+◌, ◌*◌, ◌^◌, ◌<◌, ◌≤◌, Bool, true, false, cond, eqb, ltb, leb, ◌||◌, ◌&&◌, List, [], ◌∷◌, length, Option, Some, None, inl, inr, ⊎_elim, sym, ap, ◌∙◌, subst, refl, arith}
use Rattle.std.specs.Prelude.{encode_utf8_all}
use Rattle.std.specs.Char.{digit_value, is_ascii_digit, is_ascii_alphabetic}
use Rattle.std.specs.List.{AllByRecursion}
use Rattle.std.specs.Option.{option_and_then}
use Rattle.std.proofs.lemmas.Bool.{lt-ltb, ltb-true, eqb-true, both_ways, and_parts, and_from, or_cases, false_from_ne_true, cond-true, cond-false, leb-true, ne_eqb, and_left, or_from, lt-leb}
use Rattle.std.proofs.lemmas.Bool.Decides.{nat_tests}
use Rattle.unicode_ident.specs.Ident.{is_xid_start}
use Rattle.unicode_ident.proofs.IdentLemmas.{is_xid_start-ascii}
use Rattle.kat_tree.specs.declared.tree.Token.{Token}
use Rattle.kat_tree.specs.declared.tree.Token.TheVariants.{Number, Name}
use Rattle.kat_tree.specs.Character.{is_blank, begins_name, begins_word}
use Rattle.kat_tree.specs.Number.{with_digit, with_digits, digits_number, word_number}
use Rattle.kat_tree.specs.Machine.{number_token, word_token}
use Rattle.kat_tree.specs.Spelling.{value_behind, IsNumeral, IsWord, SpellsToken}
use Rattle.kat_tree.proofs.Goes.{none_some, some_same, chosen_some, and_then_some, cons_nil}

-- an ASCII character that is neither a digit, a letter nor `_` begins no word
plain : (k : ℕ) → k < 128 → (is_ascii_digit k || (eqb k 95 || is_ascii_alphabetic k)) ≡ false → begins_word k ≡ false
plain k ascii e = ap (λ b. is_ascii_digit k || (eqb k 95 || b)) (is_xid_start-ascii k ascii) ∙ e

-- what begins a word is none of the characters that begin none
other : (c k : ℕ) → begins_word k ≡ false → begins_word c ≡ true → eqb c k ≡ false
other c k none begins = false_from_ne_true (eqb c k) (λ e. both_ways (begins_word k) none (subst (λ d. begins_word d ≡ true) (eqb-true c k e) begins))

pub begins_word-not_blank : (c : ℕ) → begins_word c ≡ true → is_blank c ≡ false
begins_word-not_blank c begins =
    let space = other c 32 (plain 32 (omega arith) refl) begins in
    let tab = other c 9 (plain 9 (omega arith) refl) begins in
    let newline = other c 10 (plain 10 (omega arith) refl) begins in
    let return = other c 13 (plain 13 (omega arith) refl) begins in
    rw (space, tab, newline, return) refl

pub begins_word-not_semicolon : (c : ℕ) → begins_word c ≡ true → eqb c 59 ≡ false
begins_word-not_semicolon c begins = other c 59 (plain 59 (omega arith) refl) begins

pub opening-no_word : begins_word 40 ≡ false
opening-no_word = plain 40 (omega arith) refl

pub closing-no_word : begins_word 41 ≡ false
closing-no_word = plain 41 (omega arith) refl

-- digits
pub decimal-is_digit : (c : ℕ) → digit_value c < 10 → is_ascii_digit c ≡ true
decimal-is_digit c h = grind (arith, nat_tests)

digit-no_start : (c : ℕ) → is_ascii_digit c ≡ true → is_xid_start c ≡ false
digit-no_start c digit =
    let low : c ≤ 57 = leb-true c 57 (and_parts (leb 48 c) (leb c 57) digit).1 in
    let upper : (leb 65 c && leb c 90) ≡ false = and_left (leb 65 c) (leb c 90) (lt-leb 65 c (omega arith)) in
    let lower : (leb 97 c && leb c 122) ≡ false = and_left (leb 97 c) (leb c 122) (lt-leb 97 c (omega arith)) in
    is_xid_start-ascii c (omega arith) ∙ or_from (leb 65 c && leb c 90) (leb 97 c && leb c 122) upper lower

pub begins_name-no_digit : (c : ℕ) → begins_name c ≡ true → is_ascii_digit c ≡ false
begins_name-no_digit c begins =
    ⊎_elim (λ is. subst (λ d. is_ascii_digit d ≡ false) (sym (eqb-true c 95 is)) refl)
    (λ is. false_from_ne_true (is_ascii_digit c) (λ digit. both_ways (is_xid_start c) (digit-no_start c digit) is))
    (or_cases (eqb c 95) (is_xid_start c) begins)

grows : (k number : ℕ) (digits : List ℕ) → number ≤ value_behind (k + 1) number digits
grows k number [] = omega arith
grows k number (digit ∷ digits) =
    let h = grows k (number * (k + 1) + digit_value digit) digits in
    omega arith

abbrev Digits : ℕ → List ℕ → Type 0
Digits base = AllByRecursion (λ digit. digit_value digit < base)

with_digits_is : (base number n : ℕ) (digits : List ℕ) → with_digits base number digits ≡ Some n → number < 2 ^ 64 → Digits base digits × ((n ≡ value_behind base number digits) × (n < 2 ^ 64))
unfolding with_digits
with_digits_is base number n [] e fits = let same = some_same number n e in (tt, (sym same, omega arith))
with_digits_is base number n (digit ∷ digits) e fits =
    let step = and_then_some (with_digit base number digit) (λ m. with_digits base m digits) n e in
    let chosen = chosen_some (ltb (digit_value digit) base && ltb (number * base + digit_value digit) (2 ^ 64)) (number * base + digit_value digit) step.0 step.1.0 in
    let parts = and_parts (ltb (digit_value digit) base) (ltb (number * base + digit_value digit) (2 ^ 64)) chosen.0 in
    let more = with_digits_is base step.0 n digits step.1.1 (subst (λ m. m < 2 ^ 64) chosen.1 (ltb-true (number * base + digit_value digit) (2 ^ 64) parts.1)) in
    ((ltb-true (digit_value digit) base parts.0, more.0), (more.1.0 ∙ ap (λ m. value_behind base m digits) (sym chosen.1), more.1.1))

with_digits_from : (k number : ℕ) (digits : List ℕ) → Digits (k + 1) digits → value_behind (k + 1) number digits < 2 ^ 64 → with_digits (k + 1) number digits ≡ Some (value_behind (k + 1) number digits)
unfolding with_digits
with_digits_from k number [] all fits = refl
with_digits_from k number (digit ∷ digits) all fits =
    let base = k + 1 in
    let next = number * (k + 1) + digit_value digit in
    let small : next < 2 ^ 64 = omega (arith, grows k next digits, fits) in
    let test : (ltb (digit_value digit) (k + 1) && ltb next (2 ^ 64)) ≡ true = and_from (ltb (digit_value digit) (k + 1)) (ltb next (2 ^ 64)) (lt-ltb (digit_value digit) (k + 1) all.0) (lt-ltb next (2 ^ 64) small) in
    ap (λ b. option_and_then (λ m. with_digits (k + 1) m digits) (cond b (Some next) None)) test ∙ with_digits_from k next digits all.1 fits

pub digits_number-cons : (base digit : ℕ) (digits : List ℕ) → digits_number base (digit ∷ digits) ≡ with_digits base 0 (digit ∷ digits)
digits_number-cons base digit digits =
    cond-false (eqb (length (digit ∷ digits)) 0) None (with_digits base 0 (digit ∷ digits)) (ne_eqb (length (digit ∷ digits)) 0 (λ e. absurd (omega arith)))

pub digits_number_is : (base n : ℕ) (digits : List ℕ) → digits_number base digits ≡ Some n → IsNumeral base digits n
digits_number_is base n [] e = absurd (none_some n e)
digits_number_is base n (digit ∷ digits) e =
    let is = with_digits_is base 0 n (digit ∷ digits) (sym (digits_number-cons base digit digits) ∙ e) (omega arith) in
    record { some = cons_nil digit digits; all = is.0; value = is.1.0; fits = is.1.1 }

pub digits_number_from : (k n : ℕ) (digits : List ℕ) → IsNumeral (k + 1) digits n → digits_number (k + 1) digits ≡ Some n
digits_number_from k n [] is = absurd (is.some refl)
digits_number_from k n (digit ∷ digits) is =
    digits_number-cons (k + 1) digit digits ∙ with_digits_from k 0 (digit ∷ digits) is.all (subst (λ m. m < 2 ^ 64) is.value is.fits) ∙ ap Some (sym is.value)

-- numbers
by_mark : (n c d : ℕ) (more : List ℕ) (b : Bool) → (eqb c 48 && eqb d 120) ≡ b → cond b (digits_number 16 more) (digits_number 10 (c ∷ d ∷ more)) ≡ Some n → SpellsToken (c ∷ d ∷ more) (Number n)
by_mark n c d more true test e =
    let parts = and_parts (eqb c 48) (eqb d 120) test in
    let c_is : c ≡ 48 = eqb-true c 48 parts.0 in
    let d_is : d ≡ 120 = eqb-true d 120 parts.1 in
    inr (record { digits = more; marked = ap (λ x. x ∷ d ∷ more) c_is ∙ ap (λ x. 48 ∷ x ∷ more) d_is; numeral = digits_number_is 16 n more e })
by_mark n c d more false test e = inl (digits_number_is 10 n (c ∷ d ∷ more) e)

no_mark : (c d n : ℕ) (more : List ℕ) → IsNumeral 10 (c ∷ d ∷ more) n → (eqb c 48 && eqb d 120) ≡ false
no_mark c d n more is = false_from_ne_true (eqb c 48 && eqb d 120) (λ test.
    let d_is : d ≡ 120 = eqb-true d 120 (and_parts (eqb c 48) (eqb d 120) test).1 in
    let digit : digit_value 120 < 10 = subst (λ x. digit_value x < 10) d_is is.all.1.0 in
    absurd (omega arith))

decimal_from : (n : ℕ) (word : List ℕ) → IsNumeral 10 word n → word_number word ≡ Some n
decimal_from n [] is = absurd (is.some refl)
decimal_from n (c ∷ []) is = digits_number_from 9 n (c ∷ []) is
decimal_from n (c ∷ d ∷ more) is =
    cond-false (eqb c 48 && eqb d 120) (digits_number 16 more) (digits_number 10 (c ∷ d ∷ more)) (no_mark c d n more is) ∙ digits_number_from 9 n (c ∷ d ∷ more) is

pub word_number_is : (n : ℕ) (word : List ℕ) → word_number word ≡ Some n → SpellsToken word (Number n)
word_number_is n [] e = absurd (none_some n e)
word_number_is n (c ∷ []) e = inl (digits_number_is 10 n (c ∷ []) e)
word_number_is n (c ∷ d ∷ more) e = by_mark n c d more (eqb c 48 && eqb d 120) refl e

pub word_number_from : (n : ℕ) (word : List ℕ) → SpellsToken word (Number n) → word_number word ≡ Some n
word_number_from n word (inl is) = decimal_from n word is
word_number_from n word (inr is) = ap word_number is.marked ∙ digits_number_from 15 n is.digits is.numeral

-- tokens
number_some : (r : Option ℕ) (token : Token) → number_token r ≡ Some token → (n : ℕ) × ((r ≡ Some n) × (Number n ≡ token))
number_some None token e = absurd (none_some token e)
number_some (Some n) token e = (n, (refl, some_same (Number n) token e))

by_first : (c : ℕ) (cs : List ℕ) (token : Token) → IsWord (c ∷ cs) → (b : Bool) → is_ascii_digit c ≡ b → cond b (number_token (word_number (c ∷ cs))) (Some (Name (encode_utf8_all (c ∷ cs)))) ≡ Some token → SpellsToken (c ∷ cs) token
by_first c cs token is true test e =
    let number = number_some (word_number (c ∷ cs)) token e in
    subst (SpellsToken (c ∷ cs)) number.1.1 (word_number_is number.0 (c ∷ cs) number.1.0)
by_first c cs token is false test e =
    let begins : begins_name c ≡ true = ⊎_elim (λ digit. absurd (both_ways (is_ascii_digit c) test digit)) (λ name. name) (or_cases (is_ascii_digit c) (begins_name c) is.0) in
    subst (SpellsToken (c ∷ cs)) (some_same (Name (encode_utf8_all (c ∷ cs))) token e) (begins, refl)

first_same : (c d : ℕ) (cs ds : List ℕ) → c ∷ cs ≡ d ∷ ds → c ≡ d
first_same c d cs ds e = cc

number_begins : (c n : ℕ) (cs : List ℕ) → SpellsToken (c ∷ cs) (Number n) → is_ascii_digit c ≡ true
number_begins c n cs (inl is) = decimal-is_digit c is.all.0
number_begins c n cs (inr is) = subst (λ d. is_ascii_digit d ≡ true) (sym (first_same c 48 cs (120 ∷ is.digits) is.marked)) refl

pub word_token_is : (word : List ℕ) (token : Token) → IsWord word → word_token word ≡ Some token → SpellsToken word token
unfolding word_token
word_token_is [] token is e = absurd is
word_token_is (c ∷ cs) token is e = by_first c cs token is (is_ascii_digit c) refl e

pub word_token_from : (word : List ℕ) (token : Token) → IsWord word → SpellsToken word token → word_token word ≡ Some token
unfolding word_token
word_token_from [] token is stands = absurd is
word_token_from (c ∷ cs) (Number n) is stands =
    cond-true (is_ascii_digit c) (number_token (word_number (c ∷ cs))) (Some (Name (encode_utf8_all (c ∷ cs)))) (number_begins c n cs stands)
    ∙ ap number_token (word_number_from n (c ∷ cs) stands)
word_token_from (c ∷ cs) (Name bytes) is stands =
    cond-false (is_ascii_digit c) (number_token (word_number (c ∷ cs))) (Some (Name (encode_utf8_all (c ∷ cs)))) (begins_name-no_digit c stands.0)
    ∙ ap (λ b. Some (Name b)) (sym stands.1)
