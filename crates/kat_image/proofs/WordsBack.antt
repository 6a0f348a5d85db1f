-- A word is read back, and so are an index and hexadecimal digits.
use Rattle.std.proofs.Common.{◌≡◌, ◌≢◌, eqb, ℕ, zero, suc, ◌+◌, ◌*◌, ◌/◌, ◌%◌, ◌<◌, ◌≤◌, ◌^◌, true, false, if◌then◌else◌, List, [], ◌∷◌, ◌++◌, length, take, drop, Option, None, Some, inl, inr, refl, sym, ap, ◌∙◌, arith}
use Rattle.std.specs.Prelude.{nat_lt, codes}
use Rattle.std.specs.Char.{digit_value, is_ascii_digit}
use Rattle.std.specs.Fmt.{decimal}
use Rattle.std.specs.List.{AllByRecursion}
use Rattle.std.specs.Str.{IsAscii, all_ascii_digits, chars, is_utf8}
use Rattle.std.specs.Str.Parse.{AllDigits, digits_value_after}
use Rattle.std.proofs.Math.Nat.{div-lt_iff_lt-mul, mod-lt}
use Rattle.std.proofs.lemmas.Bool.{and_from, both_ways, eq-eqb, cases_lt, cond-true, cond-false, lt-ltb, le-ltb}
use Rattle.std.proofs.lemmas.Bool.Decides.{nat_tests}
use Rattle.std.proofs.lemmas.Nat.{div-add-mod'}
use Rattle.std.proofs.lemmas.Fmt.{decimal_is_IsNumeral, IsAscii-decimal}
use Rattle.std.proofs.lemmas.List.Elements.{All-from_recursion}
use Rattle.std.proofs.lemmas.Str.{IsAscii-append, IsUtf8-from_ascii, chars-IsAscii, is_utf8-from_IsUtf8, IsUtf8-from_is_utf8}
use Rattle.kat_text.specs.Hexadecimal.{hex_digit, hex_digits}
use Rattle.kat_tree.specs.Spelling.{IsNumeral, value_behind}
use Rattle.kat_image.specs.Image.{Lacks}
use Rattle.kat_image.specs.ReadsBack.{EndsBefore, IsPlainWord, WordsComeBack, IndicesComeBack, DigitsComeBack}
use Rattle.kat_image.specs.Words.{ends_word, number_of, number_spelled, word_front, word_length}
use Rattle.kat_image.proofs.WordLemmas.{spelled_from}

-- the word ends where it did
word_ends_there : (word rest : List ℕ) → AllByRecursion (λ byte. ends_word byte ≡ false) word →
    EndsBefore rest → word_length (word ++ rest) ≡ length word
word_ends_there [] [] goes ends = refl
word_ends_there [] (b ∷ rest) goes ends = cond-true (ends_word b) 0 (word_length rest + 1) ends
word_ends_there (b ∷ word) rest goes ends =
    let step : word_length (b ∷ (word ++ rest)) ≡ word_length (word ++ rest) + 1 =
    cond-false (ends_word b) 0 (word_length (word ++ rest) + 1) goes.0 in
    omega (arith, step, word_ends_there word rest goes.1 ends)

take_front : (word rest : List ℕ) → take (length word) (word ++ rest) ≡ word
take_front [] rest = refl
take_front (b ∷ word) rest = ap (λ w. b ∷ w) (take_front word rest)

drop_front : (word rest : List ℕ) → drop (length word) (word ++ rest) ≡ rest
drop_front [] rest = refl
drop_front (b ∷ word) rest = drop_front word rest

pub words_back : WordsComeBack
words_back word rest plain ends =
    let text = word ++ rest in
    ap (λ n. if is_utf8 (take n text) then Some (take n text, drop n text) else None)
    (word_ends_there word rest plain.goes_on ends)
    ∙ ap (λ w. if is_utf8 w then Some (w, drop (length word) text) else None)
    (take_front word rest)
    ∙ ap (λ r. if is_utf8 word then Some (word, r) else None) (drop_front word rest)
    ∙ cond-true (is_utf8 word) (Some (word, rest)) None (is_utf8-from_IsUtf8 word plain.utf8)

-- decimal digits
is_digit : (c : ℕ) → digit_value c < 10 → is_ascii_digit c ≡ true
is_digit c h = grind (arith, nat_tests)

digits_below : (ds : List ℕ) → AllDigits 10 ds → AllByRecursion (λ d. digit_value d < 10) ds
digits_below [] all = tt
digits_below (d ∷ ds) all = (all.0, digits_below ds all.1)

digits_alone : (ds : List ℕ) → AllDigits 10 ds → all_ascii_digits ds ≡ true
digits_alone [] all = refl
digits_alone (d ∷ ds) all =
    and_from (is_ascii_digit d) (all_ascii_digits ds) (is_digit d all.0) (digits_alone ds all.1)

same_value : (base n : ℕ) (ds : List ℕ) → digits_value_after base n ds ≡ value_behind base n ds
same_value base n [] = refl
same_value base n (d ∷ ds) = same_value base (n * base + digit_value d) ds

-- what has a length is not empty
not_empty : (ds : List ℕ) → 0 < length ds → ds ≡ [] → ⊥
not_empty [] some e = omega arith
not_empty (d ∷ ds) some e = cc

pub indices_back : IndicesComeBack
indices_back index fits =
    let ds = decimal index in
    let is = decimal_is_IsNumeral index fits in
    let numeral : IsNumeral 10 ds index =
    record {
      some = not_empty ds is.0.0;
      all = digits_below ds is.0.1;
      value = sym is.1 ∙ same_value 10 0 ds;
      fits = fits;
    } in
    cond-true (all_ascii_digits ds) (number_of ds) None (digits_alone ds is.0.1)
    ∙ ap number_spelled (chars-IsAscii ds (IsAscii-decimal index fits))
    ∙ spelled_from ds index (inl numeral)

-- hexadecimal digits
value_appended : (base n : ℕ) (xs ys : List ℕ) →
    value_behind base n (xs ++ ys) ≡ value_behind base (value_behind base n xs) ys
value_appended base n [] ys = refl
value_appended base n (x ∷ xs) ys = value_appended base (n * base + digit_value x) xs ys

digit_back : (d : ℕ) → d < 16 → digit_value (hex_digit d) ≡ d
digit_back d h =
    elim (cases_lt d 10) [
      | inl a ↦
          let e = cond-true (nat_lt d 10) (48 + d) (87 + d) (lt-ltb d 10 a) in
          ap digit_value e ∙ low d a
      | inr a ↦
          let e = cond-false (nat_lt d 10) (48 + d) (87 + d) (le-ltb d 10 a) in
          ap digit_value e ∙ high d a h
    ]
  where
    low : (d : ℕ) → d < 10 → digit_value (48 + d) ≡ d
    low d h = grind (arith, nat_tests)

    high : (d : ℕ) → 10 ≤ d → d < 16 → digit_value (87 + d) ≡ d
    high d a h = grind (arith, nat_tests)

digit_small : (d : ℕ) → d < 16 → hex_digit d < 128
digit_small d h =
    elim (cases_lt d 10) [
      | inl a ↦ omega (arith, cond-true (nat_lt d 10) (48 + d) (87 + d) (lt-ltb d 10 a))
      | inr a ↦ omega (arith, cond-false (nat_lt d 10) (48 + d) (87 + d) (le-ltb d 10 a))
    ]

one_ascii : (c : ℕ) → c < 128 → IsAscii (c ∷ [])
one_ascii c h zero = h
one_ascii c h (suc i) = omega arith

pub hex_ascii : (count n : ℕ) → IsAscii (hex_digits count n)
hex_ascii zero n = λ i. omega arith
hex_ascii (suc count) n =
    IsAscii-append (hex_digits count (n / 16)) (hex_digit (n % 16) ∷ [])
    (hex_ascii count (n / 16))
    (one_ascii (hex_digit (n % 16)) (digit_small (n % 16) (mod-lt n (omega arith))))

all_append : (xs : List ℕ) (d : ℕ) → AllByRecursion (λ d. digit_value d < 16) xs →
    digit_value d < 16 → AllByRecursion (λ d. digit_value d < 16) (xs ++ d ∷ [])
all_append [] d all h = (h, tt)
all_append (x ∷ xs) d all h = (all.0, all_append xs d all.1 h)

hex_all : (count n : ℕ) → AllByRecursion (λ d. digit_value d < 16) (hex_digits count n)
hex_all zero n = tt
hex_all (suc count) n =
    let small : n % 16 < 16 = mod-lt n (omega arith) in
    all_append (hex_digits count (n / 16)) (hex_digit (n % 16)) (hex_all count (n / 16))
    (omega (arith, small, digit_back (n % 16) small))

pub hex_value : (count n : ℕ) → n < 16 ^ count → value_behind 16 0 (hex_digits count n) ≡ n
hex_value zero n h = omega arith
hex_value (suc count) n h =
    let front = hex_digits count (n / 16) in
    let less : n / 16 < 16 ^ count =
    (div-lt_iff_lt-mul {k = 16} {x = n} {y = 16 ^ count} (omega arith)).1 (omega arith) in
    let high : value_behind 16 0 front ≡ n / 16 = hex_value count (n / 16) less in
    let low : digit_value (hex_digit (n % 16)) ≡ n % 16 =
    digit_back (n % 16) (mod-lt n (omega arith)) in
    let step : value_behind 16 0 (front ++ hex_digit (n % 16) ∷ [])
    ≡ value_behind 16 0 front * 16 + digit_value (hex_digit (n % 16)) =
    value_appended 16 0 front (hex_digit (n % 16) ∷ []) in
    omega (arith, step, high, low, div-add-mod' n 16)

hex_some : (count n : ℕ) → 0 < count → hex_digits count n ≡ [] → ⊥
hex_some zero n some e = omega arith
hex_some (suc count) n some e = ends (hex_digits count (n / 16)) (hex_digit (n % 16)) e
  where
    ends : (xs : List ℕ) (d : ℕ) → xs ++ d ∷ [] ≡ [] → ⊥
    ends [] d e = cc
    ends (x ∷ xs) d e = cc

marked_ascii : (count n : ℕ) → IsAscii (48 ∷ 120 ∷ hex_digits count n)
marked_ascii count n zero = omega arith
marked_ascii count n (suc zero) = omega arith
marked_ascii count n (suc (suc i)) = hex_ascii count n i

pub digits_back : DigitsComeBack
digits_back count n some small fits =
    let ds = hex_digits count n in
    let numeral : IsNumeral 16 ds n =
    record {
      some = hex_some count n some;
      all = hex_all count n;
      value = sym (hex_value count n small);
      fits = fits;
    } in
    ap number_spelled (chars-IsAscii (48 ∷ 120 ∷ ds) (marked_ascii count n))
    ∙ spelled_from (48 ∷ 120 ∷ ds) n
    (inr (record { digits = ds; marked = refl; numeral = numeral }))

-- what begins with `0x` is a word
digit_above : (d : ℕ) → 48 ≤ hex_digit d
digit_above d =
    elim (cases_lt d 10) [
      | inl a ↦ omega (arith, cond-true (nat_lt d 10) (48 + d) (87 + d) (lt-ltb d 10 a))
      | inr a ↦ omega (arith, cond-false (nat_lt d 10) (48 + d) (87 + d) (le-ltb d 10 a))
    ]

one_behind : (P : ℕ → Type 0) (xs : List ℕ) (d : ℕ) → AllByRecursion P xs → P d →
    AllByRecursion P (xs ++ d ∷ [])
one_behind P [] d all h = (h, tt)
one_behind P (x ∷ xs) d all h = (all.0, one_behind P xs d all.1 h)

hex_above : (count n : ℕ) → AllByRecursion (λ c. 48 ≤ c) (hex_digits count n)
hex_above zero n = tt
hex_above (suc count) n =
    one_behind (λ c. 48 ≤ c) (hex_digits count (n / 16)) (hex_digit (n % 16))
    (hex_above count (n / 16)) (digit_above (n % 16))

goes_above : (cs : List ℕ) → AllByRecursion (λ c. 48 ≤ c) cs →
    AllByRecursion (λ c. ends_word c ≡ false) cs
goes_above [] all = tt
goes_above (c ∷ cs) all = (goes c all.0, goes_above cs all.1)
  where
    goes : (c : ℕ) → 48 ≤ c → ends_word c ≡ false
    goes c h = grind (arith, nat_tests)

lacks_above : (cs : List ℕ) → AllByRecursion (λ c. 48 ≤ c) cs → AllByRecursion (λ c. c ≢ 10) cs
lacks_above [] all = tt
lacks_above (c ∷ cs) all = (lacks c all.0, lacks_above cs all.1)
  where
    lacks : (c : ℕ) → 48 ≤ c → c ≢ 10
    lacks c h e = omega (arith, h, e)

pub hex_word : (count n : ℕ) → IsPlainWord (48 ∷ 120 ∷ hex_digits count n)
hex_word count n =
    let cs = 48 ∷ 120 ∷ hex_digits count n in
    let above : AllByRecursion (λ c. 48 ≤ c) cs = (omega arith, (omega arith, hex_above count n)) in
    record {
      utf8 = IsUtf8-from_ascii cs (marked_ascii count n);
      goes_on = goes_above cs above;
      one_line = All-from_recursion (λ c. c ≢ 10) cs (lacks_above cs above);
    }
