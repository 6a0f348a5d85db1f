-- Words of letters are words of a line.
use Rattle.std.proofs.Common.{◌≡◌, ◌≢◌, ℕ, ◌<◌, ◌≤◌, ◌==◌, ◌&&◌, eqb, Bool, true, false, List, [], ◌∷◌, refl, arith}
use Rattle.std.specs.List.{AllByRecursion}
use Rattle.std.specs.Prelude.{nat_le, nat_lt}
use Rattle.std.specs.Str.{IsAscii}
use Rattle.std.proofs.lemmas.Bool.{and_parts, leb-true, ltb-true, ne_eqb, or_from}
use Rattle.std.proofs.lemmas.List.Elements.{All-cons, All-nil}
use Rattle.std.proofs.lemmas.Str.{IsUtf8-from_ascii}
use Rattle.std.proofs.lemmas.Str.Ascii.{IsAscii-cons, IsAscii-nil}
use Rattle.kat_image.specs.Image.{Lacks}
use Rattle.kat_image.specs.ReadsBack.{IsPlainWord}
use Rattle.kat_image.specs.Words.{ends_word}

-- whether all bytes are above the brackets, and ASCII
abbrev pub are_letters : List ℕ → Bool
are_letters [] = true
are_letters (b ∷ word) = (nat_le 42 b && nat_lt b 128) && are_letters word

letter_range : (b : ℕ) (word : List ℕ) → are_letters (b ∷ word) ≡ true →
    (42 ≤ b) × (b < 128) × (are_letters word ≡ true)
letter_range b word h =
    let all = and_parts (nat_le 42 b && nat_lt b 128) (are_letters word) h in
    let range = and_parts (nat_le 42 b) (nat_lt b 128) all.0 in
    (leb-true 42 b range.0, ltb-true b 128 range.1, all.1)

letters_ascii : (word : List ℕ) → are_letters word ≡ true → IsAscii word
letters_ascii [] h = IsAscii-nil
letters_ascii (b ∷ word) h =
    let range = letter_range b word h in
    IsAscii-cons b word range.1 (letters_ascii word range.2)

letters_go_on : (word : List ℕ) → are_letters word ≡ true →
    AllByRecursion (λ byte. ends_word byte ≡ false) word
letters_go_on [] h = tt
letters_go_on (b ∷ word) h =
    let range = letter_range b word h in
    let no_space : eqb b 32 ≡ false = ne_eqb b 32 (λ e. omega (arith, range.0, e)) in
    let no_bracket : eqb b 41 ≡ false = ne_eqb b 41 (λ e. omega (arith, range.0, e)) in
    (or_from (b == 32) (b == 41) no_space no_bracket, letters_go_on word range.2)

letters_lack : (word : List ℕ) → are_letters word ≡ true → Lacks 10 word
letters_lack [] h = All-nil (λ b. b ≢ 10)
letters_lack (b ∷ word) h =
    let range = letter_range b word h in
    All-cons (λ b. b ≢ 10) b word (λ e. omega (arith, range.0, e)) (letters_lack word range.2)

-- a word of letters
pub letters_plain : (word : List ℕ) → are_letters word ≡ true → IsPlainWord word
letters_plain word h = record {
  utf8 = IsUtf8-from_ascii word (letters_ascii word h);
  goes_on = letters_go_on word h;
  one_line = letters_lack word h;
}
