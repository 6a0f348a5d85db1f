-- A line of cells is read back, and is one line.
use Rattle.std.proofs.Common.{◌≡◌, ◌≢◌, ℕ, zero, suc, ◌+◌, ◌-◌, ◌/◌, ◌%◌, ◌<◌, ◌≤◌, ◌^◌, ◌==◌, ◌&&◌, eqb, Bool, true, false, List, [], ◌∷◌, ◌++◌, length, Option, None, Some, inl, inr, refl, ap, ◌∙◌, arith, codes, decimal}
use Rattle.std.specs.List.{AllByRecursion}
use Rattle.std.specs.Option.{option_map}
use Rattle.std.specs.Prelude.{IsTrue, nat_le, nat_lt, option_and_then, unwrap_or}
use Rattle.std.specs.Str.{IsAscii}
use Rattle.std.specs.Str.Parse.{AllDigits}
use Rattle.std.proofs.lemmas.Bool.{and_from, and_parts, cases_lt, cond-true, cond-false, le-leb, leb-true, le-ltb, lt-ltb, ltb-true, ne_eqb, or_from}
use Rattle.std.proofs.lemmas.Fmt.{IsAscii-decimal, decimal_is_IsNumeral}
use Rattle.std.proofs.lemmas.List.Elements.{All-append, All-cons, All-nil, All-push}
use Rattle.std.proofs.lemmas.Str.{IsUtf8-from_ascii}
use Rattle.std.proofs.lemmas.Str.Ascii.{IsAscii-cons, IsAscii-nil}
use Rattle.std.proofs.lemmas.Str.Parse.{digit_from_value}
use Rattle.hex.specs.Hex.{decode_of}
use Rattle.kat_text.specs.Hexadecimal.{hex_digit, hex_digits}
use Rattle.kat_value.specs.Widths.{is_number, is_width}
use Rattle.kat_ast.specs.Spec.{Spec}
use Rattle.kat_syntax.specs.Memories.{Memory}
use Rattle.kat_syntax.specs.States.{cell_width, memory_of}
use Rattle.kat_image.specs.declared.setting.Setting.{Setting}
use Rattle.kat_image.specs.declared.setting.Setting.TheVariants.{Cells}
use Rattle.kat_image.specs.Image.{Lacks}
use Rattle.kat_image.specs.ImageText.{digits_of_cell}
use Rattle.kat_image.specs.Lines.{cells_setting, decoded, numbers_in, placed, placed_in, said_by, setting_of, size_of_cell}
use Rattle.kat_image.specs.ReadsBack.{CellLinesComeBack, HasImageNames, IsPlainWord, cell_digits, cells_line}
use Rattle.kat_image.specs.Words.{behind, ends_word, index_of}
use Rattle.kat_image.proofs.PlainWords.{letters_plain}
use Rattle.kat_image.proofs.WordsBack.{indices_back, words_back}
use Rattle.kat_image.proofs.CellBytes.{cell_bytes, cells_decode, numbers_back}

-- no digit is a newline
digit_lacks : (d : ℕ) → hex_digit d ≢ 10
digit_lacks d e =
    elim (cases_lt d 10) [
      | inl a ↦
          omega (arith, e, cond-true (nat_lt d 10) (48 + d) (87 + d) (lt-ltb d 10 a))
      | inr a ↦
          omega (arith, e, cond-false (nat_lt d 10) (48 + d) (87 + d) (le-ltb d 10 a))
    ]

digits_lack : (count n : ℕ) → Lacks 10 (hex_digits count n)
digits_lack zero n = All-nil (λ b. b ≢ 10)
digits_lack (suc count) n =
    All-push (λ b. b ≢ 10) (hex_digits count (n / 16)) (hex_digit (n % 16))
    (digits_lack count (n / 16)) (digit_lacks (n % 16))

cells_lack : (count : ℕ) (numbers : List ℕ) → Lacks 10 (cell_digits count numbers)
cells_lack count [] = All-nil (λ b. b ≢ 10)
cells_lack count (n ∷ numbers) =
    All-append (λ b. b ≢ 10) (hex_digits count n) (cell_digits count numbers)
    (digits_lack count n) (cells_lack count numbers)

-- a decimal number is one word
goes_on : (ds : List ℕ) → AllDigits 10 ds → AllByRecursion (λ byte. ends_word byte ≡ false) ds
goes_on [] all = tt
goes_on (d ∷ ds) all =
    let digit = digit_from_value d all.0 in
    let no_space : eqb d 32 ≡ false = ne_eqb d 32 (λ e. omega (arith, digit, e)) in
    let no_bracket : eqb d 41 ≡ false = ne_eqb d 41 (λ e. omega (arith, digit, e)) in
    (or_from (d == 32) (d == 41) no_space no_bracket, goes_on ds all.1)

decimal_lacks : (ds : List ℕ) → AllDigits 10 ds → Lacks 10 ds
decimal_lacks [] all = All-nil (λ b. b ≢ 10)
decimal_lacks (d ∷ ds) all =
    let digit = digit_from_value d all.0 in
    All-cons (λ b. b ≢ 10) d ds (λ e. omega (arith, digit, e)) (decimal_lacks ds all.1)

index_plain : (index : ℕ) → index < 2 ^ 64 → IsPlainWord (decimal index)
index_plain index fits =
    let digits = (decimal_is_IsNumeral index fits).0.1 in
    record {
      utf8 = IsUtf8-from_ascii (decimal index) (IsAscii-decimal index fits);
      goes_on = goes_on (decimal index) digits;
      one_line = decimal_lacks (decimal index) digits;
    }

-- `cells` is one word
cells_plain : IsPlainWord (codes "cells")
cells_plain = letters_plain (codes "cells") refl

-- what cells are placed at
placed_back : (index : ℕ) (numbers : List ℕ) (memory : Memory) → memory.lo ≤ index →
    index + length numbers ≤ memory.hi →
    placed_in numbers index memory ≡ Some (Cells (index - memory.lo) numbers)
placed_back index numbers memory low high =
    let lo = nat_le memory.lo index in
    let hi = nat_le (index + length numbers) memory.hi in
    cond-true (lo && hi) (Some (Cells (index - memory.lo) numbers)) None
    (and_from lo hi (le-leb memory.lo index low) (le-leb (index + length numbers) memory.hi high))

module _ (spec : Spec) (memory : Memory) (index : ℕ) (numbers : List ℕ)
    (there : memory_of spec.decls ≡ Some memory) (small : index < 2 ^ 64) where
  abbrev hex : List ℕ
  hex = cell_digits (digits_of_cell memory.cell_width) numbers

  abbrev line : List ℕ
  line = cells_line memory.cell_width index numbers

  -- what is read behind the index
  abbrev said_at : Option ℕ → Option Setting
  said_at o =
      option_and_then (λ at.
      option_and_then (placed spec at)
      (option_and_then (numbers_in (cell_width spec.decls)) (decoded (decode_of hex)))) o

  numbers_read : IsTrue (is_width memory.cell_width) → 0 < length numbers →
      AllByRecursion (λ n. IsTrue (is_number memory.cell_width n)) numbers →
      option_and_then (numbers_in (cell_width spec.decls)) (decoded (decode_of hex)) ≡ Some numbers
  numbers_read is some fits =
      let width : cell_width spec.decls ≡ memory.cell_width =
      ap (λ m. unwrap_or (option_map (λ (memory : Memory). memory.cell_width) m) 0) there in
      ap (λ r. option_and_then (numbers_in (cell_width spec.decls)) (decoded r))
      (cells_decode memory.cell_width numbers)
      ∙ ap (λ w. numbers_in w (cell_bytes (size_of_cell memory.cell_width) numbers)) width
      ∙ numbers_back memory.cell_width numbers is some fits

  setting_read : memory.lo ≤ index → index + length numbers ≤ memory.hi →
      IsTrue (is_width memory.cell_width) → 0 < length numbers →
      AllByRecursion (λ n. IsTrue (is_number memory.cell_width n)) numbers →
      cells_setting spec (decimal index ++ 32 ∷ hex) ≡ Some (Cells (index - memory.lo) numbers)
  setting_read low high is some fits =
      ap (option_and_then (λ (word : List ℕ × List ℕ).
      option_and_then (λ index.
      option_and_then (λ hex.
      option_and_then (placed spec index)
      (option_and_then (numbers_in (cell_width spec.decls)) (decoded (decode_of hex))))
      (behind 32 word.1))
      (index_of word.0)))
      (words_back (decimal index) (32 ∷ hex) (index_plain index small) refl)
      ∙ ap said_at (indices_back index small)
      ∙ ap (option_and_then (placed spec index)) (numbers_read is some fits)
      ∙ ap (option_and_then (placed_in numbers index)) there
      ∙ placed_back index numbers memory low high

  -- the line, by its first word
  line_read : setting_of spec line ≡ cells_setting spec (decimal index ++ 32 ∷ hex)
  line_read =
      ap (option_and_then (λ (keyword : List ℕ × List ℕ).
      option_and_then (said_by spec keyword.0) (behind 32 keyword.1)))
      (words_back (codes "cells") (32 ∷ decimal index ++ 32 ∷ hex) cells_plain refl)

  line_lacks : Lacks 10 line
  line_lacks =
      let digits = (decimal_is_IsNumeral index small).0.1 in
      All-append (λ b. b ≢ 10) (codes "cells") (32 ∷ decimal index ++ 32 ∷ hex)
      cells_plain.one_line
      (All-cons (λ b. b ≢ 10) 32 (decimal index ++ 32 ∷ hex) (λ e. omega (arith, e))
      (All-append (λ b. b ≢ 10) (decimal index) (32 ∷ hex) (decimal_lacks (decimal index) digits)
      (All-cons (λ b. b ≢ 10) 32 hex (λ e. omega (arith, e))
      (cells_lack (digits_of_cell memory.cell_width) numbers))))

-- a line of cells is read back, and is one line
pub cell_lines_back : (spec : Spec) → HasImageNames spec → CellLinesComeBack spec
cell_lines_back spec names memory index numbers there low high some fits =
    let of_memory = names.memory memory there in
    let small : index < 2 ^ 64 = omega (arith, high, some, of_memory.1) in (
      line_read spec memory index numbers there small
          ∙ setting_read spec memory index numbers there small low high of_memory.0 some fits,
      line_lacks spec memory index numbers there small,
    )
