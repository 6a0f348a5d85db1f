-- Words with and without `0x` before their digits.
use Rattle.std.proofs.Common.{◌≡◌, ◌≢◌, ℕ, eqb, ◌&&◌, List, [], ◌∷◌, Option, Some, None, sym, ap, ◌∙◌, refl, arith}
use Rattle.std.specs.Prelude.{encode_utf8_all, IfSome}
use Rattle.std.specs.Str.{chars, IsUtf8}
use Rattle.std.proofs.lemmas.Bool.{cond-false, eqb-true, and_parts, false_from_ne_true}
use Rattle.std.proofs.lemmas.Str.{encodes-chars}
use Rattle.kat_tree.specs.declared.tree.Token.TheVariants.{Number}
use Rattle.kat_tree.specs.Number.{digits_number, word_number}
use Rattle.kat_tree.specs.Spelling.{SpellsToken}
use Rattle.kat_tree.proofs.Text.{encode_utf8_all-ascii, IsUtf8-behind, chars-ascii}
use Rattle.kat_tree.proofs.Words.{word_number_is, word_number_from}

-- behind the mark
pub IsUtf8-behind_mark : (word digits : List ℕ) → IsUtf8 word → word ≡ 48 ∷ 120 ∷ digits → IsUtf8 digits
IsUtf8-behind_mark word digits text e =
    IsUtf8-behind (120 ∷ digits) digits 120 (omega arith) (IsUtf8-behind word (120 ∷ digits) 48 (omega arith) text e) refl

pub marked_number : (word digits : List ℕ) → IsUtf8 word → word ≡ 48 ∷ 120 ∷ digits → word_number (chars word) ≡ digits_number 16 (chars digits)
marked_number word digits text e =
    let behind = IsUtf8-behind word (120 ∷ digits) 48 (omega arith) text e in
    let first : chars word ≡ 48 ∷ chars (120 ∷ digits) = chars-ascii word (120 ∷ digits) 48 (omega arith) text e in
    let second : chars (120 ∷ digits) ≡ 120 ∷ chars digits = chars-ascii (120 ∷ digits) digits 120 (omega arith) behind refl in
    ap word_number (first ∙ ap (λ cs. 48 ∷ cs) second)

-- with no mark
plain_characters : (cs : List ℕ) → ((more : List ℕ) → cs ≢ 48 ∷ 120 ∷ more) → word_number cs ≡ digits_number 10 cs
plain_characters [] none = refl
plain_characters (c ∷ []) none = refl
plain_characters (c ∷ d ∷ more) none =
    cond-false (eqb c 48 && eqb d 120) (digits_number 16 more) (digits_number 10 (c ∷ d ∷ more)) (false_from_ne_true (eqb c 48 && eqb d 120) (λ test.
    let parts = and_parts (eqb c 48) (eqb d 120) test in
    none more (ap (λ x. x ∷ d ∷ more) (eqb-true c 48 parts.0) ∙ ap (λ x. 48 ∷ x ∷ more) (eqb-true d 120 parts.1))))

pub plain_number : (word : List ℕ) → IsUtf8 word → ((rest : List ℕ) → word ≢ 48 ∷ 120 ∷ rest) → word_number (chars word) ≡ digits_number 10 (chars word)
plain_number word text none = plain_characters (chars word) (λ more e.
    none (encode_utf8_all more)
    (sym (encodes-chars word text) ∙ ap encode_utf8_all e
    ∙ encode_utf8_all-ascii 48 (120 ∷ more) (120 ∷ encode_utf8_all more) (omega arith) (encode_utf8_all-ascii 120 more (encode_utf8_all more) (omega arith) refl)))

-- what the number of a word says of it
pub number_stands : (word : List ℕ) (r : Option ℕ) → word_number word ≡ r → IfSome r (λ n. SpellsToken word (Number n))
number_stands word None e = tt
number_stands word (Some n) e = word_number_is n word e

pub number_only : (word : List ℕ) (r : Option ℕ) → word_number word ≡ r → (n : ℕ) → SpellsToken word (Number n) → r ≡ Some n
number_only word r e n stands = sym e ∙ word_number_from n word stands
