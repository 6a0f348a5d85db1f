-- Which bytes spell which tree: the grammar of tree text.
use Rattle.std.specs.Prelude.{◌≡◌, ◌≢◌, ℕ, ◌+◌, ◌*◌, ◌^◌, ◌<◌, ◌≤◌, ◌⊎◌, List, [], ◌∷◌, ◌++◌, ⊤, IsTrue, IsFalse, encode_utf8_all}
use Rattle.std.specs.Char.{digit_value}
use Rattle.std.specs.List.{AllByRecursion}
use Rattle.std.specs.Str.{IsUtf8, chars}
use Rattle.unicode_ident.specs.Ident.{is_xid_continue}
use Rattle.kat_tree.specs.declared.tree.Token.{Token}
use Rattle.kat_tree.specs.declared.tree.Token.TheVariants.{Number, Name}
use Rattle.kat_tree.specs.declared.tree.Tree.{Tree}
use Rattle.kat_tree.specs.Character.{is_blank, begins_name, begins_word}
use Rattle.kat_tree.specs.Lexeme.{Lexeme, Opening, Closing, Leaf, lexemes_of, most_open, nesting}

-- the number that digits of a base make behind a number
abbrev pub value_behind : ℕ → ℕ → List ℕ → ℕ
value_behind base number [] = number
value_behind base number (digit ∷ digits) =
    value_behind base (number * base + digit_value digit) digits

-- at least one digit of the base, and a number below 2^64
pub record IsNumeral (base : ℕ) (digits : List ℕ) (number : ℕ) : Type 0 where
  pub some : digits ≢ []
  pub all : AllByRecursion (λ digit. digit_value digit < base) digits
  pub value : number ≡ value_behind base 0 digits
  pub fits : number < 2 ^ 64

-- `0x` and hexadecimal digits of either case
pub record IsHexadecimal (word : List ℕ) (number : ℕ) : Type 0 where
  pub digits : List ℕ
  pub marked : word ≡ 48 ∷ 120 ∷ digits
  pub numeral : IsNumeral 16 digits number

-- a name begins with a letter or `_`
abbrev pub BeginsName : List ℕ → Type 0
BeginsName [] = ⊥
BeginsName (c ∷ cs) = IsTrue (begins_name c)

-- a word begins with a digit, a letter or `_`, and characters of XID_Continue follow
abbrev pub IsWord : List ℕ → Type 0
IsWord [] = ⊥
IsWord (c ∷ cs) = IsTrue (begins_word c) × AllByRecursion (λ d. IsTrue (is_xid_continue d)) cs

-- which token a word spells
abbrev pub SpellsToken : List ℕ → Token → Type 0
SpellsToken word (Number n) = IsNumeral 10 word n ⊎ IsHexadecimal word n
SpellsToken word (Name bytes) = BeginsName word × (bytes ≡ encode_utf8_all word)

-- a word takes every character of XID_Continue that follows: none stands behind it
abbrev pub EndsWord : List ℕ → Type 0
EndsWord [] = ⊤
EndsWord (c ∷ cs) = IsFalse (is_xid_continue c)

-- a comment goes up to a newline or the end
abbrev pub EndsComment : List ℕ → Type 0
EndsComment [] = ⊤
EndsComment (c ∷ cs) = c ≡ 10

-- characters, the tokens that stand at their front, and the rest: blanks and comments stand
-- between tokens
pub data Lexes : List ℕ → List Lexeme → List ℕ → Type 0 where
  nothing : (text : List ℕ) → Lexes text [] text
  blank :
      (c : ℕ) (text : List ℕ) (lexemes : List Lexeme) (rest : List ℕ) → IsTrue (is_blank c) →
      Lexes text lexemes rest → Lexes (c ∷ text) lexemes rest
  comment :
      (words text : List ℕ) (lexemes : List Lexeme) (rest : List ℕ) →
      AllByRecursion (λ c. c ≢ 10) words → EndsComment text → Lexes text lexemes rest →
      Lexes (59 ∷ (words ++ text)) lexemes rest
  opening :
      (text : List ℕ) (lexemes : List Lexeme) (rest : List ℕ) →
      Lexes text lexemes rest → Lexes (40 ∷ text) (Opening ∷ lexemes) rest
  closing :
      (text : List ℕ) (lexemes : List Lexeme) (rest : List ℕ) →
      Lexes text lexemes rest → Lexes (41 ∷ text) (Closing ∷ lexemes) rest
  word :
      (word text : List ℕ) (token : Token) (lexemes : List Lexeme) (rest : List ℕ) →
      IsWord word → SpellsToken word token → EndsWord text → Lexes text lexemes rest →
      Lexes (word ++ text) (Leaf token ∷ lexemes) rest

-- the characters are those of one tree, with blanks around it and no more open brackets than may be
abbrev pub IsTextOf : List ℕ → Tree → Type 0
IsTextOf text tree = Lexes text (lexemes_of tree) [] × (nesting tree ≤ most_open)

-- the bytes are UTF-8, and their characters are those of the tree
abbrev pub Spells : List ℕ → Tree → Type 0
Spells bytes tree = IsUtf8 bytes × IsTextOf (chars bytes) tree
