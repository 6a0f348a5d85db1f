-- Which fault of bytes is the first one from left to right.
use Rattle.std.specs.Prelude.{◌≡◌, ◌≢◌, ℕ, ◌+◌, ◌≤◌, ◌⊎◌, List, [], ◌∷◌, ◌++◌, length, Result, Ok, Err, IsFalse, encode_utf8_all}
use Rattle.std.specs.Str.{IsUtf8, IsValidUpTo, chars}
use Rattle.kat_tree.specs.declared.error.TreeError.{TreeError}
use Rattle.kat_tree.specs.declared.error.TreeError.TheVariants.{NotText, Unclosed, Stray, BadToken, Deep, Memory}
use Rattle.kat_tree.specs.declared.tree.Token.{Token}
use Rattle.kat_tree.specs.declared.tree.Tree.{Tree}
use Rattle.kat_tree.specs.Character.{is_blank, begins_word}
use Rattle.kat_tree.specs.Lexeme.{Lexeme, Opening, Closing, Leaf, lexemes_of, most_open, nesting}
use Rattle.kat_tree.specs.Spelling.{Lexes, IsWord, EndsWord, SpellsToken, IsTextOf, Spells}

-- these tokens begin the tokens of a tree, and are not all of them
pub record IsUnfinished (lexemes : List Lexeme) : Type 0 where
  pub more : List Lexeme
  pub tree : Tree
  pub some : more ≢ []
  pub begins : lexemes ++ more ≡ lexemes_of tree
  pub shallow : nesting tree ≤ most_open

-- these tokens are those of a tree
pub record IsFinished (lexemes : List Lexeme) : Type 0 where
  pub tree : Tree
  pub whole : lexemes ≡ lexemes_of tree
  pub shallow : nesting tree ≤ most_open

-- how many brackets open
abbrev pub openings : List Lexeme → ℕ
openings [] = 0
openings (Opening ∷ lexemes) = openings lexemes + 1
openings (Closing ∷ lexemes) = openings lexemes
openings (Leaf token ∷ lexemes) = openings lexemes

-- how many brackets close
abbrev pub closings : List Lexeme → ℕ
closings [] = 0
closings (Opening ∷ lexemes) = closings lexemes
closings (Closing ∷ lexemes) = closings lexemes + 1
closings (Leaf token ∷ lexemes) = closings lexemes

-- a character stands at the front
abbrev pub BeginsWith : ℕ → List ℕ → Type 0
BeginsWith c [] = ⊥
BeginsWith c (d ∷ text) = d ≡ c

-- at the front stands what is neither a blank nor a comment
abbrev pub BeginsMore : List ℕ → Type 0
BeginsMore [] = ⊥
BeginsMore (c ∷ text) = IsFalse (is_blank c) × (c ≢ 59)

-- a character that begins no blank, no comment and no token
pub record BeginsNothing (c : ℕ) : Type 0 where
  pub no_blank : IsFalse (is_blank c)
  pub no_comment : c ≢ 59
  pub no_opening : c ≢ 40
  pub no_closing : c ≢ 41
  pub no_word : IsFalse (begins_word c)

-- a whole word that spells no token
pub record IsBadWord (text : List ℕ) : Type 0 where
  pub word : List ℕ
  pub behind : List ℕ
  pub parts : text ≡ word ++ behind
  pub is_word : IsWord word
  pub ends : EndsWord behind
  pub bad : (token : Token) → SpellsToken word token → ⊥

-- at the front stands neither a blank, a comment nor a token
abbrev pub BeginsNoToken : List ℕ → Type 0
BeginsNoToken [] = ⊥
BeginsNoToken (c ∷ text) = BeginsNothing c ⊎ IsBadWord (c ∷ text)

-- how many bytes characters take
abbrev pub size : List ℕ → ℕ
size text = length (encode_utf8_all text)

-- at an offset in bytes the tokens end that stand at the front, and a rest begins
pub record Front (text : List ℕ) (offset : ℕ) (lexemes : List Lexeme) (rest : List ℕ) : Type 0 where
  pub lexes : Lexes text lexemes rest
  pub offset_is : offset + size rest ≡ size text

-- the text ends before its tree
pub record EndsEarly (text : List ℕ) (offset : ℕ) : Type 0 where
  pub lexemes : List Lexeme
  pub front : Front text offset lexemes []
  pub unfinished : IsUnfinished lexemes

-- where the tree is not whole yet, no token stands
pub record HasBadToken (text : List ℕ) (offset : ℕ) : Type 0 where
  pub lexemes : List Lexeme
  pub rest : List ℕ
  pub front : Front text offset lexemes rest
  pub unfinished : IsUnfinished lexemes
  pub bad : BeginsNoToken rest

-- where as many brackets are open as may be, one more opens
pub record IsTooDeep (text : List ℕ) (offset : ℕ) : Type 0 where
  pub lexemes : List Lexeme
  pub rest : List ℕ
  pub front : Front text offset lexemes rest
  pub unfinished : IsUnfinished lexemes
  pub full : openings lexemes ≡ closings lexemes + most_open
  pub opens : BeginsWith 40 rest

-- before any token a `)` stands
pub record ClosesNothing (text : List ℕ) (offset : ℕ) : Type 0 where
  pub rest : List ℕ
  pub front : Front text offset [] rest
  pub closes : BeginsWith 41 rest

-- behind a whole tree something stands
pub record GoesOn (text : List ℕ) (offset : ℕ) : Type 0 where
  pub lexemes : List Lexeme
  pub rest : List ℕ
  pub front : Front text offset lexemes rest
  pub finished : IsFinished lexemes
  pub more : BeginsMore rest

-- how the reading of characters ends: with their tree, or with their first fault
abbrev pub ReadsAs : List ℕ → Result Tree TreeError → Type 0
ReadsAs text (Ok tree) = IsTextOf text tree
ReadsAs text (Err (NotText offset)) = ⊥
ReadsAs text (Err (Unclosed offset)) = EndsEarly text offset
ReadsAs text (Err (Stray offset)) = ClosesNothing text offset ⊎ GoesOn text offset
ReadsAs text (Err (BadToken offset)) = HasBadToken text offset
ReadsAs text (Err (Deep offset)) = IsTooDeep text offset
ReadsAs text (Err Memory) = ⊥

-- the first fault of bytes: those that are no text have that fault alone, at the end of their
-- longest front that is
abbrev pub IsFirstFault : List ℕ → TreeError → Type 0
IsFirstFault bytes (NotText offset) = (IsUtf8 bytes → ⊥) × IsValidUpTo bytes offset
IsFirstFault bytes (Unclosed offset) = IsUtf8 bytes × ReadsAs (chars bytes) (Err (Unclosed offset))
IsFirstFault bytes (Stray offset) = IsUtf8 bytes × ReadsAs (chars bytes) (Err (Stray offset))
IsFirstFault bytes (BadToken offset) = IsUtf8 bytes × ReadsAs (chars bytes) (Err (BadToken offset))
IsFirstFault bytes (Deep offset) = IsUtf8 bytes × ReadsAs (chars bytes) (Err (Deep offset))
IsFirstFault bytes Memory = ⊥

-- what is owed for bytes: their tree, or their first fault
abbrev pub Owes : List ℕ → Result Tree TreeError → Type 0
Owes bytes (Ok tree) = Spells bytes tree
Owes bytes (Err fault) = IsFirstFault bytes fault
