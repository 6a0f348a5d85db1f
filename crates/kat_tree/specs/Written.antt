-- The canonical text of a tree, and which trees have one.
use Rattle.std.specs.Prelude.{◌≡◌, ℕ, ◌^◌, ◌<◌, ◌≤◌, List, [], ◌∷◌, ◌++◌, encode_utf8_all}
use Rattle.std.specs.Fmt.{decimal}
use Rattle.std.specs.List.{AllByRecursion}
use Rattle.std.specs.Str.{IsUtf8}
use Rattle.kat_tree.specs.declared.tree.Token.{Token}
use Rattle.kat_tree.specs.declared.tree.Token.TheVariants.{Number, Name}
use Rattle.kat_tree.specs.declared.tree.Tree.{Tree}
use Rattle.kat_tree.specs.declared.tree.Tree.TheOpen.{Tree-F}
use Rattle.kat_tree.specs.declared.tree.Tree.TheFolds.{fold-Tree}
use Rattle.kat_tree.specs.Lexeme.{joined, most_open, nesting}
use Rattle.kat_tree.specs.Spelling.{BeginsName, IsWord}

-- the bytes are text, and their characters are a letter or `_` and then characters of XID_Continue
pub record IsNameToken (bytes : List ℕ) : Type 0 where
  pub word : List ℕ
  pub begins : BeginsName word
  pub is_word : IsWord word
  pub bytes_are : bytes ≡ encode_utf8_all word
  pub utf8 : IsUtf8 bytes

-- a number is below 2^64, a name is one that tree text can spell
abbrev pub IsToken : Token → Type 0
IsToken (Number n) = n < 2 ^ 64
IsToken (Name bytes) = IsNameToken bytes

-- one layer of a tree, with the numbers and names of its parts
abbrev pub tokens_in : Tree-F (List Token) → List Token
tokens_in (Tree-F.Atom token) = token ∷ []
tokens_in (Tree-F.List parts) = joined parts

-- the numbers and names of a tree, from left to right
abbrev pub tokens_of : Tree → List Token
tokens_of = fold-Tree (List Token) tokens_in

-- some bytes spell the tree: its tokens are such, and it nests no deeper than a text may
pub record IsWritable (tree : Tree) : Type 0 where
  pub tokens : AllByRecursion IsToken (tokens_of tree)
  pub nesting : nesting tree ≤ most_open

-- a number in decimal, a name as it is
abbrev pub text_of_token : Token → List ℕ
text_of_token (Number n) = decimal n
text_of_token (Name bytes) = bytes

-- texts that each follow a space
abbrev pub behind_spaces : List (List ℕ) → List ℕ
behind_spaces [] = []
behind_spaces (text ∷ texts) = 32 ∷ (text ++ behind_spaces texts)

-- texts with one space between two
abbrev pub spaced : List (List ℕ) → List ℕ
spaced [] = []
spaced (text ∷ texts) = text ++ behind_spaces texts

-- one layer of a tree, with the texts of its parts
abbrev pub text_in : Tree-F (List ℕ) → List ℕ
text_in (Tree-F.Atom token) = text_of_token token
text_in (Tree-F.List texts) = 40 ∷ (spaced texts ++ 41 ∷ [])

-- the bytes of a tree with one space between two trees, none inside the brackets' ends, and no
-- comment
abbrev pub text_of_tree : Tree → List ℕ
text_of_tree = fold-Tree (List ℕ) text_in
