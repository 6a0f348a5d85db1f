-- The tokens of a tree, from left to right.
use Rattle.std.specs.Prelude.{ℕ, ◌+◌, max, List, [], ◌∷◌, ◌++◌, map}
use Rattle.kat_tree.specs.declared.tree.Token.{Token}
use Rattle.kat_tree.specs.declared.tree.Tree.{Tree}
use Rattle.kat_tree.specs.declared.tree.Tree.TheOpen.{Tree-F}
use Rattle.kat_tree.specs.declared.tree.Tree.TheFolds.{fold-Tree}

-- a token: a bracket, a number or a name
pub data Lexeme : Type 0 where
  Opening : Lexeme
  Closing : Lexeme
  Leaf : (token : Token) → Lexeme

-- lists one behind the other
abbrev pub joined : {A : Type 0} → List (List A) → List A
joined [] = []
joined (xs ∷ more) = xs ++ joined more

-- one layer of a tree, with the tokens of its parts
abbrev pub lexemes_in : Tree-F (List Lexeme) → List Lexeme
lexemes_in (Tree-F.Atom token) = Leaf token ∷ []
lexemes_in (Tree-F.List parts) = Opening ∷ (joined parts ++ Closing ∷ [])

-- the tokens that a tree is written with
abbrev pub lexemes_of : Tree → List Lexeme
lexemes_of = fold-Tree (List Lexeme) lexemes_in

-- those of trees side by side
abbrev pub lexemes_of_all : List Tree → List Lexeme
lexemes_of_all trees = joined (map lexemes_of trees)

-- the greatest of a list of numbers
abbrev pub greatest : List ℕ → ℕ
greatest [] = 0
greatest (n ∷ ns) = max n (greatest ns)

-- one layer of a tree, with the nesting of its parts
abbrev pub nesting_in : Tree-F ℕ → ℕ
nesting_in (Tree-F.Atom token) = 0
nesting_in (Tree-F.List parts) = greatest parts + 1

-- the most brackets of a tree that are open at once
abbrev pub nesting : Tree → ℕ
nesting = fold-Tree ℕ nesting_in

-- as many brackets of a text may be open at once
abbrev pub most_open : ℕ
most_open = 64

-- that of trees side by side
abbrev pub nesting_of_all : List Tree → ℕ
nesting_of_all trees = greatest (map nesting trees)
