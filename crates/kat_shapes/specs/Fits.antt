-- Whether a tree and all trees in it can be read as a sort, computed from its parts.
use Rattle.std.specs.Prelude.{ℕ, Bool, true, false, ◌&&◌, List, [], ◌∷◌, length, Option, Some, None}
use Rattle.kat_tree.specs.declared.tree.Token.{Token}
use Rattle.kat_tree.specs.declared.tree.Token.TheVariants as token
use Rattle.kat_tree.specs.declared.tree.Tree.{Tree}
use Rattle.kat_tree.specs.declared.tree.Tree.TheOpen.{Tree-F}
use Rattle.kat_tree.specs.declared.tree.Tree.TheFolds.{fold-Tree}
use Rattle.kat_shapes.specs.declared.sort.Sort.{Sort}
use Rattle.kat_shapes.specs.Forms.{sorts_for, fits_token, newest}

-- a tree seen by who reads it as this or that: the name that it is, if it is one, and what it fits
pub record Judged : Type 0 where
  pub word : Option (List ℕ)
  pub fits : Sort → Bool

-- the name that a token is, if it is one
abbrev pub name_of : Token → Option (List ℕ)
name_of (token.Name x) = Some x
name_of (token.Number n) = None

-- the word with which a list begins
abbrev pub first_word : List Judged → Option (List ℕ)
first_word [] = None
first_word (part ∷ parts) = part.word

-- whether each part fits its sort
abbrev pub all_fit : List Sort → List Judged → Bool
all_fit (sort ∷ sorts) (part ∷ parts) = part.fits sort && all_fit sorts parts
all_fit _ _ = true

-- whether parts fit the sorts of a list, one each
abbrev pub list_fits : Option (List Sort) → List Judged → Bool
list_fits None parts = false
list_fits (Some sorts) parts = all_fit sorts parts

-- one layer of a tree, in a version of the text
abbrev pub judged_layer : ℕ → Tree-F Judged → Judged
judged_layer version (Tree-F.Atom token) = record {
  word = name_of token;
  fits = λ sort. fits_token version sort token;
}
judged_layer version (Tree-F.List parts) = record {
  word = None;
  fits = λ sort. list_fits (sorts_for version sort (first_word parts) (length parts)) parts;
}

-- a tree with what is judged of it, in a version of the text
abbrev pub judged_in : ℕ → Tree → Judged
judged_in version = fold-Tree Judged (judged_layer version)

-- whether a tree fits a sort in a version of the text
abbrev pub fits_in : ℕ → Sort → Tree → Bool
fits_in version sort tree = (judged_in version tree).fits sort

-- a tree with what is judged of it, in the newest version
abbrev pub judged : Tree → Judged
judged = judged_in newest

-- whether a tree fits a sort in the newest version
abbrev pub fits : Sort → Tree → Bool
fits sort tree = (judged tree).fits sort
