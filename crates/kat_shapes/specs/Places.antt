-- Which tree of a text is read as what, which of them have a form, and the first that has none.
use Rattle.std.specs.Prelude.{◌≡◌, ℕ, ◌+◌, ◌^◌, ◌-◌, ◌<◌, min, Bool, true, false, List, [], ◌∷◌, length, Option, Some, None, slice_get}
use Rattle.std.specs.Option.{is_some}
use Rattle.kat_tree.specs.declared.tree.Tree.{Tree}
use Rattle.kat_tree.specs.declared.tree.Tree.TheVariants as tree
use Rattle.kat_tree.specs.declared.tree.Tree.TheOpen.{Tree-F}
use Rattle.kat_tree.specs.declared.tree.Tree.TheViews.{out-Tree}
use Rattle.kat_tree.specs.Preorder.{place_of_part}
use Rattle.kat_shapes.specs.declared.sort.Sort.{Sort}
use Rattle.kat_shapes.specs.declared.misfit.Misfit.{Misfit}
use Rattle.kat_shapes.specs.Sorts.{wanted_of}
use Rattle.kat_shapes.specs.Forms.{sorts_for, fits_token}
use Rattle.kat_shapes.specs.Fits.{name_of, fits_in}
use Rattle.kat_shapes.specs.Version.{version_of}

-- the name that a tree is, if it is one
abbrev pub word_in : Tree-F Tree → Option (List ℕ)
word_in (Tree-F.Atom token) = name_of token
word_in (Tree-F.List parts) = None

-- the word with which a list begins, if it does with one
abbrev pub word_before : List Tree → Option (List ℕ)
word_before [] = None
word_before (part ∷ parts) = word_in (out-Tree part)

-- what the parts of a list are read as, one each; none where it has no form of the sort
abbrev pub sorts_of_parts : ℕ → Sort → List Tree → Option (List Sort)
sorts_of_parts version sort parts = sorts_for version sort (word_before parts) (length parts)

-- an atom that stands for the sort, or a list whose first word and count of parts are those of one
-- of its forms
abbrev pub has_form_in : ℕ → Sort → Tree-F Tree → Bool
has_form_in version sort (Tree-F.Atom token) = fits_token version sort token
has_form_in version sort (Tree-F.List parts) = is_some (sorts_of_parts version sort parts)

-- whether a tree itself has a form of the sort, whatever its parts are
abbrev pub has_form : ℕ → Sort → Tree → Bool
has_form version sort t = has_form_in version sort (out-Tree t)

-- Which tree of a text is read as which sort, and its number in preorder: the whole as the root's
-- sort, and each part of a list that has a form there as the sort that the form has for it.
pub data IsRead (version : ℕ) (root : Sort) (text : Tree) : ℕ → Tree → Sort → Type 0 where
  whole : IsRead version root text 0 text root
  part : (place i : ℕ) (parts : List Tree) (sort : Sort) (sorts : List Sort)
      (one : Tree) (sort_of_one : Sort) →
      IsRead version root text place (tree.List parts) sort →
      sorts_of_parts version sort parts ≡ Some sorts →
      slice_get parts i ≡ Some one → slice_get sorts i ≡ Some sort_of_one →
      IsRead version root text (place_of_part place parts i) one sort_of_one

-- each tree in a tree that is read as something has a form there
abbrev pub HaveForm : ℕ → Sort → Tree → Type 0
HaveForm version root text = (place : ℕ) (t : Tree) (sort : Sort) →
    IsRead version root text place t sort → has_form version sort t ≡ true

-- the same of a text in the version that it states
abbrev pub AllHaveForm : Sort → Tree → Type 0
AllHaveForm root text = HaveForm (version_of root text) root text

-- a number that stands still at the greatest of 64 bits
abbrev pub capped_place : ℕ → ℕ
capped_place n = min n (2 ^ 64 - 1)

-- a tree that is read as a sort and has no form of it, where each tree with a lesser number has one
pub record IsFirstFormless (version : ℕ) (root : Sort) (text : Tree)
    (place : ℕ) (found : Tree) (sort : Sort) : Type 0 where
  pub read : IsRead version root text place found sort
  pub formless : has_form version sort found ≡ false
  pub first : (before : ℕ) (t : Tree) (s : Sort) →
      IsRead version root text before t s → before < place → has_form version s t ≡ true

-- the tree at the least place that is read as something and has no form there, and what is wanted
pub record IsFirstMisfit (root : Sort) (text : Tree) (misfit : Misfit) : Type 0 where
  pub place : ℕ
  pub found : Tree
  pub sort : Sort
  pub is : IsFirstFormless (version_of root text) root text place found sort
  pub at : misfit.place ≡ capped_place place
  pub wanted : misfit.wanted ≡ wanted_of sort

-- the same for a tree that has a number itself: its trees are counted on from there
pub record IsMisfitFrom (version : ℕ) (root : Sort) (tree : Tree)
    (start : ℕ) (misfit : Misfit) : Type 0 where
  pub place : ℕ
  pub found : Tree
  pub sort : Sort
  pub is : IsFirstFormless version root tree place found sort
  pub at : misfit.place ≡ capped_place (start + place)
  pub wanted : misfit.wanted ≡ wanted_of sort

-- a list has a form of a sort, and each of its parts fits the sort that the form has for it
pub record PartsFit (version : ℕ) (sort : Sort) (parts : List Tree) : Type 0 where
  pub sorts : List Sort
  pub form : sorts_of_parts version sort parts ≡ Some sorts
  pub count : length sorts ≡ length parts
  pub each : (i : ℕ) (part : Tree) (part_sort : Sort) →
      slice_get parts i ≡ Some part → slice_get sorts i ≡ Some part_sort →
      fits_in version part_sort part ≡ true
