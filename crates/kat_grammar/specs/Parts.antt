-- What the parts of a list that fits are, sort by sort.
use Rattle.std.specs.Prelude.{◌≡◌, ◌<◌, ◌≤◌, ◌+◌, ◌-◌, ℕ, Bool, true, false, List, [], ◌∷◌, ◌++◌, length, map, replicate, take, get_or, codes, Some, None}
use Rattle.std.specs.List.{AllByRecursion}
use Rattle.kat_tree.specs.declared.tree.Tree.{Tree}
use Rattle.kat_tree.specs.declared.tree.Token.TheVariants as token
use Rattle.kat_tree.specs.declared.tree.Tree.TheVariants as variant
use Rattle.kat_tree.specs.Lexeme.{nesting}
use Rattle.kat_tree.specs.Preorder.{count_of}
use Rattle.kat_tree.specs.Written.{IsWritable}
use Rattle.kat_ast.specs.Limits.{deepest_decl, decl_trees_bound}
use Rattle.kat_ast.specs.Parts.{word, form, every}
use Rattle.kat_shapes.specs.declared.sort.Sort.{Sort}
use Rattle.kat_shapes.specs.declared.sort.Sort.TheVariants as sort
use Rattle.kat_value.specs.declared.op.Op.{Op}
use Rattle.kat_value.specs.declared.op.Op.TheVariants.{Slice, Zext, Sext}
use Rattle.kat_value.specs.Words.{arity_of, is_written}
use Rattle.kat_ast.specs.Expressions.{numbers_before}
use Rattle.kat_shapes.specs.Forms.{Form, Rows, exactly, expressions, forms_of, form_of_word, form_of, form_of_op, fits_token, newest}
use Rattle.kat_shapes.specs.Fits.{fits}

-- a tree can be read as this
abbrev pub FitsSort : Sort → Tree → Type 0
FitsSort sort tree = fits sort tree ≡ true

-- as many trees as sorts, each of its sort
abbrev pub AllFit : List Sort → List Tree → Type 0
AllFit [] [] = Unit {0}
AllFit (sort ∷ sorts) (tree ∷ trees) = FitsSort sort tree × AllFit sorts trees
AllFit _ _ = ⊥

-- parts of these sorts, one each
pub record HasParts (sorts : List Sort) (parts : List Tree) : Type 0 where
  pub count : length parts ≡ length sorts
  pub fit : AllFit sorts parts

-- one part of a sort, and then any number of another
abbrev pub HasOneThen : Sort → Sort → List Tree → Type 0
HasOneThen sort more parts = HasParts (sort ∷ replicate (length parts - 1) more) parts

-- parts that begin with a word
pub record IsHeaded (parts : List Tree) : Type 0 where
  pub head : List ℕ
  pub behind : List Tree
  pub is : parts ≡ word head ∷ behind

-- a list that begins with a word
pub record IsHeadedList (tree : Tree) : Type 0 where
  pub head : List ℕ
  pub behind : List Tree
  pub is : tree ≡ form head behind

-- a list of a word and one part
pub record IsHolder (tree : Tree) : Type 0 where
  pub head : List ℕ
  pub part : Tree
  pub is : tree ≡ form head (part ∷ [])

-- a tree that stands directly in the root of a text: it can be written, and it nests no deeper and
-- has no more trees than a declaration may
pub record IsPartOfText (tree : Tree) : Type 0 where
  pub writable : IsWritable tree
  pub nesting : nesting tree ≤ deepest_decl
  pub small : count_of tree < decl_trees_bound

-- no tree has more trees than a declaration may
abbrev pub AreSmall : List Tree → Type 0
AreSmall trees = AllByRecursion (λ (tree : Tree). count_of tree < decl_trees_bound) trees

-- the tree of a text: it can be written, and each tree directly in its root has no more trees than
-- a declaration may
pub record IsText (tree : Tree) : Type 0 where
  pub writable : IsWritable tree
  pub small : (parts : List Tree) → tree ≡ variant.List parts → AreSmall parts

-- the arguments of an operation that is written with its arguments alone
pub record IsPlain (parts : List Tree) (op : Op) : Type 0 where
  pub alone : numbers_before op ≡ []
  pub written : is_written op ≡ true
  pub args : HasParts (replicate (arity_of op) sort.Expression) parts

-- the expressions that are told by words of their own; all others are operations that are written
-- with their arguments alone
abbrev pub told_expressions : Rows Form
told_expressions =
    take 12 expressions
    ++ (codes "slice", form_of_op (Slice 0 0))
    ∷ (codes "zext", form_of_op (Zext 0))
    ∷ (codes "sext", form_of_op (Sext 0))
    ∷ []

-- a part at a place of a list
abbrev pub At : List Tree → ℕ → Tree → Type 0
At parts i part = part ≡ get_or parts i part

-- how many trees there are in trees side by side
abbrev pub counts : List Tree → ℕ
counts [] = 0
counts (tree ∷ trees) = count_of tree + counts trees

-- a sort of one form
pub record HasOneForm (s : Sort) (w : List ℕ) (f : Form) : Type 0 where
  pub none : form_of newest s None ≡ None
  pub some : (x : List ℕ) → form_of newest s (Some x) ≡ form_of_word newest s (Some x)
  pub rows : forms_of s ≡ (w, f) ∷ []
  pub formed : form_of newest s (Some w) ≡ Some f

-- a sort of lists of a word and one part
abbrev pub HoldsOne : Sort → List ℕ → Sort → Type 0
HoldsOne s w inner = HasOneForm s w (exactly (sort.Word ∷ inner ∷ []))

-- a sort of which no atom is
pub record HasNoAtoms (s : Sort) : Type 0 where
  pub numbers : (n : ℕ) → fits_token newest s (token.Number n) ≡ false
  pub names : (x : List ℕ) → fits_token newest s (token.Name x) ≡ false

-- what was made of the parts before a position: written again it is these parts, and each is well
-- formed
pub record SoFar {A : Type 0} (written : A → Tree) (formed : A → Bool)
    (parts : List Tree) (made : List A) (at : ℕ) : Type 0 where
  pub same : map written made ≡ take at parts
  pub well : every (map formed made) ≡ true
