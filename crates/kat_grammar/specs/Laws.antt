-- What the laws of the grammar say.
use Rattle.std.specs.Prelude.{◌≡◌, ◌<◌, ◌≤◌, ◌+◌, ◌-◌, ℕ, Bool, true, List, [], ◌∷◌, ◌++◌, length, replicate, take, drop, get_or, codes, Option, Some, None}
use Rattle.std.specs.List.{AllByRecursion}
use Rattle.kat_tree.specs.declared.tree.Tree.{Tree}
use Rattle.kat_tree.specs.declared.tree.Tree.TheVariants as variant
use Rattle.kat_tree.specs.Preorder.{count_of}
use Rattle.kat_value.specs.declared.op.Op.{Op}
use Rattle.kat_value.specs.Words.{word_of_op, op_of_word}
use Rattle.kat_ast.specs.declared.expr.Expr.{Expr}
use Rattle.kat_ast.specs.declared.expr.Expr.TheVariants as made
use Rattle.kat_ast.specs.Parts.{word, number, form, every}
use Rattle.kat_shapes.specs.declared.sort.Sort.{Sort}
use Rattle.kat_shapes.specs.declared.sort.Sort.TheVariants as sort
use Rattle.kat_shapes.specs.Forms.{Form, exactly, many, between, form_of, row_of, newest}
use Rattle.kat_grammar.specs.Parts.{FitsSort, AllFit, HasParts, IsHeaded, IsHeadedList, IsHolder, IsPlain, IsText, IsPartOfText, At, counts, HasOneForm, HoldsOne, HasNoAtoms, told_expressions}
use Rattle.kat_grammar.specs.Forms.{IsExpr, AreExprs}

-- what a reader of forms uses of trees that fit: what their parts are, and that these fit
pub record FormLaws : Type 0 where
  -- A list that a word begins, and one told by where it is: their parts are of the form's sorts.
  pub exact_parts : (s : Sort) (w : List ℕ) (sorts : List Sort) (parts : List Tree) →
      form_of newest s (Some w) ≡ Some (exactly (sort.Word ∷ sorts)) → FitsSort s (form w parts) →
      HasParts sorts parts
  pub many_parts : (s : Sort) (w : List ℕ) (first : List Sort) (more : Sort) (parts : List Tree) →
      form_of newest s (Some w) ≡ Some (many (sort.Word ∷ first) more) →
      FitsSort s (form w parts) →
      HasParts (first ++ replicate (length parts - length first) more) parts
  pub between_parts : (s : Sort) (w : List ℕ) (more last : Sort) (parts : List Tree) →
      form_of newest s (Some w) ≡ Some (between (sort.Word ∷ []) more (last ∷ [])) →
      FitsSort s (form w parts) → HasParts (replicate (length parts - 1) more ++ last ∷ []) parts
  pub exact_place : (s : Sort) (sorts : List Sort) (parts : List Tree) →
      ((found : Option (List ℕ)) → form_of newest s found ≡ Some (exactly sorts)) →
      FitsSort s (variant.List parts) → HasParts sorts parts
  pub many_place : (s : Sort) (first : List Sort) (more : Sort) (parts : List Tree) →
      ((found : Option (List ℕ)) → form_of newest s found ≡ Some (many first more)) →
      FitsSort s (variant.List parts) →
      HasParts (first ++ replicate (length parts - length first) more) parts
  -- The parts of lists of sorts: one of them, those behind the first ones, those before the last.
  pub part_fits : (sorts : List Sort) (parts : List Tree) (i : ℕ) (part : Tree) →
      HasParts sorts parts → i < length sorts → At parts i part →
      FitsSort (get_or sorts i sort.Word) part
  pub all_same : (s : Sort) (n : ℕ) (parts : List Tree) → AllFit (replicate n s) parts →
      AllByRecursion (FitsSort s) parts
  pub rest_fits : (first : List Sort) (s : Sort) (n : ℕ) (parts : List Tree) →
      HasParts (first ++ replicate n s) parts →
      AllByRecursion (FitsSort s) (drop (length first) parts)
  pub some_fit : (s : Sort) (n : ℕ) (parts : List Tree) → HasParts (s ∷ replicate n s) parts →
      AllByRecursion (FitsSort s) parts
  pub behind_first : (s : Sort) (n : ℕ) (parts : List Tree) →
      HasParts (s ∷ s ∷ replicate n s) parts → AllByRecursion (FitsSort s) (drop 1 parts)
  pub before_fits : (s last : Sort) (n : ℕ) (parts : List Tree) →
      HasParts (replicate n s ++ last ∷ []) parts → AllByRecursion (FitsSort s) (take n parts)
  pub last_fits : (s last : Sort) (n : ℕ) (parts : List Tree) (part : Tree) →
      HasParts (replicate n s ++ last ∷ []) parts → At parts n part → FitsSort last part
  -- A list that fits begins with a word, and with which.
  pub headed : (s : Sort) (parts : List Tree) → form_of newest s None ≡ None →
      FitsSort s (variant.List parts) → IsHeaded parts
  pub arm_fits : (s : Sort) (w x : List ℕ) (behind parts : List Tree) → word x ∷ behind ≡ parts →
      x ≡ w → FitsSort s (variant.List parts) → FitsSort s (form w behind)
  pub headed_list : (s : Sort) (w : List ℕ) (f : Form) (tree : Tree) → HasOneForm s w f →
      HasNoAtoms s → FitsSort s tree → IsHeadedList tree
  pub list_parts :
      (s : Sort) (w : List ℕ) (f : Form) (x : List ℕ) (tree : Tree) (parts : List Tree) →
      HasOneForm s w f → tree ≡ form x parts → FitsSort s tree →
      (form w parts ≡ tree) × FitsSort s (form w parts)
  -- A list of a word and one part.
  pub list_holder : (s : Sort) (w : List ℕ) (inner : Sort) (tree : Tree) (parts : List Tree) →
      HoldsOne s w inner → tree ≡ variant.List parts → FitsSort s tree → IsHolder tree
  pub holder : (s : Sort) (w : List ℕ) (inner : Sort) (tree : Tree) → HoldsOne s w inner →
      HasNoAtoms s → FitsSort s tree → IsHolder tree
  pub held_part : (s : Sort) (w : List ℕ) (inner : Sort) → HoldsOne s w inner →
      (x : List ℕ) (tree part : Tree) → tree ≡ form x (part ∷ []) → FitsSort s tree →
      (form w (part ∷ []) ≡ tree) × FitsSort inner part
  -- The parts at the places of a list, which are all of it.
  pub two_are : (parts : List Tree) (a b x y : Tree) → length parts ≡ 2 → At parts 0 a →
      At parts 1 b → x ≡ a → y ≡ b → x ∷ y ∷ [] ≡ parts
  pub three_are : (parts : List Tree) (a b c x y z : Tree) → length parts ≡ 3 → At parts 0 a →
      At parts 1 b → At parts 2 c → x ≡ a → y ≡ b → z ≡ c → x ∷ y ∷ z ∷ [] ≡ parts
  pub four_are : (parts : List Tree) (a b c d x y z u : Tree) → length parts ≡ 4 → At parts 0 a →
      At parts 1 b → At parts 2 c → At parts 3 d → x ≡ a → y ≡ b → z ≡ c → u ≡ d →
      x ∷ y ∷ z ∷ u ∷ [] ≡ parts
  pub five_are : (parts : List Tree) (a b c d o x y z u v : Tree) → length parts ≡ 5 →
      At parts 0 a → At parts 1 b → At parts 2 c → At parts 3 d → At parts 4 o → x ≡ a → y ≡ b →
      z ≡ c → u ≡ d → v ≡ o → x ∷ y ∷ z ∷ u ∷ v ∷ [] ≡ parts
  pub no_parts : (parts : List Tree) → length parts ≡ 0 → [] ≡ parts
  pub one_and : (parts : List Tree) (a : Tree) → 1 ≤ length parts → At parts 0 a →
      parts ≡ a ∷ take (length parts - 1) (drop 1 parts)
  pub rest_is : (parts : List Tree) (k : ℕ) →
      take (length parts - k) (drop k parts) ≡ drop k parts
  pub with_last : (parts : List Tree) (n : ℕ) (part : Tree) → length parts ≡ n + 1 →
      At parts n part → take n parts ++ part ∷ [] ≡ parts
  -- One of trees that fit; one more part that was read.
  pub each_fits : (s : Sort) (trees : List Tree) (i : ℕ) (tree : Tree) →
      AllByRecursion (FitsSort s) trees → i < length trees → At trees i tree → FitsSort s tree
  pub more_made :
      (parts made : List Tree) (formed : List Bool) (at : ℕ) (one part : Tree) (is_formed : Bool) →
      made ≡ take at parts → every formed ≡ true → at < length parts → At parts at part →
      one ≡ part → is_formed ≡ true →
      (made ++ one ∷ [] ≡ take (at + 1) parts) × (every (formed ++ is_formed ∷ []) ≡ true)
  -- How many trees parts have.
  pub count_list : (parts : List Tree) → count_of (variant.List parts) ≡ counts parts + 1
  pub behind_fewer : (x : List ℕ) (behind parts : List Tree) → word x ∷ behind ≡ parts →
      counts behind + 1 ≡ counts parts
  pub part_among : (parts : List Tree) (i : ℕ) (part : Tree) → i < length parts →
      At parts i part → count_of part ≤ counts parts
  pub rest_among : (parts : List Tree) (k : ℕ) →
      counts (take (length parts - k) (drop k parts)) ≤ counts parts
  -- An operation that is written with its arguments alone.
  pub plain_word : (w : List ℕ) (o : Op) → row_of told_expressions w ≡ None →
      op_of_word w ≡ Some o → word_of_op o ≡ w
  pub plain_op : (w : List ℕ) (o : Op) (parts : List Tree) → row_of told_expressions w ≡ None →
      op_of_word w ≡ Some o → FitsSort sort.Expression (form w parts) → IsPlain parts o
  pub plain_is : (o : Op) (parts : List Tree) (es : List Expr) → IsPlain parts o →
      AreExprs parts es → IsExpr (form (word_of_op o) parts) (made.Apply o es)
  -- A specification, and the tree of a text.
  pub spec_parts : (parts : List Tree) → FitsSort sort.Spec (variant.List parts) →
      (decls : List Tree) × (parts ≡ word (codes "spec") ∷ number 1 ∷ decls)
      × AllByRecursion (FitsSort sort.Declaration) decls
  pub text_parts : (tree : Tree) → IsText tree → (parts : List Tree) → tree ≡ variant.List parts →
      AllByRecursion IsPartOfText parts

-- the small lists: the one form of each, and that no atom is one
pub record SmallLists : Type 0 where
  pub one_bits : HoldsOne sort.TypeName (codes "bits") sort.Number
  pub one_block : HoldsOne sort.Phase (codes "block") sort.Name
  pub one_pre : HoldsOne sort.Pre (codes "pre") sort.Assertion
  pub one_post : HoldsOne sort.Post (codes "post") sort.Assertion
  pub one_entry : HoldsOne sort.Entry (codes "entry") sort.Assertion
  pub one_res : HoldsOne sort.Res (codes "res") sort.Name
  pub one_within : HoldsOne sort.Within (codes "within") sort.Number
  pub one_change : HoldsOne sort.Change (codes "change") sort.Expression
  pub one_else : HoldsOne sort.Else (codes "else") sort.Phase
  pub one_when :
      HasOneForm sort.When (codes "when") (exactly (sort.Word ∷ sort.Expression ∷ sort.Phase ∷ []))
  pub one_steps : HasOneForm sort.Steps (codes "steps") (many (sort.Word ∷ []) sort.Statement)
  pub no_pre : HasNoAtoms sort.Pre
  pub no_post : HasNoAtoms sort.Post
  pub no_entry : HasNoAtoms sort.Entry
  pub no_res : HasNoAtoms sort.Res
  pub no_within : HasNoAtoms sort.Within
  pub no_change : HasNoAtoms sort.Change
  pub no_else : HasNoAtoms sort.Else
