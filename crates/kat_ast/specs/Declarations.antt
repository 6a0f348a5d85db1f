-- Declarations: the tree of each, what each owes beside its parts, how many trees it has, and what
-- each keeps.
use Rattle.std.specs.Prelude.{◌≡◌, ℕ, ◌+◌, ◌<◌, ◌≤◌, Bool, true, ◌&&◌, List, [], ◌∷◌, ◌++◌, length, map, sum_by, codes}
use Rattle.std.specs.List.{AllByRecursion}
use Rattle.kat_tree.specs.declared.tree.Tree.{Tree}
use Rattle.kat_tree.specs.declared.tree.Tree.TheVariants as tree
use Rattle.kat_tree.specs.Lexeme.{nesting}
use Rattle.kat_tree.specs.Preorder.{count_of}
use Rattle.kat_tree.specs.Written.{IsToken, tokens_of}
use Rattle.kat_ast.specs.declared.assertion.Assertion.{Assertion}
use Rattle.kat_ast.specs.declared.decl.RegisterKind.{RegisterKind}
use Rattle.kat_ast.specs.declared.decl.RegisterKind.TheVariants as r
use Rattle.kat_ast.specs.declared.decl.CellsKind.{CellsKind}
use Rattle.kat_ast.specs.declared.decl.CellsKind.TheVariants as c
use Rattle.kat_ast.specs.declared.decl.Phase.{Phase}
use Rattle.kat_ast.specs.declared.decl.Phase.TheVariants as p
use Rattle.kat_ast.specs.declared.decl.When.{When}
use Rattle.kat_ast.specs.declared.decl.DeclForm.{DeclForm}
use Rattle.kat_ast.specs.declared.decl.DeclForm.TheVariants as d
use Rattle.kat_ast.specs.Limits.{deepest_decl, decl_trees_bound}
use Rattle.kat_ast.specs.Parts.{word, number, form, is_name, every, is_nonempty}
use Rattle.kat_ast.specs.Types.{tree_of_type, tree_of_params, is_formed_type, are_formed_params, trees_of_type, trees_of_params}
use Rattle.kat_ast.specs.Expressions.{tree_of_expr, is_formed_expr, trees_of_expr}
use Rattle.kat_ast.specs.Statements.{tree_of_stm, is_formed_stm, trees_of_stm}
use Rattle.kat_ast.specs.Assertions.{tree_of_assertion, is_formed_assertion, trees_of_assertion}

-- `untrusted`, `inside` or `(block x)`
abbrev pub tree_of_phase : Phase → Tree
tree_of_phase p.Untrusted = word (codes "untrusted")
tree_of_phase p.Inside = word (codes "inside")
tree_of_phase (p.Block x) = form (codes "block") (word x ∷ [])

-- `(when E phase)`
abbrev pub tree_of_when : When → Tree
tree_of_when w = form (codes "when") (tree_of_expr w.test ∷ tree_of_phase w.phase ∷ [])

-- the place of a register
abbrev pub word_of_register_kind : RegisterKind → List ℕ
word_of_register_kind r.Plain = codes "plain"
word_of_register_kind r.Protected = codes "protected"
word_of_register_kind r.Outside = codes "outside"

-- the place of cells
abbrev pub word_of_cells_kind : CellsKind → List ℕ
word_of_cells_kind c.Protected = codes "protected"
word_of_cells_kind c.Outside = codes "outside"

-- `(pre A)`, `(post A)`, `(entry A)`
abbrev pub holding : List ℕ → Assertion → Tree
holding head assertion = form head (tree_of_assertion assertion ∷ [])

-- the tree of a declaration
abbrev pub tree_of_decl : DeclForm → Tree
tree_of_decl (d.Enum x members) =
    form (codes "enum") (word x ∷ tree.List (map word members) ∷ [])
tree_of_decl (d.Union x ctors) = form (codes "union") (word x ∷ tree_of_params ctors ∷ [])
tree_of_decl (d.Record x fields) = form (codes "record") (word x ∷ tree_of_params fields ∷ [])
tree_of_decl (d.Register x type kind) =
    form (codes "register") (word x ∷ tree_of_type type ∷ word (word_of_register_kind kind) ∷ [])
tree_of_decl (d.Memory a c lo hi) =
    form (codes "memory") (number a ∷ number c ∷ number lo ∷ number hi ∷ [])
tree_of_decl (d.Cells kind lo hi) =
    form (codes "cells") (word (word_of_cells_kind kind) ∷ number lo ∷ number hi ∷ [])
tree_of_decl (d.Code lo values) = form (codes "code") (number lo ∷ map number values)
tree_of_decl (d.Region x params i e) =
    form (codes "region") (word x ∷ tree_of_params params ∷ word i ∷ tree_of_expr e ∷ [])
tree_of_decl (d.Predicate x inputs outputs definition) =
    form (codes "pred")
    (word x ∷ tree_of_params inputs ∷ tree_of_params outputs ∷ tree_of_assertion definition ∷ [])
tree_of_decl (d.Fun x params result body) =
    form (codes "fun")
    (word x ∷ tree_of_params params ∷ tree_of_type result ∷ tree_of_stm body ∷ [])
tree_of_decl (d.Contract f names pre x post) =
    form (codes "contract")
    (word f ∷ tree_of_params names ∷ holding (codes "pre") pre ∷ form (codes "res") (word x ∷ [])
    ∷ holding (codes "post") post ∷ [])
tree_of_decl (d.Lemma x params names pre post steps) =
    form (codes "lemma")
    (word x ∷ tree_of_params params ∷ tree_of_params names ∷ holding (codes "pre") pre
    ∷ holding (codes "post") post ∷ form (codes "steps") (map tree_of_stm steps) ∷ [])
tree_of_decl (d.Step f) = form (codes "step") (word f ∷ [])
tree_of_decl (d.Dispatch cases otherwise) =
    form (codes "dispatch")
    (map tree_of_when cases ++ form (codes "else") (tree_of_phase otherwise ∷ []) ∷ [])
tree_of_decl (d.Untrusted holds) = form (codes "untrusted") (tree_of_assertion holds ∷ [])
tree_of_decl (d.Block block) =
    form (codes "block")
    (word block.name ∷ holding (codes "entry") block.entry
    ∷ form (codes "within") (number block.within ∷ [])
    ∷ form (codes "change") (tree_of_expr block.change ∷ []) ∷ [])
tree_of_decl (d.Boot x) = form (codes "boot") (word x ∷ [])

-- a block has a name
abbrev pub is_formed_phase : Phase → Bool
is_formed_phase (p.Block x) = is_name x
is_formed_phase _ = true

-- `(when E phase)`
abbrev pub is_formed_when : When → Bool
is_formed_when w = is_formed_expr w.test && is_formed_phase w.phase

-- an enum, a union and a record have at least one part, and so has code
abbrev pub is_formed_decl : DeclForm → Bool
is_formed_decl (d.Enum x members) =
    is_name x && (is_nonempty members && every (map is_name members))
is_formed_decl (d.Union x ctors) = is_name x && (is_nonempty ctors && are_formed_params ctors)
is_formed_decl (d.Record x fields) = is_name x && (is_nonempty fields && are_formed_params fields)
is_formed_decl (d.Register x type kind) = is_name x && is_formed_type type
is_formed_decl (d.Memory a c lo hi) = true
is_formed_decl (d.Cells kind lo hi) = true
is_formed_decl (d.Code lo values) = is_nonempty values
is_formed_decl (d.Region x params i e) =
    is_name x && (are_formed_params params && (is_name i && is_formed_expr e))
is_formed_decl (d.Predicate x inputs outputs definition) =
    is_name x
    && (are_formed_params inputs && (are_formed_params outputs && is_formed_assertion definition))
is_formed_decl (d.Fun x params result body) =
    is_name x && (are_formed_params params && (is_formed_type result && is_formed_stm body))
is_formed_decl (d.Contract f names pre x post) =
    is_name f
    && (are_formed_params names
    && (is_formed_assertion pre && (is_name x && is_formed_assertion post)))
is_formed_decl (d.Lemma x params names pre post steps) =
    is_name x && (are_formed_params params && (are_formed_params names
    && (is_formed_assertion pre && (is_formed_assertion post && every (map is_formed_stm steps)))))
is_formed_decl (d.Step f) = is_name f
is_formed_decl (d.Dispatch cases otherwise) =
    every (map is_formed_when cases) && is_formed_phase otherwise
is_formed_decl (d.Untrusted holds) = is_formed_assertion holds
is_formed_decl (d.Block block) =
    is_name block.name && (is_formed_assertion block.entry && is_formed_expr block.change)
is_formed_decl (d.Boot x) = is_name x

-- `(block x)` is a list of two atoms
abbrev pub trees_of_phase : Phase → ℕ
trees_of_phase (p.Block x) = 3
trees_of_phase _ = 1

-- `(when E phase)`
abbrev pub trees_of_when : When → ℕ
trees_of_when w = 2 + trees_of_expr w.test + trees_of_phase w.phase

-- how many trees a declaration has
abbrev pub trees_of_decl : DeclForm → ℕ
trees_of_decl (d.Enum x members) = 4 + length members
trees_of_decl (d.Union x ctors) = 3 + trees_of_params ctors
trees_of_decl (d.Record x fields) = 3 + trees_of_params fields
trees_of_decl (d.Register x type kind) = 4 + trees_of_type type
trees_of_decl (d.Memory a c lo hi) = 6
trees_of_decl (d.Cells kind lo hi) = 5
trees_of_decl (d.Code lo values) = 3 + length values
trees_of_decl (d.Region x params i e) = 4 + trees_of_params params + trees_of_expr e
trees_of_decl (d.Predicate x inputs outputs definition) =
    3 + trees_of_params inputs + trees_of_params outputs + trees_of_assertion definition
trees_of_decl (d.Fun x params result body) =
    3 + trees_of_params params + trees_of_type result + trees_of_stm body
trees_of_decl (d.Contract f names pre x post) =
    10 + trees_of_params names + trees_of_assertion pre + trees_of_assertion post
trees_of_decl (d.Lemma x params names pre post steps) =
    9 + trees_of_params params + trees_of_params names + trees_of_assertion pre
    + trees_of_assertion post + sum_by trees_of_stm steps
trees_of_decl (d.Step f) = 3
trees_of_decl (d.Dispatch cases otherwise) =
    4 + sum_by trees_of_when cases + trees_of_phase otherwise
trees_of_decl (d.Untrusted holds) = 2 + trees_of_assertion holds
trees_of_decl (d.Block block) =
    10 + trees_of_assertion block.entry + trees_of_expr block.change
trees_of_decl (d.Boot x) = 3

-- Each name is a name token other than `true`, `false` and `unit`, no named type is `bool`, and
-- each form has its count of parts; the text nests at most 63 brackets, and has fewer than 2^32
-- trees.
pub record IsDecl (decl : DeclForm) : Type 0 where
  pub formed : is_formed_decl decl ≡ true
  pub tokens : AllByRecursion IsToken (tokens_of (tree_of_decl decl))
  pub nesting : nesting (tree_of_decl decl) ≤ deepest_decl
  pub small : count_of (tree_of_decl decl) < decl_trees_bound
