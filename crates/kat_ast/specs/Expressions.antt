-- Expressions: the tree of each, what each owes beside its parts, and how many trees it has.
use Rattle.std.specs.Prelude.{ℕ, ◌+◌, Bool, true, false, ◌&&◌, ◌==◌, List, [], ◌∷◌, ◌++◌, length, map, sum, codes}
use Rattle.kat_tree.specs.declared.tree.Tree.{Tree}
use Rattle.kat_value.specs.declared.op.Op.{Op}
use Rattle.kat_value.specs.Words.{word_of_op, numbers_of_op, arity_of, is_written}
use Rattle.kat_ast.specs.declared.expr.Expr.{Expr}
use Rattle.kat_ast.specs.declared.expr.Expr.TheOpen.{Expr-F, Name, Unit, Truth, Bits, Of, Make, Rec, Register, Kept, KeptCell, Before, After, BeforeCell, AfterCell, Apply, Get}
use Rattle.kat_ast.specs.declared.expr.Expr.TheFolds.{fold-Expr}
use Rattle.kat_ast.specs.Parts.{word, number, form, is_name, every}

-- the numbers that an operation is written with, before its arguments
abbrev pub numbers_before : Op → List Tree
numbers_before op = map number (numbers_of_op op)

-- one layer of an expression, with the tree of each part in its place
abbrev pub expr_tree : Expr-F Tree → Tree
expr_tree (Name x) = word x
expr_tree Unit = word (codes "unit")
expr_tree (Truth true) = word (codes "true")
expr_tree (Truth false) = word (codes "false")
expr_tree (Bits width n) = form (codes "bits") (number width ∷ number n ∷ [])
expr_tree (Of e a) = form (codes "of") (word e ∷ word a ∷ [])
expr_tree (Make k payload) = form (codes "make") (word k ∷ payload ∷ [])
expr_tree (Rec r fields) = form (codes "rec") (word r ∷ fields)
expr_tree (Register r) = form (codes "reg") (word r ∷ [])
expr_tree (Kept r) = form (codes "kept") (word r ∷ [])
expr_tree (KeptCell i) = form (codes "kept_cell") (number i ∷ [])
expr_tree (Before r) = form (codes "before") (word r ∷ [])
expr_tree (After r) = form (codes "after") (word r ∷ [])
expr_tree (BeforeCell i) = form (codes "before_cell") (number i ∷ [])
expr_tree (AfterCell i) = form (codes "after_cell") (number i ∷ [])
expr_tree (Apply op args) = form (word_of_op op) (numbers_before op ++ args)
expr_tree (Get r f value) = form (codes "get") (word r ∷ word f ∷ value ∷ [])

-- the tree of an expression
abbrev pub tree_of_expr : Expr → Tree
tree_of_expr = fold-Expr Tree expr_tree

-- one layer of an expression, with what its parts owe
abbrev pub expr_formed : Expr-F Bool → Bool
expr_formed (Name x) = is_name x
expr_formed Unit = true
expr_formed (Truth b) = true
expr_formed (Bits width n) = true
expr_formed (Of e a) = is_name e && is_name a
expr_formed (Make k payload) = is_name k && payload
expr_formed (Rec r fields) = is_name r && every fields
expr_formed (Register r) = is_name r
expr_formed (Kept r) = is_name r
expr_formed (KeptCell i) = true
expr_formed (Before r) = is_name r
expr_formed (After r) = is_name r
expr_formed (BeforeCell i) = true
expr_formed (AfterCell i) = true
expr_formed (Apply op args) = is_written op && ((length args == arity_of op) && every args)
expr_formed (Get r f value) = is_name r && (is_name f && value)

-- whether an expression has the form of the text
abbrev pub is_formed_expr : Expr → Bool
is_formed_expr = fold-Expr Bool expr_formed

-- whether all expressions have
abbrev pub are_formed_exprs : List Expr → Bool
are_formed_exprs es = every (map is_formed_expr es)

-- one layer of an expression, with the count of each part in its place
abbrev pub expr_trees : Expr-F ℕ → ℕ
expr_trees (Name x) = 1
expr_trees Unit = 1
expr_trees (Truth b) = 1
expr_trees (Bits width number) = 4
expr_trees (Of e a) = 4
expr_trees (Make k payload) = 3 + payload
expr_trees (Rec r fields) = 3 + sum fields
expr_trees (Register r) = 3
expr_trees (Kept r) = 3
expr_trees (KeptCell i) = 3
expr_trees (Before r) = 3
expr_trees (After r) = 3
expr_trees (BeforeCell i) = 3
expr_trees (AfterCell i) = 3
expr_trees (Apply op args) = 2 + length (numbers_of_op op) + sum args
expr_trees (Get r f value) = 4 + value

-- how many trees an expression has
abbrev pub trees_of_expr : Expr → ℕ
trees_of_expr = fold-Expr ℕ expr_trees

-- how many trees expressions have together
abbrev pub trees_of_exprs : List Expr → ℕ
trees_of_exprs es = sum (map trees_of_expr es)
