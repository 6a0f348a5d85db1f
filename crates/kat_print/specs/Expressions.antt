-- The text of expressions, by the texts of their parts. It is that of their trees.
use Rattle.std.specs.Prelude.{ℕ, true, false, List, [], ◌∷◌, ◌++◌, map, codes}
use Rattle.std.specs.Fmt.{decimal}
use Rattle.kat_tree.specs.Written.{behind_spaces}
use Rattle.kat_value.specs.declared.op.Op.{Op}
use Rattle.kat_value.specs.Words.{word_of_op, numbers_of_op}
use Rattle.kat_ast.specs.declared.expr.Expr.{Expr}
use Rattle.kat_ast.specs.declared.expr.Expr.TheOpen.{Expr-F, Name, Unit, Truth, Bits, Of, Make, Rec, Register, Kept, KeptCell, Before, After, BeforeCell, AfterCell, Apply, Get}
use Rattle.kat_ast.specs.declared.expr.Expr.TheFolds.{fold-Expr}
use Rattle.kat_print.specs.Lists.{listed}

-- the numbers that an operation is written with, before its arguments
abbrev pub number_texts : Op → List (List ℕ)
number_texts op = map decimal (numbers_of_op op)

-- an operation's word and numbers
abbrev pub text_of_op : Op → List ℕ
text_of_op op = word_of_op op ++ behind_spaces (number_texts op)

-- one layer of an expression, with the text of each part in its place
abbrev pub expr_text : Expr-F (List ℕ) → List ℕ
expr_text (Name x) = x
expr_text Unit = codes "unit"
expr_text (Truth true) = codes "true"
expr_text (Truth false) = codes "false"
expr_text (Bits width n) = listed (codes "bits") (decimal width ∷ decimal n ∷ [])
expr_text (Of e a) = listed (codes "of") (e ∷ a ∷ [])
expr_text (Make k payload) = listed (codes "make") (k ∷ payload ∷ [])
expr_text (Rec r fields) = listed (codes "rec") (r ∷ fields)
expr_text (Register r) = listed (codes "reg") (r ∷ [])
expr_text (Kept r) = listed (codes "kept") (r ∷ [])
expr_text (KeptCell i) = listed (codes "kept_cell") (decimal i ∷ [])
expr_text (Before r) = listed (codes "before") (r ∷ [])
expr_text (After r) = listed (codes "after") (r ∷ [])
expr_text (BeforeCell i) = listed (codes "before_cell") (decimal i ∷ [])
expr_text (AfterCell i) = listed (codes "after_cell") (decimal i ∷ [])
expr_text (Apply op args) = listed (text_of_op op) args
expr_text (Get r f value) = listed (codes "get") (r ∷ f ∷ value ∷ [])

-- the text of an expression
abbrev pub text_of_expr : Expr → List ℕ
text_of_expr = fold-Expr (List ℕ) expr_text
