-- Expressions: the tree of each is read back as it, and has as many trees as it is said to have.
use Rattle.std.proofs.Common.{◌≡◌, ℕ, Bool, true, false, not, ◌&&◌, List, [], ◌∷◌, ◌++◌, map, length, sym, ap, ap₂, ◌∙◌, refl, subst, ◌+◌, sum, arith}
use Rattle.std.specs.Prelude.{codes, bytes_eq, ◌==◌}
use Rattle.std.proofs.lemmas.Bool.{and_parts, false≢true}
use Rattle.kat_tree.specs.declared.tree.Tree.{Tree}
use Rattle.kat_tree.specs.Preorder.{count_of}
use Rattle.kat_value.specs.declared.op.Op.{Op}
use Rattle.kat_value.specs.declared.op.Op.TheVariants as op
use Rattle.kat_value.specs.Words.{word_of_op, is_written, arity_of, numbers_of_op}
use Rattle.kat_ast.specs.declared.expr.Expr.{Expr}
use Rattle.kat_ast.specs.declared.expr.Expr.TheOpen.{Expr-F, Name, Unit, Truth, Bits, Of, Make, Rec, Register, Kept, KeptCell, Before, After, BeforeCell, AfterCell, Apply, Get}
use Rattle.kat_ast.specs.declared.expr.Expr.TheViews.{roll-Expr}
use Rattle.kat_ast.specs.declared.expr.Expr.TheFolds.{map-Expr, fold-roll-Expr, ind-Expr}
use Rattle.kat_ast.specs.Parts.{word, number, form, is_name, every}
use Rattle.kat_ast.specs.Expressions.{numbers_before, expr_tree, tree_of_expr, expr_formed, is_formed_expr, are_formed_exprs, expr_trees, trees_of_expr, trees_of_exprs}
use Rattle.kat_ast.specs.Laws.{IsToldByTree}
use Rattle.kat_ast.proofs.Decoded.{decoded, applied_by, expr_by, expr_named, word_back, number_back, named_expr, expr_form}
use Rattle.kat_ast.proofs.Types.{denied}
use Rattle.kat_ast.proofs.Counting.{sum-cons, of_word, of_number, of_form, of_one, of_two, of_three, of_more}
use Rattle.kat_ast.proofs.SideBySide.{parts_back, parts_counted}

name_back : (x : List ℕ) → is_name x ≡ true → expr_named x ≡ roll-Expr (Name x)
unfolding expr_named
name_back x is =
    let first = and_parts (not (bytes_eq x (codes "true"))) (not (bytes_eq x (codes "false")) && not (bytes_eq x (codes "unit"))) is in
    let more = and_parts (not (bytes_eq x (codes "false"))) (not (bytes_eq x (codes "unit"))) first.1 in
    let a = denied (bytes_eq x (codes "true")) first.0 in
    let b = denied (bytes_eq x (codes "false")) more.0 in
    let c = denied (bytes_eq x (codes "unit")) more.1 in
    rw (a, b, c)

abbrev IsBack : Expr → Type 0
IsBack e = is_formed_expr e ≡ true → (decoded (tree_of_expr e)).expr ≡ e

abbrev whole : ((e : Expr) × IsBack e) → Expr
whole e = e.0

apply_back : (o : Op) (args : List Tree) → is_written o ≡ true →
    (decoded (form (word_of_op o) (numbers_before o ++ args))).expr ≡ roll-Expr (Apply o (map (λ d. d.expr) (map decoded args)))
unfolding expr_by applied_by
apply_back op.Not args is = expr_form (codes "not") args
apply_back op.And args is = expr_form (codes "and") args
apply_back op.Or args is = expr_form (codes "or") args
apply_back op.Eq args is = expr_form (codes "eq") args
apply_back op.Ult args is = expr_form (codes "ult") args
apply_back op.Ule args is = expr_form (codes "ule") args
apply_back op.Slt args is = expr_form (codes "slt") args
apply_back op.Sle args is = expr_form (codes "sle") args
apply_back op.Add args is = expr_form (codes "add") args
apply_back op.Sub args is = expr_form (codes "sub") args
apply_back op.Mul args is = expr_form (codes "mul") args
apply_back op.Band args is = expr_form (codes "band") args
apply_back op.Bor args is = expr_form (codes "bor") args
apply_back op.Bxor args is = expr_form (codes "bxor") args
apply_back op.Bnot args is = expr_form (codes "bnot") args
apply_back op.Shl args is = expr_form (codes "shl") args
apply_back op.Shr args is = expr_form (codes "shr") args
apply_back op.Sar args is = expr_form (codes "sar") args
apply_back op.Cat args is = expr_form (codes "cat") args
apply_back op.Ite args is = expr_form (codes "ite") args
apply_back (op.Slice hi lo) args is =
    expr_form (codes "slice") (number hi ∷ number lo ∷ args)
    ∙ ap₂ (λ h l. roll-Expr (Apply (op.Slice h l) (map (λ d. d.expr) (map decoded args)))) (number_back hi) (number_back lo)
apply_back (op.Zext width) args is =
    expr_form (codes "zext") (number width ∷ args)
    ∙ ap (λ w. roll-Expr (Apply (op.Zext w) (map (λ d. d.expr) (map decoded args)))) (number_back width)
apply_back (op.Sext width) args is =
    expr_form (codes "sext") (number width ∷ args)
    ∙ ap (λ w. roll-Expr (Apply (op.Sext w) (map (λ d. d.expr) (map decoded args)))) (number_back width)
apply_back (op.Get of field) args is = absurd (false≢true is)

layer_back : (y : Expr-F ((e : Expr) × IsBack e)) → expr_formed (map-Expr Expr Bool is_formed_expr (map-Expr ((e : Expr) × IsBack e) Expr (λ e. e.0) y)) ≡ true →
    (decoded (expr_tree (map-Expr Expr Tree tree_of_expr (map-Expr ((e : Expr) × IsBack e) Expr (λ e. e.0) y)))).expr
    ≡ roll-Expr (map-Expr ((e : Expr) × IsBack e) Expr (λ e. e.0) y)
unfolding expr_by expr_named
layer_back (Name x) formed = named_expr x ∙ name_back x formed
layer_back Unit formed = named_expr (codes "unit")
layer_back (Truth true) formed = named_expr (codes "true")
layer_back (Truth false) formed = named_expr (codes "false")
layer_back (Bits w n) formed = cc (expr_form (codes "bits") (number w ∷ number n ∷ []), number_back w, number_back n)
layer_back (Of e a) formed = cc (expr_form (codes "of") (word e ∷ word a ∷ []), word_back e, word_back a)
layer_back (Make k payload) formed =
    let parts = and_parts (is_name k) (is_formed_expr payload.0) formed in
    cc (expr_form (codes "make") (word k ∷ tree_of_expr payload.0 ∷ []), word_back k, payload.1 parts.1)
layer_back (Rec r fields) formed =
    let parts = and_parts (is_name r) (every (map is_formed_expr (map (λ e. e.0) fields))) formed in
    expr_form (codes "rec") (word r ∷ map tree_of_expr (map (λ e. e.0) fields))
    ∙ ap₂ (λ x es. roll-Expr (Rec x es)) (word_back r) (parts_back is_formed_expr tree_of_expr (λ d. d.expr) fields parts.1)
layer_back (Register x) formed = cc (expr_form (codes "reg") (word x ∷ []), word_back x)
layer_back (Kept x) formed = cc (expr_form (codes "kept") (word x ∷ []), word_back x)
layer_back (Before x) formed = cc (expr_form (codes "before") (word x ∷ []), word_back x)
layer_back (After x) formed = cc (expr_form (codes "after") (word x ∷ []), word_back x)
layer_back (KeptCell x) formed = cc (expr_form (codes "kept_cell") (number x ∷ []), number_back x)
layer_back (BeforeCell x) formed = cc (expr_form (codes "before_cell") (number x ∷ []), number_back x)
layer_back (AfterCell x) formed = cc (expr_form (codes "after_cell") (number x ∷ []), number_back x)
layer_back (Apply o args) formed =
    let parts = and_parts (is_written o) ((length (map is_formed_expr (map (λ e. e.0) args)) == arity_of o) && every (map is_formed_expr (map (λ e. e.0) args))) formed in
    let more = and_parts (length (map is_formed_expr (map (λ e. e.0) args)) == arity_of o) (every (map is_formed_expr (map (λ e. e.0) args))) parts.1 in
    apply_back o (map tree_of_expr (map (λ e. e.0) args)) parts.0 ∙ ap (λ es. roll-Expr (Apply o es)) (parts_back is_formed_expr tree_of_expr (λ d. d.expr) args more.1)
layer_back (Get r f value) formed =
    let parts = and_parts (is_name r) (is_name f && is_formed_expr value.0) formed in
    let more = and_parts (is_name f) (is_formed_expr value.0) parts.1 in
    cc (expr_form (codes "get") (word r ∷ word f ∷ tree_of_expr value.0 ∷ []), word_back r, word_back f, value.1 more.1)

-- the tree of an expression that has its form is read back as the expression
pub expr_back : (e : Expr) → is_formed_expr e ≡ true → (decoded (tree_of_expr e)).expr ≡ e
expr_back = ind-Expr IsBack (λ x y is formed.
    ap (λ t. (decoded t).expr) (fold-roll-Expr Tree expr_tree x)
    ∙ subst (λ z. expr_formed (map-Expr Expr Bool is_formed_expr z) ≡ true → (decoded (expr_tree (map-Expr Expr Tree tree_of_expr z))).expr ≡ roll-Expr z) is
    (layer_back y) (sym (fold-roll-Expr Bool expr_formed x) ∙ formed))

pub exprs_back : (es : List Expr) → are_formed_exprs es ≡ true → map (λ d. d.expr) (map decoded (map tree_of_expr es)) ≡ es
exprs_back [] formed = refl
exprs_back (e ∷ es) formed =
    let both = and_parts (is_formed_expr e) (are_formed_exprs es) formed in
    let here = expr_back e both.0 in
    let more = exprs_back es both.1 in
    cc

-- its tree tells it
pub one_expr : IsToldByTree is_formed_expr tree_of_expr
one_expr a b first second same = sym (expr_back a first) ∙ ap (λ t. (decoded t).expr) same ∙ expr_back b second

abbrev IsCounted : Expr → Type 0
IsCounted e = trees_of_expr e ≡ count_of (tree_of_expr e)

abbrev KnownCount : Type 0
KnownCount = (e : Expr) × IsCounted e

numbers_counted : (ns : List ℕ) (trees : List Tree) → sum (map count_of (map number ns ++ trees)) ≡ length ns + sum (map count_of trees)
numbers_counted [] trees = omega arith
numbers_counted (n ∷ ns) trees = omega (arith, sum-cons (count_of (number n)) (map count_of (map number ns ++ trees)), of_number n, numbers_counted ns trees)

layer_counted : (y : Expr-F KnownCount) →
    expr_trees (map-Expr Expr ℕ trees_of_expr (map-Expr KnownCount Expr (λ e. e.0) y)) ≡ count_of (expr_tree (map-Expr Expr Tree tree_of_expr (map-Expr KnownCount Expr (λ e. e.0) y)))
layer_counted (Name x) = sym (of_word x)
layer_counted Unit = sym (of_word (codes "unit"))
layer_counted (Truth true) = sym (of_word (codes "true"))
layer_counted (Truth false) = sym (of_word (codes "false"))
layer_counted (Bits w n) = omega (arith, of_two (codes "bits") (number w) (number n), of_number w, of_number n)
layer_counted (Of e a) = omega (arith, of_two (codes "of") (word e) (word a), of_word e, of_word a)
layer_counted (Make k payload) = omega (arith, of_two (codes "make") (word k) (tree_of_expr payload.0), of_word k, payload.1)
layer_counted (Rec r fields) =
    omega (arith, of_more (codes "rec") (word r) (map tree_of_expr (map (λ e. e.0) fields)), of_word r, ap sum (parts_counted trees_of_expr tree_of_expr fields))
layer_counted (Register r) = omega (arith, of_one (codes "reg") (word r), of_word r)
layer_counted (Kept r) = omega (arith, of_one (codes "kept") (word r), of_word r)
layer_counted (KeptCell i) = omega (arith, of_one (codes "kept_cell") (number i), of_number i)
layer_counted (Before r) = omega (arith, of_one (codes "before") (word r), of_word r)
layer_counted (After r) = omega (arith, of_one (codes "after") (word r), of_word r)
layer_counted (BeforeCell i) = omega (arith, of_one (codes "before_cell") (number i), of_number i)
layer_counted (AfterCell i) = omega (arith, of_one (codes "after_cell") (number i), of_number i)
layer_counted (Apply o args) =
    let trees = map tree_of_expr (map (λ e. e.0) args) in
    omega (arith, of_form (word_of_op o) (numbers_before o ++ trees), numbers_counted (numbers_of_op o) trees, ap sum (parts_counted trees_of_expr tree_of_expr args))
layer_counted (Get r f value) = omega (arith, of_three (codes "get") (word r) (word f) (tree_of_expr value.0), of_word r, of_word f, value.1)

pub expr_counted : (e : Expr) → trees_of_expr e ≡ count_of (tree_of_expr e)
expr_counted = ind-Expr IsCounted (λ x y is.
    fold-roll-Expr ℕ expr_trees x
    ∙ subst (λ z. expr_trees (map-Expr Expr ℕ trees_of_expr z) ≡ count_of (expr_tree (map-Expr Expr Tree tree_of_expr z))) is (layer_counted y)
    ∙ sym (ap count_of (fold-roll-Expr Tree expr_tree x)))

each_counted : (es : List Expr) → map trees_of_expr es ≡ map count_of (map tree_of_expr es)
each_counted [] = refl
each_counted (e ∷ es) = let here = expr_counted e in let more = each_counted es in cc

pub exprs_counted : (es : List Expr) → trees_of_exprs es ≡ sum (map count_of (map tree_of_expr es))
exprs_counted es = ap sum (each_counted es)
