-- Assertions: the tree of each is read back as it, and has as many trees as it is said to have.
use Rattle.std.proofs.Common.{◌≡◌, Bool, true, ◌&&◌, List, [], ◌∷◌, map, sym, ap, ◌∙◌, subst, ℕ, sum, arith}
use Rattle.std.specs.Prelude.{codes}
use Rattle.std.proofs.lemmas.Bool.{and_parts}
use Rattle.kat_tree.specs.declared.tree.Tree.{Tree}
use Rattle.kat_tree.specs.declared.tree.Tree.TheVariants as tree
use Rattle.kat_tree.specs.Preorder.{count_of}
use Rattle.kat_ast.specs.declared.type_name.Param.{Param}
use Rattle.kat_ast.specs.declared.assertion.Assertion.{Assertion}
use Rattle.kat_ast.specs.declared.assertion.Assertion.TheOpen.{Assertion-F, Pure, Register, Cell, Star, If, Exists, Predicate, Region}
use Rattle.kat_ast.specs.declared.assertion.Assertion.TheViews.{roll-Assertion}
use Rattle.kat_ast.specs.declared.assertion.Assertion.TheFolds.{map-Assertion, fold-roll-Assertion, ind-Assertion}
use Rattle.kat_ast.specs.Parts.{word, is_name}
use Rattle.kat_ast.specs.Types.{tree_of_type, is_formed_type}
use Rattle.kat_ast.specs.Expressions.{tree_of_expr, is_formed_expr, are_formed_exprs}
use Rattle.kat_ast.specs.Assertions.{assertion_tree, tree_of_assertion, assertion_formed, is_formed_assertion, assertion_trees, trees_of_assertion}
use Rattle.kat_ast.specs.Laws.{IsToldByTree}
use Rattle.kat_ast.proofs.Decoded.{decoded, assertion_by, word_back, assertion_form}
use Rattle.kat_ast.proofs.Expressions.{expr_back, exprs_back, expr_counted, exprs_counted}
use Rattle.kat_ast.proofs.Types.{param_back, type_counted}
use Rattle.kat_ast.proofs.Counting.{of_word, of_form, of_one, of_two, of_three, of_more, of_pair}
use Rattle.kat_ast.proofs.SideBySide.{parts_back, parts_counted}

abbrev IsBack : Assertion → Type 0
IsBack a = is_formed_assertion a ≡ true → (decoded (tree_of_assertion a)).assertion ≡ a

abbrev KnownBack : Type 0
KnownBack = (a : Assertion) × IsBack a

layer_back : (y : Assertion-F KnownBack) → assertion_formed (map-Assertion Assertion Bool is_formed_assertion (map-Assertion KnownBack Assertion (λ e. e.0) y)) ≡ true →
    (decoded (assertion_tree (map-Assertion Assertion Tree tree_of_assertion (map-Assertion KnownBack Assertion (λ e. e.0) y)))).assertion
    ≡ roll-Assertion (map-Assertion KnownBack Assertion (λ e. e.0) y)
unfolding assertion_by
layer_back (Pure e) formed = cc (assertion_form (codes "pure") (tree_of_expr e ∷ []), expr_back e formed)
layer_back (Register r e) formed =
    let both = and_parts (is_name r) (is_formed_expr e) formed in
    cc (assertion_form (codes "reg") (word r ∷ tree_of_expr e ∷ []), word_back r, expr_back e both.1)
layer_back (Cell index e) formed =
    let both = and_parts (is_formed_expr index) (is_formed_expr e) formed in
    cc (assertion_form (codes "cell") (tree_of_expr index ∷ tree_of_expr e ∷ []), expr_back index both.0, expr_back e both.1)
layer_back (Star parts) formed =
    assertion_form (codes "star") (map tree_of_assertion (map (λ e. e.0) parts)) ∙ ap (λ ps. roll-Assertion (Star ps)) (parts_back is_formed_assertion tree_of_assertion (λ d. d.assertion) parts formed)
layer_back (If e a b) formed =
    let parts = and_parts (is_formed_expr e) (is_formed_assertion a.0 && is_formed_assertion b.0) formed in
    let more = and_parts (is_formed_assertion a.0) (is_formed_assertion b.0) parts.1 in
    cc (assertion_form (codes "if") (tree_of_expr e ∷ tree_of_assertion a.0 ∷ tree_of_assertion b.0 ∷ []), expr_back e parts.0, a.1 more.0, b.1 more.1)
layer_back (Exists x type body) formed =
    let parts = and_parts (is_name x) (is_formed_type type && is_formed_assertion body.0) formed in
    let more = and_parts (is_formed_type type) (is_formed_assertion body.0) parts.1 in
    let bound : Param = record { name = x; ty = type } in
    let own : (is_name x && is_formed_type type) ≡ true = simp (parts.0, more.0) in
    assertion_form (codes "exists") (tree.List (word x ∷ tree_of_type type ∷ []) ∷ tree_of_assertion body.0 ∷ [])
    ∙ ap (λ (p : Param). roll-Assertion (Exists p.name p.ty (decoded (tree_of_assertion body.0)).assertion)) (param_back bound own)
    ∙ ap (λ a. roll-Assertion (Exists x type a)) (body.1 more.1)
layer_back (Predicate p args) formed =
    let both = and_parts (is_name p) (are_formed_exprs args) formed in
    cc (assertion_form (codes "pred") (word p ∷ map tree_of_expr args), word_back p, exprs_back args both.1)
layer_back (Region g args) formed =
    let both = and_parts (is_name g) (are_formed_exprs args) formed in
    cc (assertion_form (codes "region") (word g ∷ map tree_of_expr args), word_back g, exprs_back args both.1)

-- the tree of an assertion that has its form is read back as the assertion
pub assertion_back : (a : Assertion) → is_formed_assertion a ≡ true → (decoded (tree_of_assertion a)).assertion ≡ a
assertion_back = ind-Assertion IsBack (λ x y is formed.
    ap (λ t. (decoded t).assertion) (fold-roll-Assertion Tree assertion_tree x)
    ∙ subst (λ z. assertion_formed (map-Assertion Assertion Bool is_formed_assertion z) ≡ true → (decoded (assertion_tree (map-Assertion Assertion Tree tree_of_assertion z))).assertion ≡ roll-Assertion z) is
    (layer_back y) (sym (fold-roll-Assertion Bool assertion_formed x) ∙ formed))

-- its tree tells it
pub one_assertion : IsToldByTree is_formed_assertion tree_of_assertion
one_assertion a b first second same = sym (assertion_back a first) ∙ ap (λ t. (decoded t).assertion) same ∙ assertion_back b second

abbrev IsCounted : Assertion → Type 0
IsCounted a = trees_of_assertion a ≡ count_of (tree_of_assertion a)

abbrev KnownCount : Type 0
KnownCount = (a : Assertion) × IsCounted a

layer_counted : (y : Assertion-F KnownCount) →
    assertion_trees (map-Assertion Assertion ℕ trees_of_assertion (map-Assertion KnownCount Assertion (λ e. e.0) y))
    ≡ count_of (assertion_tree (map-Assertion Assertion Tree tree_of_assertion (map-Assertion KnownCount Assertion (λ e. e.0) y)))
layer_counted (Pure e) = omega (arith, of_one (codes "pure") (tree_of_expr e), expr_counted e)
layer_counted (Register r e) = omega (arith, of_two (codes "reg") (word r) (tree_of_expr e), of_word r, expr_counted e)
layer_counted (Cell index e) = omega (arith, of_two (codes "cell") (tree_of_expr index) (tree_of_expr e), expr_counted index, expr_counted e)
layer_counted (Star parts) = omega (arith, of_form (codes "star") (map tree_of_assertion (map (λ e. e.0) parts)), ap sum (parts_counted trees_of_assertion tree_of_assertion parts))
layer_counted (If e a b) = omega (arith, of_three (codes "if") (tree_of_expr e) (tree_of_assertion a.0) (tree_of_assertion b.0), expr_counted e, a.1, b.1)
layer_counted (Exists x type body) =
    omega (
      arith,
      of_two (codes "exists") (tree.List (word x ∷ tree_of_type type ∷ [])) (tree_of_assertion body.0),
      of_pair (word x) (tree_of_type type),
      of_word x,
      type_counted type,
      body.1,
    )
layer_counted (Predicate p args) = omega (arith, of_more (codes "pred") (word p) (map tree_of_expr args), of_word p, exprs_counted args)
layer_counted (Region g args) = omega (arith, of_more (codes "region") (word g) (map tree_of_expr args), of_word g, exprs_counted args)

pub assertion_counted : (a : Assertion) → trees_of_assertion a ≡ count_of (tree_of_assertion a)
assertion_counted = ind-Assertion IsCounted (λ x y is.
    fold-roll-Assertion ℕ assertion_trees x
    ∙ subst (λ z. assertion_trees (map-Assertion Assertion ℕ trees_of_assertion z) ≡ count_of (assertion_tree (map-Assertion Assertion Tree tree_of_assertion z))) is (layer_counted y)
    ∙ sym (ap count_of (fold-roll-Assertion Tree assertion_tree x)))
