-- Assertions: what fits is one, form by form, and the tree of one fits.
use Rattle.std.proofs.Common.{◌≡◌, ℕ, Bool, ◌-◌, List, [], ◌∷◌, ◌&&◌, length, map, true, Option, Some, None, refl, ap, sym, subst, ◌∙◌, arith}
use Rattle.std.specs.Prelude.{codes, replicate}
use Rattle.std.specs.List.{AllByRecursion}
use Rattle.kat_tree.specs.declared.tree.Tree.TheVariants.{rolls-Atom, rolls-List}
use Rattle.kat_tree.specs.declared.tree.Tree.TheOpen.{Tree-F}
use Rattle.kat_tree.specs.declared.tree.Tree.TheViews.{roll-Tree}
use Rattle.kat_tree.specs.declared.tree.Tree.TheFolds.{map-Tree, ind-Tree}
use Rattle.std.specs.Option.{option_and_then}
use Rattle.kat_tree.specs.declared.tree.Tree.{Tree}
use Rattle.kat_tree.specs.declared.tree.Tree.TheVariants as variant
use Rattle.kat_shapes.specs.declared.sort.Sort.TheVariants as sort
use Rattle.kat_ast.specs.declared.assertion.Assertion.{Assertion}
use Rattle.kat_ast.specs.declared.assertion.Assertion.TheOpen as layer
use Rattle.kat_ast.specs.declared.assertion.Assertion.TheViews.{roll-Assertion}
use Rattle.kat_ast.specs.declared.assertion.Assertion.TheFolds.{map-Assertion, fold-roll-Assertion, ind-Assertion}
use Rattle.kat_ast.specs.Parts.{word, form, is_name, every}
use Rattle.kat_ast.specs.Types.{tree_of_type, is_formed_type}
use Rattle.kat_ast.specs.Expressions.{tree_of_expr, is_formed_expr, are_formed_exprs}
use Rattle.kat_ast.specs.Assertions.{assertion_tree, tree_of_assertion, assertion_formed, is_formed_assertion}
use Rattle.kat_shapes.specs.Forms.{Form, exactly, form_in, newest, row_of, assertions}
use Rattle.kat_shapes.specs.Fits.{fits}
use Rattle.kat_grammar.specs.Parts.{FitsSort, HasParts}
use Rattle.kat_grammar.specs.Forms.{IsAssertion, AreAssertions}
use Rattle.kat_grammar.proofs.Lists.{both, and2, and3, same1, same2, same3, same_first}
use Rattle.kat_grammar.proofs.Fitting.{form_fits, place_fits, no_form, no_atom, headed, exact_parts, many_parts, rest_fits}
use Rattle.kat_grammar.proofs.SmallForms.{apart, name_of, param_of, name_fits, named_many, only_many, type_fits}
use Rattle.kat_grammar.proofs.ExpressionForms.{found_holds, expr_of, exprs_of, expr_fits, exprs_fit}

-- a form from the trees of its parts
assertion_is : (y : layer.Assertion-F Assertion) (t : Tree) → assertion_tree (map-Assertion Assertion Tree tree_of_assertion y) ≡ t →
    assertion_formed (map-Assertion Assertion Bool is_formed_assertion y) ≡ true → (a : Assertion) × IsAssertion t a
assertion_is y t same formed = (roll-Assertion y, (fold-roll-Assertion Tree assertion_tree y ∙ same, fold-roll-Assertion Bool assertion_formed y ∙ formed))

-- an assertion of right form fits
abbrev AssertionFits : Assertion → Type 0
AssertionFits a = is_formed_assertion a ≡ true → fits sort.Assertion (tree_of_assertion a) ≡ true

fitting_assertions : (as_ : List ((a : Assertion) × AssertionFits a)) → every (map is_formed_assertion (map (λ a. a.0) as_)) ≡ true → AllByRecursion (FitsSort sort.Assertion) (map tree_of_assertion (map (λ a. a.0) as_))
fitting_assertions [] f = tt
fitting_assertions (a ∷ more) f = let h = apart (is_formed_assertion a.0) (every (map is_formed_assertion (map (λ a. a.0) more))) f in (a.1 h.0, fitting_assertions more h.1)

assertion_layer : (y : layer.Assertion-F ((a : Assertion) × AssertionFits a)) →
    assertion_formed (map-Assertion Assertion Bool is_formed_assertion (map-Assertion ((a : Assertion) × AssertionFits a) Assertion (λ a. a.0) y)) ≡ true →
    fits sort.Assertion (assertion_tree (map-Assertion Assertion Tree tree_of_assertion (map-Assertion ((a : Assertion) × AssertionFits a) Assertion (λ a. a.0) y))) ≡ true
assertion_layer (layer.Pure e) f = form_fits sort.Assertion (codes "pure") _ _ (sort.Expression ∷ []) refl refl (expr_fits e f, tt)
assertion_layer (layer.Register r e) f = let h = apart (is_name r) (is_formed_expr e) f in
    form_fits sort.Assertion (codes "reg") _ _ (sort.Name ∷ sort.Expression ∷ []) refl refl (name_fits r h.0, (expr_fits e h.1, tt))
assertion_layer (layer.Cell i e) f = let h = apart (is_formed_expr i) (is_formed_expr e) f in
    form_fits sort.Assertion (codes "cell") _ _ (sort.Expression ∷ sort.Expression ∷ []) refl refl (expr_fits i h.0, (expr_fits e h.1, tt))
assertion_layer (layer.Star parts) f = only_many sort.Assertion sort.Assertion (codes "star") _ refl (fitting_assertions parts f)
assertion_layer (layer.If e a b) f = let h = apart (is_formed_expr e) (is_formed_assertion a.0 && is_formed_assertion b.0) f in let i = apart (is_formed_assertion a.0) (is_formed_assertion b.0) h.1 in
    form_fits sort.Assertion (codes "if") _ _ (sort.Expression ∷ sort.Assertion ∷ sort.Assertion ∷ []) refl refl (expr_fits e h.0, (a.1 i.0, (b.1 i.1, tt)))
assertion_layer (layer.Exists x t body) f = let h = apart (is_name x) (is_formed_type t && is_formed_assertion body.0) f in let i = apart (is_formed_type t) (is_formed_assertion body.0) h.1 in
    form_fits sort.Assertion (codes "exists") _ _ (sort.Param ∷ sort.Assertion ∷ []) refl refl
    (place_fits sort.Param (word x ∷ tree_of_type t ∷ []) (exactly (sort.Name ∷ sort.TypeName ∷ [])) (sort.Name ∷ sort.TypeName ∷ []) (λ found. refl) refl (name_fits x h.0, (type_fits t i.0, tt)), (body.1 i.1, tt))
assertion_layer (layer.Predicate p args) f = let h = apart (is_name p) (are_formed_exprs args) f in named_many sort.Assertion sort.Expression (codes "pred") p (map tree_of_expr args) refl h.0 (exprs_fit args h.1)
assertion_layer (layer.Region g args) f = let h = apart (is_name g) (are_formed_exprs args) f in named_many sort.Assertion sort.Expression (codes "region") g (map tree_of_expr args) refl h.0 (exprs_fit args h.1)

pub assertion_fits : (a : Assertion) → is_formed_assertion a ≡ true → fits sort.Assertion (tree_of_assertion a) ≡ true
assertion_fits = ind-Assertion AssertionFits (λ x y is f.
    ap (fits sort.Assertion) (fold-roll-Assertion Tree assertion_tree x)
    ∙ subst (λ z. assertion_formed (map-Assertion Assertion Bool is_formed_assertion z) ≡ true → fits sort.Assertion (assertion_tree (map-Assertion Assertion Tree tree_of_assertion z)) ≡ true) is (assertion_layer y)
    (sym (fold-roll-Assertion Bool assertion_formed x) ∙ f))

-- What fits is an assertion.
abbrev AssertionOf : Tree → Type 0
AssertionOf t = FitsSort sort.Assertion t → (a : Assertion) × IsAssertion t a

abbrev Known : Type 0
Known = (t : Tree) × AssertionOf t

abbrev trees : List Known → List Tree
trees ps = map (λ p. p.0) ps

assertions_from : (ps : List Known) → AllByRecursion (FitsSort sort.Assertion) (trees ps) → (made : List Assertion) × AreAssertions (trees ps) made
assertions_from [] all = ([], (refl, refl))
assertions_from (p ∷ ps) all =
    let a = p.1 all.0 in let more = assertions_from ps all.1 in
    (a.0 ∷ more.0, (same_first a.1.0 more.1.0, both (is_formed_assertion a.0) (every (map is_formed_assertion more.0)) a.1.1 more.1.1))

pure-from : (ps : List Known) → HasParts (sort.Expression ∷ []) (trees ps) → (x : Assertion) × IsAssertion (form (codes "pure") (trees ps)) x
pure-from (p0 ∷ []) h =
    let v0 = expr_of p0.0 h.fit.0 in
    assertion_is (layer.Pure v0.0) _ (ap (form (codes "pure")) (same1 v0.1.0)) v0.1.1
pure-from _ h = absurd (omega (arith, h.count))

register-from : (ps : List Known) → HasParts (sort.Name ∷ sort.Expression ∷ []) (trees ps) → (x : Assertion) × IsAssertion (form (codes "reg") (trees ps)) x
register-from (p0 ∷ p1 ∷ []) h =
    let v0 = name_of p0.0 h.fit.0 in
    let v1 = expr_of p1.0 h.fit.1.0 in
    assertion_is (layer.Register v0.0 v1.0) _ (ap (form (codes "reg")) (same2 v0.1.0 v1.1.0)) (and2 v0.1.1 v1.1.1)
register-from _ h = absurd (omega (arith, h.count))

cell-from : (ps : List Known) → HasParts (sort.Expression ∷ sort.Expression ∷ []) (trees ps) → (x : Assertion) × IsAssertion (form (codes "cell") (trees ps)) x
cell-from (p0 ∷ p1 ∷ []) h =
    let v0 = expr_of p0.0 h.fit.0 in
    let v1 = expr_of p1.0 h.fit.1.0 in
    assertion_is (layer.Cell v0.0 v1.0) _ (ap (form (codes "cell")) (same2 v0.1.0 v1.1.0)) (and2 v0.1.1 v1.1.1)
cell-from _ h = absurd (omega (arith, h.count))

if-from : (ps : List Known) → HasParts (sort.Expression ∷ sort.Assertion ∷ sort.Assertion ∷ []) (trees ps) → (x : Assertion) × IsAssertion (form (codes "if") (trees ps)) x
if-from (p0 ∷ p1 ∷ p2 ∷ []) h =
    let v0 = expr_of p0.0 h.fit.0 in
    let v1 = p1.1 h.fit.1.0 in
    let v2 = p2.1 h.fit.1.1.0 in
    assertion_is (layer.If v0.0 v1.0 v2.0) _ (ap (form (codes "if")) (same3 v0.1.0 v1.1.0 v2.1.0)) (and3 v0.1.1 v1.1.1 v2.1.1)
if-from _ h = absurd (omega (arith, h.count))

predicate-from : (ps : List Known) → HasParts (sort.Name ∷ replicate (length (trees ps) - 1) sort.Expression) (trees ps) → (x : Assertion) × IsAssertion (form (codes "pred") (trees ps)) x
predicate-from [] h = absurd h.fit
predicate-from (p ∷ ps) h =
    let k = name_of p.0 h.fit.0 in
    let es = exprs_of (trees ps) (rest_fits (sort.Name ∷ []) sort.Expression (length (trees (p ∷ ps)) - 1) (trees (p ∷ ps)) h) in
    assertion_is (layer.Predicate k.0 es.0) _ (ap (form (codes "pred")) (same_first k.1.0 es.1.0)) (and2 k.1.1 es.1.1)

region-from : (ps : List Known) → HasParts (sort.Name ∷ replicate (length (trees ps) - 1) sort.Expression) (trees ps) → (x : Assertion) × IsAssertion (form (codes "region") (trees ps)) x
region-from [] h = absurd h.fit
region-from (p ∷ ps) h =
    let k = name_of p.0 h.fit.0 in
    let es = exprs_of (trees ps) (rest_fits (sort.Name ∷ []) sort.Expression (length (trees (p ∷ ps)) - 1) (trees (p ∷ ps)) h) in
    assertion_is (layer.Region k.0 es.0) _ (ap (form (codes "region")) (same_first k.1.0 es.1.0)) (and2 k.1.1 es.1.1)

star-from : (ps : List Known) → HasParts (replicate (length (trees ps) - 0) sort.Assertion) (trees ps) → (x : Assertion) × IsAssertion (form (codes "star") (trees ps)) x
star-from ps h =
    let all = assertions_from ps (rest_fits [] sort.Assertion (length (trees ps) - 0) (trees ps) h) in
    assertion_is (layer.Star all.0) _ (ap (form (codes "star")) all.1.0) all.1.1

exists-from : (ps : List Known) → HasParts (sort.Param ∷ sort.Assertion ∷ []) (trees ps) → (x : Assertion) × IsAssertion (form (codes "exists") (trees ps)) x
exists-from (p0 ∷ p1 ∷ []) h =
    let q = param_of p0.0 h.fit.0 in let a = p1.1 h.fit.1.0 in
    let f = apart (is_name q.0.name) (is_formed_type q.0.ty) q.1.1 in
    assertion_is (layer.Exists q.0.name q.0.ty a.0) _ (ap (form (codes "exists")) (same2 q.1.0 a.1.0)) (and3 f.0 f.1 a.1.1)
exists-from _ h = absurd (omega (arith, h.count))

-- the form of a word
abbrev ListOf : List ℕ → Form → Type 0
ListOf w f = (ps : List Known) → FitsSort sort.Assertion (form w (trees ps)) → (x : Assertion) × IsAssertion (form w (trees ps)) x

list_rows : AllByRecursion (λ (row : List ℕ × Form). ListOf row.0 row.1) assertions
list_rows = (
  λ ps fit. pure-from ps (exact_parts sort.Assertion (codes "pure") (sort.Expression ∷ []) (trees ps) refl fit),
  (
    λ ps fit. register-from ps (exact_parts sort.Assertion (codes "reg") (sort.Name ∷ sort.Expression ∷ []) (trees ps) refl fit),
    (
      λ ps fit. cell-from ps (exact_parts sort.Assertion (codes "cell") (sort.Expression ∷ sort.Expression ∷ []) (trees ps) refl fit),
      (
        λ ps fit. star-from ps (many_parts sort.Assertion (codes "star") ([]) sort.Assertion (trees ps) refl fit),
        (
          λ ps fit. if-from ps (exact_parts sort.Assertion (codes "if") (sort.Expression ∷ sort.Assertion ∷ sort.Assertion ∷ []) (trees ps) refl fit),
          (
            λ ps fit. exists-from ps (exact_parts sort.Assertion (codes "exists") (sort.Param ∷ sort.Assertion ∷ []) (trees ps) refl fit),
            (
              λ ps fit. predicate-from ps (many_parts sort.Assertion (codes "pred") (sort.Name ∷ []) sort.Expression (trees ps) refl fit),
              (λ ps fit. region-from ps (many_parts sort.Assertion (codes "region") (sort.Name ∷ []) sort.Expression (trees ps) refl fit), tt),
            ),
          ),
        ),
      ),
    ),
  ),
)

list_by : (w : List ℕ) (ps : List Known) (found : Option Form) → row_of assertions w ≡ found → FitsSort sort.Assertion (form w (trees ps)) →
    (x : Assertion) × IsAssertion (form w (trees ps)) x
list_by w ps None none fit = absurd (no_form sort.Assertion w (trees ps) (ap (option_and_then (form_in newest)) none) fit)
list_by w ps (Some f) found fit = found_holds ListOf assertions w f list_rows found ps fit

list_of : (ps : List Known) → FitsSort sort.Assertion (variant.List (trees ps)) → (x : Assertion) × IsAssertion (variant.List (trees ps)) x
list_of [] fit = absurd (let h = headed sort.Assertion [] refl fit in omega (arith, ap length h.is))
list_of (p ∷ ps) fit =
    let h = headed sort.Assertion (trees (p ∷ ps)) refl fit in
    let first : p.0 ≡ word h.head = let e = h.is in cc in
    let is : variant.List (trees (p ∷ ps)) ≡ form h.head (trees ps) = ap (λ t. variant.List (t ∷ trees ps)) first in
    subst (λ t. (x : Assertion) × IsAssertion t x) (sym is)
    (list_by h.head ps (row_of assertions h.head) refl (subst (FitsSort sort.Assertion) is fit))

assertion_layer_of : (y : Tree-F Known) → AssertionOf (roll-Tree (map-Tree Known Tree (λ p. p.0) y))
assertion_layer_of (Tree-F.Atom t) = subst AssertionOf (sym (rolls-Atom t)) (λ fit. absurd (no_atom sort.Assertion t (record { numbers = λ n. refl; names = λ x. refl }) fit))
assertion_layer_of (Tree-F.List ps) = subst AssertionOf (sym (rolls-List (trees ps))) (list_of ps)

pub assertion_of : (t : Tree) → FitsSort sort.Assertion t → (a : Assertion) × IsAssertion t a
assertion_of = ind-Tree AssertionOf (λ x y is. subst (λ z. AssertionOf (roll-Tree z)) is (assertion_layer_of y))
