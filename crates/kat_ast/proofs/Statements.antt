-- Statements: the tree of each is read back as it, and has as many trees as it is said to have.
use Rattle.std.proofs.Common.{◌≡◌, ℕ, Bool, true, ◌&&◌, List, [], ◌∷◌, map, sym, ap, ◌∙◌, refl, subst, ◌+◌, sum, arith}
use Rattle.std.specs.Prelude.{codes, sum_by}
use Rattle.std.proofs.lemmas.Bool.{and_parts}
use Rattle.kat_tree.specs.declared.tree.Tree.{Tree}
use Rattle.kat_tree.specs.declared.tree.Tree.TheVariants as tree
use Rattle.kat_tree.specs.Preorder.{count_of}
use Rattle.kat_ast.specs.declared.stm.Stm.{Stm}
use Rattle.kat_ast.specs.declared.stm.CaseArm.{CaseArm}
use Rattle.kat_ast.specs.declared.stm.MatchArm.{MatchArm}
use Rattle.kat_ast.specs.declared.stm.Stm.TheShapes.{former-Stm-Case-1-at-2 as case_arm, former-Stm-Match-1-at-3 as match_arm}
use Rattle.kat_ast.specs.declared.stm.Stm.TheOpen.{Stm-F, Ret, Let, Seq, If, Case, Match, Read, Write, Load, Store, Call, Check, Fail, Open, Close, Lemma}
use Rattle.kat_ast.specs.declared.stm.Stm.TheViews.{roll-Stm}
use Rattle.kat_ast.specs.declared.stm.Stm.TheFolds.{map-Stm, fold-roll-Stm, ind-Stm}
use Rattle.kat_ast.specs.Parts.{word, is_name, every, is_nonempty}
use Rattle.kat_ast.specs.Expressions.{tree_of_expr, is_formed_expr, are_formed_exprs}
use Rattle.kat_ast.specs.Statements.{tree_of_case_arm, tree_of_match_arm, stm_tree, tree_of_stm, is_formed_case_arm, is_formed_match_arm, stm_formed, is_formed_stm, trees_of_case_arm, trees_of_match_arm, stm_trees, trees_of_stm}
use Rattle.kat_ast.specs.Laws.{IsToldByTree}
use Rattle.kat_ast.proofs.Decoded.{decoded, decoded-List, stm_by, word_back, stm_form}
use Rattle.kat_ast.proofs.Expressions.{expr_back, exprs_back, expr_counted, exprs_counted}
use Rattle.kat_ast.proofs.Counting.{sum-cons, sum_by-map, of_word, of_form, of_one, of_two, of_three, of_more, of_pair, of_triple}
use Rattle.kat_ast.proofs.SideBySide.{parts_back, parts_counted}

abbrev IsBack : Stm → Type 0
IsBack s = is_formed_stm s ≡ true → (decoded (tree_of_stm s)).stm ≡ s

abbrev KnownBack : Type 0
KnownBack = (s : Stm) × IsBack s

case_arm_back : (member : List ℕ) (body : Stm) → (decoded (tree_of_stm body)).stm ≡ body →
    (decoded (tree_of_case_arm (record { member = member; body = tree_of_stm body }))).case_arm ≡ record { member = member; body = body }
case_arm_back member body is =
    ap (λ d. d.case_arm) (decoded-List (word member ∷ tree_of_stm body ∷ []))
    ∙ ap (λ x. record { member = x; body = (decoded (tree_of_stm body)).stm }) (word_back member)
    ∙ ap (λ s. record { member = member; body = s }) is

match_arm_back : (ctor payload : List ℕ) (body : Stm) → (decoded (tree_of_stm body)).stm ≡ body →
    (decoded (tree_of_match_arm (record { ctor = ctor; payload = payload; body = tree_of_stm body }))).match_arm ≡ record { ctor = ctor; payload = payload; body = body }
match_arm_back ctor payload body is =
    ap (λ d. d.match_arm) (decoded-List (word ctor ∷ word payload ∷ tree_of_stm body ∷ []))
    ∙ ap (λ x. record { ctor = x; payload = (decoded (word payload)).word; body = (decoded (tree_of_stm body)).stm }) (word_back ctor)
    ∙ ap (λ x. record { ctor = ctor; payload = x; body = (decoded (tree_of_stm body)).stm }) (word_back payload)
    ∙ ap (λ s. record { ctor = ctor; payload = payload; body = s }) is

case_arms_back : (arms : List (CaseArm KnownBack)) →
    every (map is_formed_case_arm (map (case_arm.map Stm Bool is_formed_stm) (map (case_arm.map KnownBack Stm (λ e. e.0)) arms))) ≡ true →
    map (λ d. d.case_arm) (map decoded (map tree_of_case_arm (map (case_arm.map Stm Tree tree_of_stm) (map (case_arm.map KnownBack Stm (λ e. e.0)) arms))))
    ≡ map (case_arm.map KnownBack Stm (λ e. e.0)) arms
case_arms_back [] formed = refl
case_arms_back (arm ∷ arms) formed =
    let both = and_parts (is_name arm.member && is_formed_stm arm.body.0)
    (every (map is_formed_case_arm (map (case_arm.map Stm Bool is_formed_stm) (map (case_arm.map KnownBack Stm (λ e. e.0)) arms)))) formed in
    let own = and_parts (is_name arm.member) (is_formed_stm arm.body.0) both.0 in
    ap (λ (x : CaseArm Stm). x ∷ map (λ d. d.case_arm) (map decoded (map tree_of_case_arm (map (case_arm.map Stm Tree tree_of_stm) (map (case_arm.map KnownBack Stm (λ e. e.0)) arms)))))
    (case_arm_back arm.member arm.body.0 (arm.body.1 own.1))
    ∙ ap (λ (xs : List (CaseArm Stm)). record { member = arm.member; body = arm.body.0 } ∷ xs) (case_arms_back arms both.1)

match_arms_back : (arms : List (MatchArm KnownBack)) →
    every (map is_formed_match_arm (map (match_arm.map Stm Bool is_formed_stm) (map (match_arm.map KnownBack Stm (λ e. e.0)) arms))) ≡ true →
    map (λ d. d.match_arm) (map decoded (map tree_of_match_arm (map (match_arm.map Stm Tree tree_of_stm) (map (match_arm.map KnownBack Stm (λ e. e.0)) arms))))
    ≡ map (match_arm.map KnownBack Stm (λ e. e.0)) arms
match_arms_back [] formed = refl
match_arms_back (arm ∷ arms) formed =
    let both = and_parts (is_name arm.ctor && (is_name arm.payload && is_formed_stm arm.body.0))
    (every (map is_formed_match_arm (map (match_arm.map Stm Bool is_formed_stm) (map (match_arm.map KnownBack Stm (λ e. e.0)) arms)))) formed in
    let own = and_parts (is_name arm.ctor) (is_name arm.payload && is_formed_stm arm.body.0) both.0 in
    let body = and_parts (is_name arm.payload) (is_formed_stm arm.body.0) own.1 in
    ap (λ (x : MatchArm Stm). x ∷ map (λ d. d.match_arm) (map decoded (map tree_of_match_arm (map (match_arm.map Stm Tree tree_of_stm) (map (match_arm.map KnownBack Stm (λ e. e.0)) arms)))))
    (match_arm_back arm.ctor arm.payload arm.body.0 (arm.body.1 body.1))
    ∙ ap (λ (xs : List (MatchArm Stm)). record { ctor = arm.ctor; payload = arm.payload; body = arm.body.0 } ∷ xs) (match_arms_back arms both.1)

layer_back : (y : Stm-F KnownBack) → stm_formed (map-Stm Stm Bool is_formed_stm (map-Stm KnownBack Stm (λ e. e.0) y)) ≡ true →
    (decoded (stm_tree (map-Stm Stm Tree tree_of_stm (map-Stm KnownBack Stm (λ e. e.0) y)))).stm ≡ roll-Stm (map-Stm KnownBack Stm (λ e. e.0) y)
unfolding stm_by
layer_back (Ret e) formed = cc (stm_form (codes "ret") (tree_of_expr e ∷ []), expr_back e formed)
layer_back (Let x a b) formed =
    let parts = and_parts (is_name x) (is_formed_stm a.0 && is_formed_stm b.0) formed in
    let more = and_parts (is_formed_stm a.0) (is_formed_stm b.0) parts.1 in
    cc (stm_form (codes "let") (word x ∷ tree_of_stm a.0 ∷ tree_of_stm b.0 ∷ []), word_back x, a.1 more.0, b.1 more.1)
layer_back (Seq parts) formed =
    let both = and_parts (is_nonempty (map is_formed_stm (map (λ e. e.0) parts))) (every (map is_formed_stm (map (λ e. e.0) parts))) formed in
    stm_form (codes "seq") (map tree_of_stm (map (λ e. e.0) parts)) ∙ ap (λ ss. roll-Stm (Seq ss)) (parts_back is_formed_stm tree_of_stm (λ d. d.stm) parts both.1)
layer_back (If e a b) formed =
    let parts = and_parts (is_formed_expr e) (is_formed_stm a.0 && is_formed_stm b.0) formed in
    let more = and_parts (is_formed_stm a.0) (is_formed_stm b.0) parts.1 in
    cc (stm_form (codes "if") (tree_of_expr e ∷ tree_of_stm a.0 ∷ tree_of_stm b.0 ∷ []), expr_back e parts.0, a.1 more.0, b.1 more.1)
layer_back (Case e arms) formed =
    let both = and_parts (is_formed_expr e) (every (map is_formed_case_arm (map (case_arm.map Stm Bool is_formed_stm) (map (case_arm.map KnownBack Stm (λ e. e.0)) arms)))) formed in
    let trees = map tree_of_case_arm (map (case_arm.map Stm Tree tree_of_stm) (map (case_arm.map KnownBack Stm (λ e. e.0)) arms)) in
    stm_form (codes "case") (tree_of_expr e ∷ trees)
    ∙ ap (λ x. roll-Stm (Case x (map (λ d. d.case_arm) (map decoded trees)))) (expr_back e both.0)
    ∙ ap (λ xs. roll-Stm (Case e xs)) (case_arms_back arms both.1)
layer_back (Match e arms) formed =
    let both = and_parts (is_formed_expr e) (every (map is_formed_match_arm (map (match_arm.map Stm Bool is_formed_stm) (map (match_arm.map KnownBack Stm (λ e. e.0)) arms)))) formed in
    let trees = map tree_of_match_arm (map (match_arm.map Stm Tree tree_of_stm) (map (match_arm.map KnownBack Stm (λ e. e.0)) arms)) in
    stm_form (codes "match") (tree_of_expr e ∷ trees)
    ∙ ap (λ x. roll-Stm (Match x (map (λ d. d.match_arm) (map decoded trees)))) (expr_back e both.0)
    ∙ ap (λ xs. roll-Stm (Match e xs)) (match_arms_back arms both.1)
layer_back (Read r) formed = cc (stm_form (codes "read") (word r ∷ []), word_back r)
layer_back (Write r e) formed =
    let both = and_parts (is_name r) (is_formed_expr e) formed in
    cc (stm_form (codes "write") (word r ∷ tree_of_expr e ∷ []), word_back r, expr_back e both.1)
layer_back (Load index) formed = cc (stm_form (codes "load") (tree_of_expr index ∷ []), expr_back index formed)
layer_back (Store index e) formed =
    let both = and_parts (is_formed_expr index) (is_formed_expr e) formed in
    cc (stm_form (codes "store") (tree_of_expr index ∷ tree_of_expr e ∷ []), expr_back index both.0, expr_back e both.1)
layer_back (Call f args) formed =
    let both = and_parts (is_name f) (are_formed_exprs args) formed in
    cc (stm_form (codes "call") (word f ∷ map tree_of_expr args), word_back f, exprs_back args both.1)
layer_back (Check e) formed = cc (stm_form (codes "check") (tree_of_expr e ∷ []), expr_back e formed)
layer_back Fail formed = stm_form (codes "fail") []
layer_back (Open p inputs) formed =
    let both = and_parts (is_name p) (are_formed_exprs inputs) formed in
    cc (stm_form (codes "open") (word p ∷ map tree_of_expr inputs), word_back p, exprs_back inputs both.1)
layer_back (Close p inputs) formed =
    let both = and_parts (is_name p) (are_formed_exprs inputs) formed in
    cc (stm_form (codes "close") (word p ∷ map tree_of_expr inputs), word_back p, exprs_back inputs both.1)
layer_back (Lemma l args) formed =
    let both = and_parts (is_name l) (are_formed_exprs args) formed in
    cc (stm_form (codes "lemma") (word l ∷ map tree_of_expr args), word_back l, exprs_back args both.1)

-- the tree of a statement that has its form is read back as the statement
pub stm_back : (s : Stm) → is_formed_stm s ≡ true → (decoded (tree_of_stm s)).stm ≡ s
stm_back = ind-Stm IsBack (λ x y is formed.
    ap (λ t. (decoded t).stm) (fold-roll-Stm Tree stm_tree x)
    ∙ subst (λ z. stm_formed (map-Stm Stm Bool is_formed_stm z) ≡ true → (decoded (stm_tree (map-Stm Stm Tree tree_of_stm z))).stm ≡ roll-Stm z) is
    (layer_back y) (sym (fold-roll-Stm Bool stm_formed x) ∙ formed))

pub stms_back : (ss : List Stm) → every (map is_formed_stm ss) ≡ true → map (λ d. d.stm) (map decoded (map tree_of_stm ss)) ≡ ss
stms_back [] formed = refl
stms_back (s ∷ ss) formed =
    let both = and_parts (is_formed_stm s) (every (map is_formed_stm ss)) formed in
    let here = stm_back s both.0 in
    let more = stms_back ss both.1 in
    cc

-- its tree tells it
pub one_stm : IsToldByTree is_formed_stm tree_of_stm
one_stm a b first second same = sym (stm_back a first) ∙ ap (λ t. (decoded t).stm) same ∙ stm_back b second

abbrev IsCounted : Stm → Type 0
IsCounted s = trees_of_stm s ≡ count_of (tree_of_stm s)

abbrev KnownCount : Type 0
KnownCount = (s : Stm) × IsCounted s

abbrev case_arms : List (CaseArm KnownCount) → List (CaseArm Stm)
case_arms arms = map (case_arm.map KnownCount Stm (λ e. e.0)) arms

abbrev match_arms : List (MatchArm KnownCount) → List (MatchArm Stm)
match_arms arms = map (match_arm.map KnownCount Stm (λ e. e.0)) arms

case_arms_counted : (arms : List (CaseArm KnownCount)) →
    sum (map trees_of_case_arm (map (case_arm.map Stm ℕ trees_of_stm) (case_arms arms)))
    ≡ sum (map count_of (map tree_of_case_arm (map (case_arm.map Stm Tree tree_of_stm) (case_arms arms))))
case_arms_counted [] = refl
case_arms_counted (arm ∷ arms) =
    let trees = map trees_of_case_arm (map (case_arm.map Stm ℕ trees_of_stm) (case_arms arms)) in
    let counts = map count_of (map tree_of_case_arm (map (case_arm.map Stm Tree tree_of_stm) (case_arms arms))) in
    let arm_tree = tree.List (word arm.member ∷ tree_of_stm arm.body.0 ∷ []) in
    omega (
      arith,
      sum-cons (2 + trees_of_stm arm.body.0) trees,
      sum-cons (count_of arm_tree) counts,
      of_pair (word arm.member) (tree_of_stm arm.body.0),
      of_word arm.member,
      arm.body.1,
      case_arms_counted arms,
    )

match_arms_counted : (arms : List (MatchArm KnownCount)) →
    sum (map trees_of_match_arm (map (match_arm.map Stm ℕ trees_of_stm) (match_arms arms)))
    ≡ sum (map count_of (map tree_of_match_arm (map (match_arm.map Stm Tree tree_of_stm) (match_arms arms))))
match_arms_counted [] = refl
match_arms_counted (arm ∷ arms) =
    let trees = map trees_of_match_arm (map (match_arm.map Stm ℕ trees_of_stm) (match_arms arms)) in
    let counts = map count_of (map tree_of_match_arm (map (match_arm.map Stm Tree tree_of_stm) (match_arms arms))) in
    let arm_tree = tree.List (word arm.ctor ∷ word arm.payload ∷ tree_of_stm arm.body.0 ∷ []) in
    omega (
      arith,
      sum-cons (3 + trees_of_stm arm.body.0) trees,
      sum-cons (count_of arm_tree) counts,
      of_triple (word arm.ctor) (word arm.payload) (tree_of_stm arm.body.0),
      of_word arm.ctor,
      of_word arm.payload,
      arm.body.1,
      match_arms_counted arms,
    )

layer_counted : (y : Stm-F KnownCount) →
    stm_trees (map-Stm Stm ℕ trees_of_stm (map-Stm KnownCount Stm (λ e. e.0) y)) ≡ count_of (stm_tree (map-Stm Stm Tree tree_of_stm (map-Stm KnownCount Stm (λ e. e.0) y)))
layer_counted (Ret e) = omega (arith, of_one (codes "ret") (tree_of_expr e), expr_counted e)
layer_counted (Let x a b) = omega (arith, of_three (codes "let") (word x) (tree_of_stm a.0) (tree_of_stm b.0), of_word x, a.1, b.1)
layer_counted (Seq parts) = omega (arith, of_form (codes "seq") (map tree_of_stm (map (λ e. e.0) parts)), ap sum (parts_counted trees_of_stm tree_of_stm parts))
layer_counted (If e a b) = omega (arith, of_three (codes "if") (tree_of_expr e) (tree_of_stm a.0) (tree_of_stm b.0), expr_counted e, a.1, b.1)
layer_counted (Case e arms) =
    let trees = map tree_of_case_arm (map (case_arm.map Stm Tree tree_of_stm) (case_arms arms)) in
    omega (
      arith,
      of_more (codes "case") (tree_of_expr e) trees,
      expr_counted e,
      sum_by-map trees_of_case_arm (map (case_arm.map Stm ℕ trees_of_stm) (case_arms arms)),
      case_arms_counted arms,
    )
layer_counted (Match e arms) =
    let trees = map tree_of_match_arm (map (match_arm.map Stm Tree tree_of_stm) (match_arms arms)) in
    omega (
      arith,
      of_more (codes "match") (tree_of_expr e) trees,
      expr_counted e,
      sum_by-map trees_of_match_arm (map (match_arm.map Stm ℕ trees_of_stm) (match_arms arms)),
      match_arms_counted arms,
    )
layer_counted (Read r) = omega (arith, of_one (codes "read") (word r), of_word r)
layer_counted (Write r e) = omega (arith, of_two (codes "write") (word r) (tree_of_expr e), of_word r, expr_counted e)
layer_counted (Load index) = omega (arith, of_one (codes "load") (tree_of_expr index), expr_counted index)
layer_counted (Store index e) = omega (arith, of_two (codes "store") (tree_of_expr index) (tree_of_expr e), expr_counted index, expr_counted e)
layer_counted (Call f args) = omega (arith, of_more (codes "call") (word f) (map tree_of_expr args), of_word f, exprs_counted args)
layer_counted (Check e) = omega (arith, of_one (codes "check") (tree_of_expr e), expr_counted e)
layer_counted Fail = omega (arith, of_form (codes "fail") [])
layer_counted (Open p inputs) = omega (arith, of_more (codes "open") (word p) (map tree_of_expr inputs), of_word p, exprs_counted inputs)
layer_counted (Close p inputs) = omega (arith, of_more (codes "close") (word p) (map tree_of_expr inputs), of_word p, exprs_counted inputs)
layer_counted (Lemma l args) = omega (arith, of_more (codes "lemma") (word l) (map tree_of_expr args), of_word l, exprs_counted args)

pub stm_counted : (s : Stm) → trees_of_stm s ≡ count_of (tree_of_stm s)
stm_counted = ind-Stm IsCounted (λ x y is.
    fold-roll-Stm ℕ stm_trees x
    ∙ subst (λ z. stm_trees (map-Stm Stm ℕ trees_of_stm z) ≡ count_of (stm_tree (map-Stm Stm Tree tree_of_stm z))) is (layer_counted y)
    ∙ sym (ap count_of (fold-roll-Stm Tree stm_tree x)))

each_counted : (ss : List Stm) → map trees_of_stm ss ≡ map count_of (map tree_of_stm ss)
each_counted [] = refl
each_counted (s ∷ ss) = let here = stm_counted s in let more = each_counted ss in cc

pub stms_counted : (ss : List Stm) → sum_by trees_of_stm ss ≡ sum (map count_of (map tree_of_stm ss))
stms_counted ss = sum_by-map trees_of_stm ss ∙ ap sum (each_counted ss)
