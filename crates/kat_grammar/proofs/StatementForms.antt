-- Statements: what fits is one, form by form, and the tree of one fits.
use Rattle.std.proofs.Common.{◌≡◌, ℕ, Bool, ◌-◌, List, [], ◌∷◌, ◌&&◌, length, map, true, Option, Some, None, refl, ap, sym, subst, ◌∙◌, arith}
use Rattle.std.specs.Prelude.{codes, replicate}
use Rattle.std.specs.List.{AllByRecursion}
use Rattle.kat_tree.specs.declared.tree.Token.{Token}
use Rattle.kat_tree.specs.declared.tree.Tree.TheVariants.{rolls-Atom, rolls-List}
use Rattle.kat_tree.specs.declared.tree.Tree.TheOpen.{Tree-F}
use Rattle.kat_tree.specs.declared.tree.Tree.TheViews.{roll-Tree}
use Rattle.kat_tree.specs.declared.tree.Tree.TheFolds.{map-Tree, ind-Tree}
use Rattle.std.specs.Option.{option_and_then}
use Rattle.std.proofs.lemmas.List.{length-replicate}
use Rattle.kat_tree.specs.declared.tree.Tree.{Tree}
use Rattle.kat_tree.specs.declared.tree.Tree.TheVariants as variant
use Rattle.kat_shapes.specs.declared.sort.Sort.TheVariants as sort
use Rattle.kat_ast.specs.declared.stm.Stm.{Stm}
use Rattle.kat_ast.specs.declared.stm.CaseArm.{CaseArm}
use Rattle.kat_ast.specs.declared.stm.MatchArm.{MatchArm}
use Rattle.kat_ast.specs.declared.stm.Stm.TheViews.{roll-Stm}
use Rattle.kat_ast.specs.declared.stm.Stm.TheOpen as layer
use Rattle.kat_ast.specs.declared.stm.Stm.TheShapes.{former-Stm-Case-1-at-2 as case_arm, former-Stm-Match-1-at-3 as match_arm}
use Rattle.kat_ast.specs.declared.stm.Stm.TheFolds.{map-Stm, fold-roll-Stm, ind-Stm}
use Rattle.kat_ast.specs.Parts.{word, form, is_name, every, is_nonempty}
use Rattle.kat_ast.specs.Expressions.{tree_of_expr, is_formed_expr, are_formed_exprs}
use Rattle.kat_ast.specs.Statements.{tree_of_case_arm, tree_of_match_arm, stm_tree, tree_of_stm, is_formed_case_arm, is_formed_match_arm, stm_formed, is_formed_stm}
use Rattle.kat_shapes.specs.Forms.{Form, exactly, form_in, newest, row_of, statements}
use Rattle.kat_shapes.specs.Fits.{fits}
use Rattle.kat_grammar.specs.Parts.{FitsSort, HasParts}
use Rattle.kat_grammar.specs.Forms.{IsStm, IsCaseArm, IsMatchArm, AreStms, AreCaseArms, AreMatchArms, case_formed, match_formed}
use Rattle.kat_grammar.proofs.Lists.{both, and2, and3, same1, same2, same3, same_first}
use Rattle.kat_grammar.proofs.Fitting.{form_fits, place_fits, no_form, no_atom, headed, exact_parts, many_parts, exact_place, rest_fits, some_fit}
use Rattle.kat_grammar.proofs.SmallForms.{apart, name_of, some_made, name_fits, named_many, headed_many}
use Rattle.kat_grammar.proofs.ExpressionForms.{found_holds, expr_of, exprs_of, expr_fits, exprs_fit}

-- a form from the trees of its parts
stm_is : (y : layer.Stm-F Stm) (t : Tree) → stm_tree (map-Stm Stm Tree tree_of_stm y) ≡ t →
    stm_formed (map-Stm Stm Bool is_formed_stm y) ≡ true → (s : Stm) × IsStm t s
stm_is y t same formed = (roll-Stm y, (fold-roll-Stm Tree stm_tree y ∙ same, fold-roll-Stm Bool stm_formed y ∙ formed))

map_map : {A B C : Type 0} (f : B → C) (g : A → B) (xs : List A) → map f (map g xs) ≡ map (λ x. f (g x)) xs
map_map f g [] = refl
map_map f g (x ∷ xs) = ap (λ ys. f (g x) ∷ ys) (map_map f g xs)

some_map : {A B : Type 0} → (f : A → B) (xs : List A) → is_nonempty (map f xs) ≡ is_nonempty xs
some_map f [] = refl
some_map f (x ∷ xs) = refl

-- a statement of right form fits
abbrev StmFits : Stm → Type 0
StmFits s = is_formed_stm s ≡ true → fits sort.Statement (tree_of_stm s) ≡ true

fitting_stms : (ss : List ((s : Stm) × StmFits s)) → every (map is_formed_stm (map (λ s. s.0) ss)) ≡ true → AllByRecursion (FitsSort sort.Statement) (map tree_of_stm (map (λ s. s.0) ss))
fitting_stms [] f = tt
fitting_stms (s ∷ ss) f = let h = apart (is_formed_stm s.0) (every (map is_formed_stm (map (λ s. s.0) ss))) f in (s.1 h.0, fitting_stms ss h.1)

fitting_case_arms : (arms : List (CaseArm ((s : Stm) × StmFits s))) →
    every (map is_formed_case_arm (map (case_arm.map Stm Bool is_formed_stm) (map (case_arm.map ((s : Stm) × StmFits s) Stm (λ s. s.0)) arms))) ≡ true →
    AllByRecursion (FitsSort sort.CaseArm) (map tree_of_case_arm (map (case_arm.map Stm Tree tree_of_stm) (map (case_arm.map ((s : Stm) × StmFits s) Stm (λ s. s.0)) arms)))
fitting_case_arms [] f = tt
fitting_case_arms (arm ∷ arms) f =
    let h = apart (is_name arm.member && is_formed_stm arm.body.0) _ f in
    let i = apart (is_name arm.member) (is_formed_stm arm.body.0) h.0 in (
      place_fits sort.CaseArm (word arm.member ∷ tree_of_stm arm.body.0 ∷ []) (exactly (sort.Name ∷ sort.Statement ∷ [])) (sort.Name ∷ sort.Statement ∷ []) (λ found. refl) refl
          (name_fits arm.member i.0, (arm.body.1 i.1, tt)),
      fitting_case_arms arms h.1,
    )

fitting_match_arms : (arms : List (MatchArm ((s : Stm) × StmFits s))) →
    every (map is_formed_match_arm (map (match_arm.map Stm Bool is_formed_stm) (map (match_arm.map ((s : Stm) × StmFits s) Stm (λ s. s.0)) arms))) ≡ true →
    AllByRecursion (FitsSort sort.MatchArm) (map tree_of_match_arm (map (match_arm.map Stm Tree tree_of_stm) (map (match_arm.map ((s : Stm) × StmFits s) Stm (λ s. s.0)) arms)))
fitting_match_arms [] f = tt
fitting_match_arms (arm ∷ arms) f =
    let h = apart (is_name arm.ctor && (is_name arm.payload && is_formed_stm arm.body.0)) _ f in
    let i = apart (is_name arm.ctor) (is_name arm.payload && is_formed_stm arm.body.0) h.0 in
    let j = apart (is_name arm.payload) (is_formed_stm arm.body.0) i.1 in (
      place_fits sort.MatchArm (word arm.ctor ∷ word arm.payload ∷ tree_of_stm arm.body.0 ∷ []) (exactly (sort.Name ∷ sort.Name ∷ sort.Statement ∷ [])) (sort.Name ∷ sort.Name ∷ sort.Statement ∷ []) (λ found. refl) refl
          (name_fits arm.ctor i.0, (name_fits arm.payload j.0, (arm.body.1 j.1, tt))),
      fitting_match_arms arms h.1,
    )

seq_fits : (trees : List Tree) → is_nonempty trees ≡ true → AllByRecursion (FitsSort sort.Statement) trees → fits sort.Statement (form (codes "seq") trees) ≡ true
seq_fits [] some all = absurd (cc)
seq_fits (t ∷ trees) some all = headed_many sort.Statement sort.Statement sort.Statement (codes "seq") t trees refl all.0 all.1

stm_layer : (y : layer.Stm-F ((s : Stm) × StmFits s)) →
    stm_formed (map-Stm Stm Bool is_formed_stm (map-Stm ((s : Stm) × StmFits s) Stm (λ s. s.0) y)) ≡ true →
    fits sort.Statement (stm_tree (map-Stm Stm Tree tree_of_stm (map-Stm ((s : Stm) × StmFits s) Stm (λ s. s.0) y))) ≡ true
stm_layer (layer.Ret e) f = form_fits sort.Statement (codes "ret") _ _ (sort.Expression ∷ []) refl refl (expr_fits e f, tt)
stm_layer (layer.Let x a b) f = let h = apart (is_name x) (is_formed_stm a.0 && is_formed_stm b.0) f in let i = apart (is_formed_stm a.0) (is_formed_stm b.0) h.1 in
    form_fits sort.Statement (codes "let") _ _ (sort.Name ∷ sort.Statement ∷ sort.Statement ∷ []) refl refl (name_fits x h.0, (a.1 i.0, (b.1 i.1, tt)))
stm_layer (layer.Seq parts) f =
    let trees = map tree_of_stm (map (λ s. s.0) parts) in
    let h = apart (is_nonempty (map is_formed_stm (map (λ (s : (s : Stm) × StmFits s). s.0) parts))) (every (map is_formed_stm (map (λ s. s.0) parts))) f in
    seq_fits trees (some_map tree_of_stm (map (λ s. s.0) parts) ∙ sym (some_map is_formed_stm (map (λ s. s.0) parts)) ∙ h.0) (fitting_stms parts h.1)
stm_layer (layer.If e a b) f = let h = apart (is_formed_expr e) (is_formed_stm a.0 && is_formed_stm b.0) f in let i = apart (is_formed_stm a.0) (is_formed_stm b.0) h.1 in
    form_fits sort.Statement (codes "if") _ _ (sort.Expression ∷ sort.Statement ∷ sort.Statement ∷ []) refl refl (expr_fits e h.0, (a.1 i.0, (b.1 i.1, tt)))
stm_layer (layer.Case e arms) f = let h = apart (is_formed_expr e) _ f in
    headed_many sort.Statement sort.Expression sort.CaseArm (codes "case") (tree_of_expr e) _ refl (expr_fits e h.0) (fitting_case_arms arms h.1)
stm_layer (layer.Match e arms) f = let h = apart (is_formed_expr e) _ f in
    headed_many sort.Statement sort.Expression sort.MatchArm (codes "match") (tree_of_expr e) _ refl (expr_fits e h.0) (fitting_match_arms arms h.1)
stm_layer (layer.Read r) f = form_fits sort.Statement (codes "read") _ _ (sort.Name ∷ []) refl refl (name_fits r f, tt)
stm_layer (layer.Write r e) f = let h = apart (is_name r) (is_formed_expr e) f in
    form_fits sort.Statement (codes "write") _ _ (sort.Name ∷ sort.Expression ∷ []) refl refl (name_fits r h.0, (expr_fits e h.1, tt))
stm_layer (layer.Load e) f = form_fits sort.Statement (codes "load") _ _ (sort.Expression ∷ []) refl refl (expr_fits e f, tt)
stm_layer (layer.Store i e) f = let h = apart (is_formed_expr i) (is_formed_expr e) f in
    form_fits sort.Statement (codes "store") _ _ (sort.Expression ∷ sort.Expression ∷ []) refl refl (expr_fits i h.0, (expr_fits e h.1, tt))
stm_layer (layer.Call x args) f = let h = apart (is_name x) (are_formed_exprs args) f in named_many sort.Statement sort.Expression (codes "call") x (map tree_of_expr args) refl h.0 (exprs_fit args h.1)
stm_layer (layer.Check e) f = form_fits sort.Statement (codes "check") _ _ (sort.Expression ∷ []) refl refl (expr_fits e f, tt)
stm_layer layer.Fail f = form_fits sort.Statement (codes "fail") [] _ [] refl refl tt
stm_layer (layer.Open x args) f = let h = apart (is_name x) (are_formed_exprs args) f in named_many sort.Statement sort.Expression (codes "open") x (map tree_of_expr args) refl h.0 (exprs_fit args h.1)
stm_layer (layer.Close x args) f = let h = apart (is_name x) (are_formed_exprs args) f in named_many sort.Statement sort.Expression (codes "close") x (map tree_of_expr args) refl h.0 (exprs_fit args h.1)
stm_layer (layer.Lemma x args) f = let h = apart (is_name x) (are_formed_exprs args) f in named_many sort.Statement sort.Expression (codes "lemma") x (map tree_of_expr args) refl h.0 (exprs_fit args h.1)

pub stm_fits : (s : Stm) → is_formed_stm s ≡ true → fits sort.Statement (tree_of_stm s) ≡ true
stm_fits = ind-Stm StmFits (λ x y is f.
    ap (fits sort.Statement) (fold-roll-Stm Tree stm_tree x)
    ∙ subst (λ z. stm_formed (map-Stm Stm Bool is_formed_stm z) ≡ true → fits sort.Statement (stm_tree (map-Stm Stm Tree tree_of_stm z)) ≡ true) is (stm_layer y)
    (sym (fold-roll-Stm Bool stm_formed x) ∙ f))

pub stms_fit : (ss : List Stm) → every (map is_formed_stm ss) ≡ true → AllByRecursion (FitsSort sort.Statement) (map tree_of_stm ss)
stms_fit [] f = tt
stms_fit (s ∷ ss) f = let h = apart (is_formed_stm s) (every (map is_formed_stm ss)) f in (stm_fits s h.0, stms_fit ss h.1)

-- What fits is a statement, or an arm.
pub record StmOf (t : Tree) : Type 0 where
  pub stm : FitsSort sort.Statement t → (s : Stm) × IsStm t s
  pub case_arm : FitsSort sort.CaseArm t → (arm : CaseArm Stm) × IsCaseArm t arm
  pub match_arm : FitsSort sort.MatchArm t → (arm : MatchArm Stm) × IsMatchArm t arm

abbrev Known : Type 0
Known = (t : Tree) × StmOf t

abbrev trees : List Known → List Tree
trees ps = map (λ p. p.0) ps

stms_from : (ps : List Known) → AllByRecursion (FitsSort sort.Statement) (trees ps) → (ss : List Stm) × AreStms (trees ps) ss
stms_from [] all = ([], (refl, refl))
stms_from (p ∷ ps) all =
    let s = p.1.stm all.0 in let ss = stms_from ps all.1 in
    (s.0 ∷ ss.0, (same_first s.1.0 ss.1.0, both (is_formed_stm s.0) (every (map is_formed_stm ss.0)) s.1.1 ss.1.1))

case_arms_from : (ps : List Known) → AllByRecursion (FitsSort sort.CaseArm) (trees ps) → (arms : List (CaseArm Stm)) × AreCaseArms (trees ps) arms
case_arms_from [] all = ([], (refl, refl))
case_arms_from (p ∷ ps) all =
    let a = p.1.case_arm all.0 in let arms = case_arms_from ps all.1 in
    (a.0 ∷ arms.0, (same_first a.1.0 arms.1.0, both (case_formed a.0) (every (map case_formed arms.0)) a.1.1 arms.1.1))

match_arms_from : (ps : List Known) → AllByRecursion (FitsSort sort.MatchArm) (trees ps) → (arms : List (MatchArm Stm)) × AreMatchArms (trees ps) arms
match_arms_from [] all = ([], (refl, refl))
match_arms_from (p ∷ ps) all =
    let a = p.1.match_arm all.0 in let arms = match_arms_from ps all.1 in
    (a.0 ∷ arms.0, (same_first a.1.0 arms.1.0, both (match_formed a.0) (every (map match_formed arms.0)) a.1.1 arms.1.1))

case_arm-from : (ps : List Known) → HasParts (sort.Name ∷ sort.Statement ∷ []) (trees ps) → (arm : CaseArm Stm) × IsCaseArm (variant.List (trees ps)) arm
case_arm-from (p0 ∷ p1 ∷ []) h =
    let x = name_of p0.0 h.fit.0 in let s = p1.1.stm h.fit.1.0 in
    (record { member = x.0; body = s.0 }, (ap variant.List (same2 x.1.0 s.1.0), both (is_name x.0) (is_formed_stm s.0) x.1.1 s.1.1))
case_arm-from _ h = absurd (omega (arith, h.count))

match_arm-from : (ps : List Known) → HasParts (sort.Name ∷ sort.Name ∷ sort.Statement ∷ []) (trees ps) → (arm : MatchArm Stm) × IsMatchArm (variant.List (trees ps)) arm
match_arm-from (p0 ∷ p1 ∷ p2 ∷ []) h =
    let x = name_of p0.0 h.fit.0 in let y = name_of p1.0 h.fit.1.0 in let s = p2.1.stm h.fit.1.1.0 in (
      record { ctor = x.0; payload = y.0; body = s.0 },
      (ap variant.List (same3 x.1.0 y.1.0 s.1.0), both (is_name x.0) (is_name y.0 && is_formed_stm s.0) x.1.1 (both (is_name y.0) (is_formed_stm s.0) y.1.1 s.1.1)),
    )
match_arm-from _ h = absurd (omega (arith, h.count))

ret-from : (ps : List Known) → HasParts (sort.Expression ∷ []) (trees ps) → (x : Stm) × IsStm (form (codes "ret") (trees ps)) x
ret-from (p0 ∷ []) h =
    let v0 = expr_of p0.0 h.fit.0 in
    stm_is (layer.Ret v0.0) _ (ap (form (codes "ret")) (same1 v0.1.0)) v0.1.1
ret-from _ h = absurd (omega (arith, h.count))

let-from : (ps : List Known) → HasParts (sort.Name ∷ sort.Statement ∷ sort.Statement ∷ []) (trees ps) → (x : Stm) × IsStm (form (codes "let") (trees ps)) x
let-from (p0 ∷ p1 ∷ p2 ∷ []) h =
    let v0 = name_of p0.0 h.fit.0 in
    let v1 = p1.1.stm h.fit.1.0 in
    let v2 = p2.1.stm h.fit.1.1.0 in
    stm_is (layer.Let v0.0 v1.0 v2.0) _ (ap (form (codes "let")) (same3 v0.1.0 v1.1.0 v2.1.0)) (and3 v0.1.1 v1.1.1 v2.1.1)
let-from _ h = absurd (omega (arith, h.count))

if-from : (ps : List Known) → HasParts (sort.Expression ∷ sort.Statement ∷ sort.Statement ∷ []) (trees ps) → (x : Stm) × IsStm (form (codes "if") (trees ps)) x
if-from (p0 ∷ p1 ∷ p2 ∷ []) h =
    let v0 = expr_of p0.0 h.fit.0 in
    let v1 = p1.1.stm h.fit.1.0 in
    let v2 = p2.1.stm h.fit.1.1.0 in
    stm_is (layer.If v0.0 v1.0 v2.0) _ (ap (form (codes "if")) (same3 v0.1.0 v1.1.0 v2.1.0)) (and3 v0.1.1 v1.1.1 v2.1.1)
if-from _ h = absurd (omega (arith, h.count))

read-from : (ps : List Known) → HasParts (sort.Name ∷ []) (trees ps) → (x : Stm) × IsStm (form (codes "read") (trees ps)) x
read-from (p0 ∷ []) h =
    let v0 = name_of p0.0 h.fit.0 in
    stm_is (layer.Read v0.0) _ (ap (form (codes "read")) (same1 v0.1.0)) v0.1.1
read-from _ h = absurd (omega (arith, h.count))

write-from : (ps : List Known) → HasParts (sort.Name ∷ sort.Expression ∷ []) (trees ps) → (x : Stm) × IsStm (form (codes "write") (trees ps)) x
write-from (p0 ∷ p1 ∷ []) h =
    let v0 = name_of p0.0 h.fit.0 in
    let v1 = expr_of p1.0 h.fit.1.0 in
    stm_is (layer.Write v0.0 v1.0) _ (ap (form (codes "write")) (same2 v0.1.0 v1.1.0)) (and2 v0.1.1 v1.1.1)
write-from _ h = absurd (omega (arith, h.count))

load-from : (ps : List Known) → HasParts (sort.Expression ∷ []) (trees ps) → (x : Stm) × IsStm (form (codes "load") (trees ps)) x
load-from (p0 ∷ []) h =
    let v0 = expr_of p0.0 h.fit.0 in
    stm_is (layer.Load v0.0) _ (ap (form (codes "load")) (same1 v0.1.0)) v0.1.1
load-from _ h = absurd (omega (arith, h.count))

store-from : (ps : List Known) → HasParts (sort.Expression ∷ sort.Expression ∷ []) (trees ps) → (x : Stm) × IsStm (form (codes "store") (trees ps)) x
store-from (p0 ∷ p1 ∷ []) h =
    let v0 = expr_of p0.0 h.fit.0 in
    let v1 = expr_of p1.0 h.fit.1.0 in
    stm_is (layer.Store v0.0 v1.0) _ (ap (form (codes "store")) (same2 v0.1.0 v1.1.0)) (and2 v0.1.1 v1.1.1)
store-from _ h = absurd (omega (arith, h.count))

check-from : (ps : List Known) → HasParts (sort.Expression ∷ []) (trees ps) → (x : Stm) × IsStm (form (codes "check") (trees ps)) x
check-from (p0 ∷ []) h =
    let v0 = expr_of p0.0 h.fit.0 in
    stm_is (layer.Check v0.0) _ (ap (form (codes "check")) (same1 v0.1.0)) v0.1.1
check-from _ h = absurd (omega (arith, h.count))

call-from : (ps : List Known) → HasParts (sort.Name ∷ replicate (length (trees ps) - 1) sort.Expression) (trees ps) → (x : Stm) × IsStm (form (codes "call") (trees ps)) x
call-from [] h = absurd h.fit
call-from (p ∷ ps) h =
    let k = name_of p.0 h.fit.0 in
    let es = exprs_of (trees ps) (rest_fits (sort.Name ∷ []) sort.Expression (length (trees (p ∷ ps)) - 1) (trees (p ∷ ps)) h) in
    stm_is (layer.Call k.0 es.0) _ (ap (form (codes "call")) (same_first k.1.0 es.1.0)) (and2 k.1.1 es.1.1)

open-from : (ps : List Known) → HasParts (sort.Name ∷ replicate (length (trees ps) - 1) sort.Expression) (trees ps) → (x : Stm) × IsStm (form (codes "open") (trees ps)) x
open-from [] h = absurd h.fit
open-from (p ∷ ps) h =
    let k = name_of p.0 h.fit.0 in
    let es = exprs_of (trees ps) (rest_fits (sort.Name ∷ []) sort.Expression (length (trees (p ∷ ps)) - 1) (trees (p ∷ ps)) h) in
    stm_is (layer.Open k.0 es.0) _ (ap (form (codes "open")) (same_first k.1.0 es.1.0)) (and2 k.1.1 es.1.1)

close-from : (ps : List Known) → HasParts (sort.Name ∷ replicate (length (trees ps) - 1) sort.Expression) (trees ps) → (x : Stm) × IsStm (form (codes "close") (trees ps)) x
close-from [] h = absurd h.fit
close-from (p ∷ ps) h =
    let k = name_of p.0 h.fit.0 in
    let es = exprs_of (trees ps) (rest_fits (sort.Name ∷ []) sort.Expression (length (trees (p ∷ ps)) - 1) (trees (p ∷ ps)) h) in
    stm_is (layer.Close k.0 es.0) _ (ap (form (codes "close")) (same_first k.1.0 es.1.0)) (and2 k.1.1 es.1.1)

lemma-from : (ps : List Known) → HasParts (sort.Name ∷ replicate (length (trees ps) - 1) sort.Expression) (trees ps) → (x : Stm) × IsStm (form (codes "lemma") (trees ps)) x
lemma-from [] h = absurd h.fit
lemma-from (p ∷ ps) h =
    let k = name_of p.0 h.fit.0 in
    let es = exprs_of (trees ps) (rest_fits (sort.Name ∷ []) sort.Expression (length (trees (p ∷ ps)) - 1) (trees (p ∷ ps)) h) in
    stm_is (layer.Lemma k.0 es.0) _ (ap (form (codes "lemma")) (same_first k.1.0 es.1.0)) (and2 k.1.1 es.1.1)

fail-from : (ps : List Known) → HasParts [] (trees ps) → (x : Stm) × IsStm (form (codes "fail") (trees ps)) x
fail-from [] h = stm_is layer.Fail _ refl refl
fail-from (p ∷ ps) h = absurd h.fit

seq-from : (ps : List Known) → HasParts (sort.Statement ∷ replicate (length (trees ps) - 1) sort.Statement) (trees ps) → (x : Stm) × IsStm (form (codes "seq") (trees ps)) x
seq-from ps h =
    let ss = stms_from ps (some_fit sort.Statement (length (trees ps) - 1) (trees ps) h) in
    let some = some_made tree_of_stm ss.0 (trees ps) ss.1.0 (length (trees ps) - 1) (omega (arith, h.count, length-replicate (length (trees ps) - 1) sort.Statement)) in
    stm_is (layer.Seq ss.0) _ (ap (form (codes "seq")) ss.1.0) (and2 (some_map is_formed_stm ss.0 ∙ some) ss.1.1)

case-from : (ps : List Known) → HasParts (sort.Expression ∷ replicate (length (trees ps) - 1) sort.CaseArm) (trees ps) → (x : Stm) × IsStm (form (codes "case") (trees ps)) x
case-from [] h = absurd h.fit
case-from (p ∷ ps) h =
    let e = expr_of p.0 h.fit.0 in
    let arms = case_arms_from ps (rest_fits (sort.Expression ∷ []) sort.CaseArm (length (trees (p ∷ ps)) - 1) (trees (p ∷ ps)) h) in
    stm_is (layer.Case e.0 arms.0) _
    (ap (form (codes "case")) (same_first e.1.0 (map_map tree_of_case_arm (case_arm.map Stm Tree tree_of_stm) arms.0 ∙ arms.1.0)))
    (and2 e.1.1 (ap every (map_map is_formed_case_arm (case_arm.map Stm Bool is_formed_stm) arms.0) ∙ arms.1.1))

match-from : (ps : List Known) → HasParts (sort.Expression ∷ replicate (length (trees ps) - 1) sort.MatchArm) (trees ps) → (x : Stm) × IsStm (form (codes "match") (trees ps)) x
match-from [] h = absurd h.fit
match-from (p ∷ ps) h =
    let e = expr_of p.0 h.fit.0 in
    let arms = match_arms_from ps (rest_fits (sort.Expression ∷ []) sort.MatchArm (length (trees (p ∷ ps)) - 1) (trees (p ∷ ps)) h) in
    stm_is (layer.Match e.0 arms.0) _
    (ap (form (codes "match")) (same_first e.1.0 (map_map tree_of_match_arm (match_arm.map Stm Tree tree_of_stm) arms.0 ∙ arms.1.0)))
    (and2 e.1.1 (ap every (map_map is_formed_match_arm (match_arm.map Stm Bool is_formed_stm) arms.0) ∙ arms.1.1))

-- the form of a word
abbrev ListOf : List ℕ → Form → Type 0
ListOf w f = (ps : List Known) → FitsSort sort.Statement (form w (trees ps)) → (x : Stm) × IsStm (form w (trees ps)) x

list_rows : AllByRecursion (λ (row : List ℕ × Form). ListOf row.0 row.1) statements
list_rows = (
  λ ps fit. ret-from ps (exact_parts sort.Statement (codes "ret") (sort.Expression ∷ []) (trees ps) refl fit),
  (
    λ ps fit. let-from ps (exact_parts sort.Statement (codes "let") (sort.Name ∷ sort.Statement ∷ sort.Statement ∷ []) (trees ps) refl fit),
    (
      λ ps fit. seq-from ps (many_parts sort.Statement (codes "seq") (sort.Statement ∷ []) sort.Statement (trees ps) refl fit),
      (
        λ ps fit. if-from ps (exact_parts sort.Statement (codes "if") (sort.Expression ∷ sort.Statement ∷ sort.Statement ∷ []) (trees ps) refl fit),
        (
          λ ps fit. case-from ps (many_parts sort.Statement (codes "case") (sort.Expression ∷ []) sort.CaseArm (trees ps) refl fit),
          (
            λ ps fit. match-from ps (many_parts sort.Statement (codes "match") (sort.Expression ∷ []) sort.MatchArm (trees ps) refl fit),
            (
              λ ps fit. read-from ps (exact_parts sort.Statement (codes "read") (sort.Name ∷ []) (trees ps) refl fit),
              (
                λ ps fit. write-from ps (exact_parts sort.Statement (codes "write") (sort.Name ∷ sort.Expression ∷ []) (trees ps) refl fit),
                (
                  λ ps fit. load-from ps (exact_parts sort.Statement (codes "load") (sort.Expression ∷ []) (trees ps) refl fit),
                  (
                    λ ps fit. store-from ps (exact_parts sort.Statement (codes "store") (sort.Expression ∷ sort.Expression ∷ []) (trees ps) refl fit),
                    (
                      λ ps fit. call-from ps (many_parts sort.Statement (codes "call") (sort.Name ∷ []) sort.Expression (trees ps) refl fit),
                      (
                        λ ps fit. check-from ps (exact_parts sort.Statement (codes "check") (sort.Expression ∷ []) (trees ps) refl fit),
                        (
                          λ ps fit. fail-from ps (exact_parts sort.Statement (codes "fail") [] (trees ps) refl fit),
                          (
                            λ ps fit. open-from ps (many_parts sort.Statement (codes "open") (sort.Name ∷ []) sort.Expression (trees ps) refl fit),
                            (
                              λ ps fit. close-from ps (many_parts sort.Statement (codes "close") (sort.Name ∷ []) sort.Expression (trees ps) refl fit),
                              (λ ps fit. lemma-from ps (many_parts sort.Statement (codes "lemma") (sort.Name ∷ []) sort.Expression (trees ps) refl fit), tt),
                            ),
                          ),
                        ),
                      ),
                    ),
                  ),
                ),
              ),
            ),
          ),
        ),
      ),
    ),
  ),
)

list_by : (w : List ℕ) (ps : List Known) (found : Option Form) → row_of statements w ≡ found → FitsSort sort.Statement (form w (trees ps)) →
    (x : Stm) × IsStm (form w (trees ps)) x
list_by w ps None none fit = absurd (no_form sort.Statement w (trees ps) (ap (option_and_then (form_in newest)) none) fit)
list_by w ps (Some f) found fit = found_holds ListOf statements w f list_rows found ps fit

list_of : (ps : List Known) → FitsSort sort.Statement (variant.List (trees ps)) → (x : Stm) × IsStm (variant.List (trees ps)) x
list_of [] fit = absurd (let h = headed sort.Statement [] refl fit in omega (arith, ap length h.is))
list_of (p ∷ ps) fit =
    let h = headed sort.Statement (trees (p ∷ ps)) refl fit in
    let first : p.0 ≡ word h.head = let e = h.is in cc in
    let is : variant.List (trees (p ∷ ps)) ≡ form h.head (trees ps) = ap (λ t. variant.List (t ∷ trees ps)) first in
    subst (λ t. (x : Stm) × IsStm t x) (sym is)
    (list_by h.head ps (row_of statements h.head) refl (subst (FitsSort sort.Statement) is fit))

stm_atom : (t : Token) → StmOf (variant.Atom t)
stm_atom t = record {
  stm = λ fit. absurd (no_atom sort.Statement t (record { numbers = λ n. refl; names = λ x. refl }) fit);
  case_arm = λ fit. absurd (no_atom sort.CaseArm t (record { numbers = λ n. refl; names = λ x. refl }) fit);
  match_arm = λ fit. absurd (no_atom sort.MatchArm t (record { numbers = λ n. refl; names = λ x. refl }) fit);
}

stm_layer_of : (y : Tree-F Known) → StmOf (roll-Tree (map-Tree Known Tree (λ p. p.0) y))
stm_layer_of (Tree-F.Atom t) = subst StmOf (sym (rolls-Atom t)) (stm_atom t)
stm_layer_of (Tree-F.List ps) = subst StmOf (sym (rolls-List (trees ps))) (record {
  stm = list_of ps;
  case_arm = λ fit. case_arm-from ps (exact_place sort.CaseArm (sort.Name ∷ sort.Statement ∷ []) (trees ps) (λ found. refl) fit);
  match_arm = λ fit. match_arm-from ps (exact_place sort.MatchArm (sort.Name ∷ sort.Name ∷ sort.Statement ∷ []) (trees ps) (λ found. refl) fit);
})

known : (t : Tree) → StmOf t
known = ind-Tree StmOf (λ x y is. subst (λ z. StmOf (roll-Tree z)) is (stm_layer_of y))

pub stm_of : (t : Tree) → FitsSort sort.Statement t → (s : Stm) × IsStm t s
stm_of t fit = (known t).stm fit

pub stms_of : (ts : List Tree) → AllByRecursion (FitsSort sort.Statement) ts → (ss : List Stm) × AreStms ts ss
stms_of [] all = ([], (refl, refl))
stms_of (t ∷ ts) all =
    let s = stm_of t all.0 in let ss = stms_of ts all.1 in
    (s.0 ∷ ss.0, (same_first s.1.0 ss.1.0, both (is_formed_stm s.0) (every (map is_formed_stm ss.0)) s.1.1 ss.1.1))
