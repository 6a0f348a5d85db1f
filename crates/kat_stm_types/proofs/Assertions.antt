-- What is known of an assertion, from its layer, and how many trees it has.
use Rattle.std.proofs.Common.{◌≡◌, ℕ, ◌+◌, List, [], ◌∷◌, ◌++◌, map, sum, sum_by, sym, ap, ◌∙◌, refl, subst, arith, Option, Some}
use Rattle.std.proofs.lemmas.List.Sums.{sum_by-cons}
use Rattle.kat_value.specs.declared.types.Ty.TheVariants as ty
use Rattle.kat_value.specs.Signatures.{agree}
use Rattle.kat_ast.specs.declared.type_name.TypeName.{TypeName}
use Rattle.kat_ast.specs.declared.expr.Expr.{Expr}
use Rattle.kat_ast.specs.declared.assertion.Assertion.{Assertion}
use Rattle.kat_ast.specs.declared.assertion.Assertion.TheVariants as assertion
use Rattle.kat_ast.specs.declared.assertion.Assertion.TheOpen.{Assertion-F, Pure, Register, Cell, Star, If, Exists, Predicate, Region}
use Rattle.kat_ast.specs.declared.assertion.Assertion.TheViews.{out-Assertion, outs-Star, outs-If, outs-Exists}
use Rattle.kat_ast.specs.declared.assertion.Assertion.TheFolds.{map-Assertion, fold_out-Assertion, fold-roll-Assertion, ind-Assertion}
use Rattle.kat_ast.specs.Types.{trees_of_type}
use Rattle.kat_ast.specs.Expressions.{trees_of_expr}
use Rattle.kat_ast.specs.Assertions.{assertion_trees, trees_of_assertion}
use Rattle.kat_syntax.specs.Tables.{Name}
use Rattle.kat_syntax.specs.TypeRules.{Fault, least_with}
use Rattle.kat_syntax.specs.Around.{Around}
use Rattle.kat_syntax.specs.TypesWritten.{Scope, hiding, type_faults_at, type_here}
use Rattle.kat_syntax.specs.TypingExpressions.{Standing}
use Rattle.kat_syntax.specs.TypingStatements.{condition_faults}
use Rattle.kat_syntax.specs.TypingAssertions.{Judged, side_by_side, assertion_judged, judged_assertion}
use Rattle.kat_expr_types.specs.declared.setting.Setting.{Setting}
use Rattle.kat_expr_types.specs.Judging.{standing_of, known_here}
use Rattle.kat_expr_types.specs.Scopes.{scope_of}
use Rattle.kat_stm_types.specs.Judging.{Counts, judged_here}

module _ (around : Around) (standing : Standing) where
  abbrev judged : Assertion → Scope → Judged
  judged = judged_assertion around standing

  -- what is known of a layer, with what is known of each part in its place
  abbrev pub layered : Scope → Assertion-F Assertion → Judged
  layered scope y =
      assertion_judged around standing (map-Assertion Assertion (Scope → Judged) judged y) scope

  pub judged_at : (a : Assertion) (y : Assertion-F Assertion) (scope : Scope) → out-Assertion a ≡ y →
      judged a scope ≡ layered scope y
  judged_at a y scope is =
      ap (λ j. j scope) (fold_out-Assertion (Scope → Judged) (assertion_judged around standing) a)
      ∙ ap (layered scope) is

  -- what is counted and noted of the layer is so of the assertion
  pub counts_at : (scope : Scope) (a : Assertion) (y : Assertion-F Assertion) (at trees : ℕ)
      (old new : Option Fault) → out-Assertion a ≡ y →
      Counts (layered scope y) at trees old new → Counts (judged a scope) at trees old new
  counts_at scope a y at trees old new is counts =
      subst (λ j. Counts j at trees old new) (sym (judged_at a y scope is)) counts

  abbrev HasTrees : Assertion → Type 0
  HasTrees a = (scope : Scope) → (judged a scope).trees ≡ trees_of_assertion a

  abbrev Counted : Type 0
  Counted = (a : Assertion) × HasTrees a

  parts_counted : (scope : Scope) (parts : List Counted) →
      map (λ (part : Scope → Judged). (part scope).trees) (map judged (map (λ a. a.0) parts))
      ≡ map trees_of_assertion (map (λ a. a.0) parts)
  parts_counted scope [] = refl
  parts_counted scope (part ∷ parts) =
      let here = part.1 scope in let more = parts_counted scope parts in cc

  layer_counted : (scope : Scope) (y : Assertion-F Counted) →
      assertion_trees (map-Assertion (Scope → Judged) ℕ (λ part. (part scope).trees)
      (map-Assertion Assertion (Scope → Judged) judged (map-Assertion Counted Assertion (λ a. a.0) y)))
      ≡ assertion_trees (map-Assertion Assertion ℕ trees_of_assertion (map-Assertion Counted Assertion (λ a. a.0) y))
  layer_counted scope (Pure e) = refl
  layer_counted scope (Register r e) = refl
  layer_counted scope (Cell index e) = refl
  layer_counted scope (Star parts) = ap (λ ns. 2 + sum ns) (parts_counted scope parts)
  layer_counted scope (If test then_ otherwise) =
      ap (λ n. 2 + trees_of_expr test + n + (judged otherwise.0 scope).trees) (then_.1 scope)
      ∙ ap (λ n. 2 + trees_of_expr test + trees_of_assertion then_.0 + n) (otherwise.1 scope)
  layer_counted scope (Exists x type body) = ap (λ n. 4 + trees_of_type type + n) (body.1 scope)
  layer_counted scope (Predicate p args) = refl
  layer_counted scope (Region g args) = refl

  pub trees_judged : (a : Assertion) (scope : Scope) → (judged a scope).trees ≡ trees_of_assertion a
  trees_judged = ind-Assertion HasTrees (λ x y is scope.
      ap (λ (j : Scope → Judged). (j scope).trees)
      (fold-roll-Assertion (Scope → Judged) (assertion_judged around standing) x)
      ∙ subst (λ z. assertion_trees (map-Assertion (Scope → Judged) ℕ (λ part. (part scope).trees) (map-Assertion Assertion (Scope → Judged) judged z)) ≡ assertion_trees (map-Assertion Assertion ℕ trees_of_assertion z)) is (layer_counted scope y)
      ∙ sym (fold-roll-Assertion ℕ assertion_trees x))

-- faults that are noted in two steps, by the law that some and then others are noted
pub noted_both : ((old : Option Fault) (a b : List Fault) →
    least_with old (a ++ b) ≡ least_with (least_with old a) b) →
    (old mid new : Option Fault) (a b : List Fault) →
    mid ≡ least_with old a → new ≡ least_with mid b → new ≡ least_with old (a ++ b)
noted_both both old mid new a b first second =
    second ∙ ap (λ known. least_with known b) first ∙ sym (both old a b)

-- what is counted and noted of assertions side by side while the rest of them is to come
pub record StarSoFar (s : Setting) (at trees : ℕ) (all rest : List Assertion)
    (old now : Option Fault) : Type 0 where
  pub counted : trees + sum_by trees_of_assertion rest ≡ 2 + sum_by trees_of_assertion all
  pub noted : least_with now (side_by_side (at + trees) (map (judged_here s) rest))
      ≡ least_with old (side_by_side (at + 2) (map (judged_here s) all))

module _ (both : (old : Option Fault) (a b : List Fault) →
    least_with old (a ++ b) ≡ least_with (least_with old a) b) where
  next_part : (s : Setting) (at : ℕ) (part : Assertion) (n : ℕ) (rest : List Assertion) (now new : Option Fault) →
      Counts (judged_here s part) at n now new →
      least_with new (side_by_side (at + n) (map (judged_here s) rest))
      ≡ least_with now (side_by_side at (map (judged_here s) (part ∷ rest)))
  next_part s at part n rest now new counts =
      ap (λ f. least_with f (side_by_side (at + n) (map (judged_here s) rest))) counts.noted
      ∙ ap (λ k. least_with (least_with now ((judged_here s part).faults at)) (side_by_side (at + k) (map (judged_here s) rest))) counts.counted
      ∙ sym (both now ((judged_here s part).faults at) (side_by_side (at + (judged_here s part).trees) (map (judged_here s) rest)))

  pub if_counts : (s : Setting) (test : Expr) (a b : Assertion) (at t m n : ℕ) (old one two new : Option Fault) →
      (known_here s test).trees ≡ trees_of_expr test → t ≡ trees_of_expr test →
      one ≡ least_with old (condition_faults (agree (Some ty.Bool)) (at + 2) (known_here s test)) →
      Counts (judged_here s a) (at + (2 + t)) m one two → Counts (judged_here s b) (at + (2 + t) + m) n two new →
      Counts (judged_here s (assertion.If test a b)) at (2 + t + m + n) old new
  if_counts s test a b at t m n old one two new law counted tested first second =
      counts_at s.around.now (standing_of s.standing) (scope_of s.scope.now)
      (assertion.If test a b) (If test a b) at _ old new (outs-If test a b)
      (record {
        counted = omega (arith, counted, first.counted, second.counted);
        noted =
            next_part s (at + (2 + t) + m) b n [] two new second
            ∙ next_part s (at + (2 + t)) a m (b ∷ []) one two first
            ∙ ap (λ k. least_with one (side_by_side k (map (judged_here s) (a ∷ b ∷ [])))) (let e : at + (2 + t) ≡ at + 2 + (known_here s test).trees = omega (arith, counted, law) in e)
            ∙ ap (λ f. least_with f (side_by_side (at + 2 + (known_here s test).trees) (map (judged_here s) (a ∷ b ∷ [])))) tested
            ∙ sym (both old (condition_faults (agree (Some ty.Bool)) (at + 2) (known_here s test)) (side_by_side (at + 2 + (known_here s test).trees) (map (judged_here s) (a ∷ b ∷ []))));
      })

  pub exists_counts : (s w : Setting) (x : Name) (type : TypeName) (body : Assertion) (at t n : ℕ)
      (old one two new : Option Fault) → t ≡ trees_of_type type →
      w.around.now ≡ s.around.now → w.standing ≡ s.standing →
      scope_of w.scope.now ≡ record { name = x; type = type_here s.around.now type } ∷ scope_of s.scope.now →
      one ≡ least_with old (hiding s.around.now (scope_of s.scope.now) (at + 3) x) →
      two ≡ least_with one (type_faults_at s.around.now (at + 4) type) →
      Counts (judged_here w body) (at + (4 + t)) n two new →
      Counts (judged_here s (assertion.Exists x type body)) at (4 + t + n) old new
  exists_counts s w x type body at t n old one two new counted around standing scope hidden typed counts =
      let inner : Scope = record { name = x; type = type_here s.around.now type } ∷ scope_of s.scope.now in
      let here : judged_here w body ≡ judged_assertion s.around.now (standing_of s.standing) body inner =
      ap (λ a. judged_assertion a (standing_of w.standing) body (scope_of w.scope.now)) around
      ∙ ap (λ k. judged_assertion s.around.now (standing_of k) body (scope_of w.scope.now)) standing
      ∙ ap (judged_assertion s.around.now (standing_of s.standing) body) scope in
      counts_at s.around.now (standing_of s.standing) (scope_of s.scope.now)
      (assertion.Exists x type body) (Exists x type body) at _ old new (outs-Exists x type body)
      (record {
        counted = ap (λ k. 4 + k + n) counted ∙ ap (λ k. 4 + trees_of_type type + k)
            (counts.counted ∙ ap (λ j. j.trees) here
            ∙ trees_judged s.around.now (standing_of s.standing) body inner
            ∙ sym (trees_judged s.around.now (standing_of s.standing) body (scope_of s.scope.now)));
        noted =
            noted_both both old one new (hiding s.around.now (scope_of s.scope.now) (at + 3) x) _ hidden
            (noted_both both one two new (type_faults_at s.around.now (at + 4) type) _ typed
            (counts.noted ∙ ap (λ j. least_with two (j.faults (at + (4 + t)))) here
            ∙ ap (λ k. least_with two ((judged_assertion s.around.now (standing_of s.standing) body inner).faults k))
            (let e : at + (4 + t) ≡ at + 4 + trees_of_type type = omega (arith, counted) in e)));
      })

parts_here : (s : Setting) (parts : List Assertion) →
    map (λ (part : Scope → Judged). part (scope_of s.scope.now))
    (map (judged_assertion s.around.now (standing_of s.standing)) parts) ≡ map (judged_here s) parts
parts_here s [] = refl
parts_here s (part ∷ parts) = ap (λ js. judged_here s part ∷ js) (parts_here s parts)

trees-Star : (parts : List Assertion) → trees_of_assertion (assertion.Star parts) ≡ 2 + sum (map trees_of_assertion parts)
trees-Star parts =
    fold_out-Assertion ℕ assertion_trees (assertion.Star parts)
    ∙ ap (λ y. assertion_trees (map-Assertion Assertion ℕ trees_of_assertion y)) (outs-Star parts)

sum_by-is : (parts : List Assertion) → sum_by trees_of_assertion parts ≡ sum (map trees_of_assertion parts)
sum_by-is [] = refl
sum_by-is (part ∷ parts) = omega (arith, sum_by-cons trees_of_assertion part parts, sum_by-is parts, sum_by-cons (λ n. n) (trees_of_assertion part) (map trees_of_assertion parts))

pub star_done : (s : Setting) (at trees : ℕ) (all : List Assertion) (old now : Option Fault) →
    StarSoFar s at trees all [] old now → Counts (judged_here s (assertion.Star all)) at trees old now
star_done s at trees all old now so = record {
  counted =
      (let e : trees ≡ 2 + sum (map trees_of_assertion all) = omega (arith, so.counted, sum_by-is all) in e)
      ∙ sym (trees-Star all) ∙ sym (trees_judged s.around.now (standing_of s.standing) (assertion.Star all) (scope_of s.scope.now));
  noted =
      so.noted
      ∙ ap (λ js. least_with old (side_by_side (at + 2) js)) (sym (parts_here s all))
      ∙ sym (ap (λ j. least_with old (j.faults at)) (judged_at s.around.now (standing_of s.standing) (assertion.Star all) (Star all) (scope_of s.scope.now) (outs-Star all)));
}
