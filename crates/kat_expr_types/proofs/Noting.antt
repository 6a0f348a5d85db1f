-- The least fault of parts side by side, and the trees of what is known of expressions.
use Rattle.std.proofs.Common.{◌≡◌, ℕ, ◌+◌, List, [], ◌∷◌, ◌++◌, map, sum, drop, get_or, drop-cons, suc, ◌<◌, sym, ap, ◌∙◌, refl, subst, arith, Option, Some, length, ◌==◌}
use Rattle.std.specs.List.{fold}
use Rattle.kat_value.specs.Words.{numbers_of_op}
use Rattle.kat_ast.specs.declared.expr.Expr.{Expr}
use Rattle.kat_ast.specs.declared.expr.Expr.TheOpen.{Expr-F, Name, Unit, Truth, Bits, Of, Make, Rec, Register, Kept, KeptCell, Before, After, BeforeCell, AfterCell, Apply, Get}
use Rattle.kat_ast.specs.declared.expr.Expr.TheFolds.{map-Expr, fold-roll-Expr, ind-Expr}
use Rattle.kat_ast.specs.Expressions.{expr_trees, trees_of_expr, trees_of_exprs}
use Rattle.kat_syntax.specs.TypeRules.{Fault, earlier, least_with, unless}
use Rattle.kat_syntax.specs.declared.type_rule.TypeRule.TheVariants.{CountOther}
use Rattle.kat_syntax.specs.Declares.{TypedName, types_of}
use Rattle.kat_syntax.specs.Around.{Around}
use Rattle.kat_syntax.specs.TypesWritten.{Scope}
use Rattle.kat_syntax.specs.TypingExpressions.{Standing, Known, parts_faults, arg_faults, given_faults, expr_known, known_of_expr}
use Rattle.kat_expr_types.specs.Laws.{trees_of_parts}

sum_from : (a : ℕ) (ns : List ℕ) → fold (λ x y. x + y) a ns ≡ a + fold (λ x y. x + y) 0 ns
sum_from a [] = omega arith
sum_from a (n ∷ ns) = omega (arith, sum_from (a + n) ns, sum_from (0 + n) ns)

pub sum-cons : (n : ℕ) (ns : List ℕ) → sum (n ∷ ns) ≡ n + sum ns
sum-cons n ns = omega (arith, sum_from (0 + n) ns)

-- what is left of a list begins with the item at hand
pub rest_is : {A : Type 0} (xs : List A) (i : ℕ) (x : A) → i < length xs → x ≡ get_or xs i x →
    drop i xs ≡ x ∷ drop (i + 1) xs
rest_is xs i x within is =
    drop-cons xs i x within ∙ ap (λ y. y ∷ drop (suc i) xs) (sym is)
    ∙ ap (λ n. x ∷ drop n xs) (let e : suc i ≡ i + 1 = omega arith in e)

pub least_both : (old : Option Fault) (a b : List Fault) →
    least_with old (a ++ b) ≡ least_with (least_with old a) b
least_both old [] b = refl
least_both old (fault ∷ a) b = least_both (earlier old fault) a b

-- faults that are noted in two steps
pub noted_both : {mid new : Option Fault} (old : Option Fault) (a b : List Fault) →
    mid ≡ least_with old a → new ≡ least_with mid b → new ≡ least_with old (a ++ b)
noted_both old a b first second =
    second ∙ ap (λ known. least_with known b) first ∙ sym (least_both old a b)

pub least_part : (old : Option Fault) (at : ℕ) (part : Known) (parts : List Known) →
    least_with old (parts_faults at (part ∷ parts))
    ≡ least_with (least_with old (part.faults at)) (parts_faults (at + part.trees) parts)
least_part old at part parts =
    least_both old (part.faults at) (parts_faults (at + part.trees) parts)

further : (at : ℕ) (part : Known) (a b : List Known) →
    parts_faults (at + part.trees + trees_of_parts a) b
    ≡ parts_faults (at + trees_of_parts (part ∷ a)) b
further at part a b =
    ap (λ k. parts_faults k b) (omega (arith, sum-cons part.trees (map (λ (k : Known). k.trees) a)))

pub least_parts : (old : Option Fault) (at : ℕ) (a b : List Known) →
    least_with old (parts_faults at (a ++ b))
    ≡ least_with (least_with old (parts_faults at a)) (parts_faults (at + trees_of_parts a) b)
least_parts old at [] b = ap (λ k. least_with old (parts_faults k b)) (omega arith)
least_parts old at (part ∷ a) b =
    least_part old at part (a ++ b)
    ∙ least_parts (least_with old (part.faults at)) (at + part.trees) a b
    ∙ ap (λ now. least_with now (parts_faults (at + part.trees + trees_of_parts a) b))
    (sym (least_part old at part a))
    ∙ ap (least_with (least_with old (parts_faults at (part ∷ a)))) (further at part a b)

pub least_given : (old : Option Fault) (params : List TypedName) (at : ℕ) (args : List Known) →
    least_with old (given_faults (Some params) at args)
    ≡ least_with (least_with old (unless (length args == length params) at CountOther))
    (arg_faults (types_of params) (at + 3) args)
least_given old params at args =
    least_both old (unless (length args == length params) at CountOther)
    (arg_faults (types_of params) (at + 3) args)

module _ (around : Around) (standing : Standing) (scope : Scope) where
  abbrev known : Expr → Known
  known = known_of_expr around standing scope

  abbrev HasTrees : Expr → Type 0
  HasTrees e = (known e).trees ≡ trees_of_expr e

  abbrev Counted : Type 0
  Counted = (e : Expr) × HasTrees e

  parts_counted : (es : List Counted) →
      map (λ (k : Known). k.trees) (map known (map (λ e. e.0) es))
      ≡ map trees_of_expr (map (λ e. e.0) es)
  parts_counted [] = refl
  parts_counted (e ∷ es) = let here = e.1 in let more = parts_counted es in cc

  layer_counted : (y : Expr-F Counted) →
      expr_trees (map-Expr Known ℕ (λ k. k.trees)
      (map-Expr Expr Known known (map-Expr Counted Expr (λ e. e.0) y)))
      ≡ expr_trees (map-Expr Expr ℕ trees_of_expr (map-Expr Counted Expr (λ e. e.0) y))
  layer_counted (Name x) = refl
  layer_counted Unit = refl
  layer_counted (Truth b) = refl
  layer_counted (Bits w n) = refl
  layer_counted (Of e a) = refl
  layer_counted (Make k payload) = ap (λ n. 3 + n) payload.1
  layer_counted (Rec r fields) = ap (λ ns. 3 + sum ns) (parts_counted fields)
  layer_counted (Register r) = refl
  layer_counted (Kept r) = refl
  layer_counted (KeptCell i) = refl
  layer_counted (Before r) = refl
  layer_counted (After r) = refl
  layer_counted (BeforeCell i) = refl
  layer_counted (AfterCell i) = refl
  layer_counted (Apply op args) =
      ap (λ ns. 2 + length (numbers_of_op op) + sum ns) (parts_counted args)
  layer_counted (Get r f value) = ap (λ n. 4 + n) value.1

  pub trees_known : (e : Expr) → (known e).trees ≡ trees_of_expr e
  trees_known = ind-Expr HasTrees (λ x y is.
      ap (λ (k : Known). k.trees) (fold-roll-Expr Known (expr_known around standing scope) x)
      ∙ subst (λ z. expr_trees (map-Expr Known ℕ (λ k. k.trees) (map-Expr Expr Known known z))
      ≡ expr_trees (map-Expr Expr ℕ trees_of_expr z)) is (layer_counted y)
      ∙ sym (fold-roll-Expr ℕ expr_trees x))

  each_known : (es : List Expr) → map (λ (k : Known). k.trees) (map known es) ≡ map trees_of_expr es
  each_known [] = refl
  each_known (e ∷ es) = let here = trees_known e in let more = each_known es in cc

  pub all_trees_known : (es : List Expr) → trees_of_parts (map known es) ≡ trees_of_exprs es
  all_trees_known es = ap sum (each_known es)
