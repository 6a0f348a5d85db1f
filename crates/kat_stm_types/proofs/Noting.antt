-- Faults are noted part by part, and what is known of expressions has their trees.
use Rattle.std.proofs.Common.{◌≡◌, ℕ, ◌+◌, List, [], ◌∷◌, ◌++◌, map, sum, sym, ap, ◌∙◌, refl, subst, arith, Bool, Option, length}
use Rattle.std.specs.List.{fold}
use Rattle.kat_value.specs.Words.{numbers_of_op}
use Rattle.kat_value.specs.declared.types.Ty.{Ty}
use Rattle.kat_ast.specs.declared.expr.Expr.{Expr}
use Rattle.kat_ast.specs.declared.expr.Expr.TheOpen.{Expr-F, Name, Unit, Truth, Bits, Of, Make, Rec, Register, Kept, KeptCell, Before, After, BeforeCell, AfterCell, Apply, Get}
use Rattle.kat_ast.specs.declared.expr.Expr.TheFolds.{map-Expr, fold-roll-Expr, ind-Expr}
use Rattle.kat_ast.specs.Expressions.{expr_trees, trees_of_expr}
use Rattle.kat_syntax.specs.TypeRules.{Fault, earlier, least_with, unless}
use Rattle.kat_syntax.specs.declared.type_rule.TypeRule.TheVariants.{TypeOther}
use Rattle.kat_syntax.specs.Around.{Around}
use Rattle.kat_syntax.specs.TypesWritten.{Scope}
use Rattle.kat_syntax.specs.TypingExpressions.{Standing, Known, wanting, expr_known, known_of_expr}
use Rattle.kat_syntax.specs.TypingStatements.{condition_faults}
use Rattle.kat_expr_types.specs.declared.setting.Known.{Known as KnownHere}
use Rattle.kat_expr_types.specs.declared.setting.Setting.{Setting}
use Rattle.kat_expr_types.specs.Judging.{Tells, known_here, standing_of}
use Rattle.kat_expr_types.specs.Scopes.{scope_of}

sum_from : (a : ℕ) (ns : List ℕ) → fold (λ x y. x + y) a ns ≡ a + fold (λ x y. x + y) 0 ns
sum_from a [] = omega arith
sum_from a (n ∷ ns) = omega (arith, sum_from (a + n) ns, sum_from (0 + n) ns)

pub sum-cons : (n : ℕ) (ns : List ℕ) → sum (n ∷ ns) ≡ n + sum ns
sum-cons n ns = omega (arith, sum_from (0 + n) ns)

pub least_both : (old : Option Fault) (a b : List Fault) →
    least_with old (a ++ b) ≡ least_with (least_with old a) b
least_both old [] b = refl
least_both old (fault ∷ a) b = least_both (earlier old fault) a b

-- some faults and then others
pub both_noted : (old middle new : Option Fault) (a b : List Fault) →
    middle ≡ least_with old a → new ≡ least_with middle b → new ≡ least_with old (a ++ b)
both_noted old middle new a b first second =
    second ∙ ap (λ now. least_with now b) first ∙ sym (least_both old a b)

-- a part, and whether it is of the type wanted
pub wanting_noted : (known : Known) (at : ℕ) (told : KnownHere) (old middle new : Option Fault)
    (wanted found : Option Ty) →
    Tells known at told old middle → found ≡ wanted →
    new ≡ least_with middle (wanting found at told.ty) →
    new ≡ least_with old (known.faults at ++ wanting wanted at known.type)
wanting_noted known at told old middle new wanted found tells is noted =
    both_noted old middle new (known.faults at) (wanting wanted at known.type) tells.faults
    (noted ∙ ap (λ type. least_with middle (wanting found at type)) tells.type
    ∙ ap (λ type. least_with middle (wanting type at known.type)) is)

-- a part, and a condition on its type
pub condition_noted : (holds : Option Ty → Bool) (known : Known) (at : ℕ) (told : KnownHere)
    (old middle new : Option Fault) →
    Tells known at told old middle → new ≡ least_with middle (unless (holds told.ty) at TypeOther) →
    new ≡ least_with old (condition_faults holds at known)
condition_noted holds known at told old middle new tells noted =
    both_noted old middle new (known.faults at) (unless (holds known.type) at TypeOther)
    tells.faults
    (noted ∙ ap (λ type. least_with middle (unless (holds type) at TypeOther)) tells.type)

module _ (around : Around) (standing : Standing) (scope : Scope) where
  abbrev known : Expr → Known
  known = known_of_expr around standing scope

  abbrev HasTrees : Expr → Type 0
  HasTrees e = (known e).trees ≡ trees_of_expr e

  abbrev Counted : Type 0
  Counted = (e : Expr) × HasTrees e

  parts_counted : (es : List Counted) →
      map (λ (k : Known). k.trees) (map known (map (λ e. e.0) es)) ≡ map trees_of_expr
      (map (λ e. e.0) es)
  parts_counted [] = refl
  parts_counted (e ∷ es) = let here = e.1 in let more = parts_counted es in cc

  layer_counted : (y : Expr-F Counted) →
      expr_trees (map-Expr Known ℕ (λ k. k.trees)
      (map-Expr Expr Known known (map-Expr Counted Expr (λ e. e.0) y)))
      ≡ expr_trees (map-Expr Expr ℕ trees_of_expr (map-Expr Counted Expr (λ e. e.0) y))
  layer_counted (Name x) = refl
  layer_counted Unit = refl
  layer_counted (Truth b) = refl
  layer_counted (Bits w n) = refl
  layer_counted (Of e a) = refl
  layer_counted (Make k payload) = ap (λ n. 3 + n) payload.1
  layer_counted (Rec r fields) = ap (λ ns. 3 + sum ns) (parts_counted fields)
  layer_counted (Register r) = refl
  layer_counted (Kept r) = refl
  layer_counted (KeptCell i) = refl
  layer_counted (Before r) = refl
  layer_counted (After r) = refl
  layer_counted (BeforeCell i) = refl
  layer_counted (AfterCell i) = refl
  layer_counted (Apply op args) = ap (λ ns. 2 + length (numbers_of_op op) + sum ns)
      (parts_counted args)
  layer_counted (Get r f value) = ap (λ n. 4 + n) value.1

  pub trees_known : (e : Expr) → (known e).trees ≡ trees_of_expr e
  trees_known = ind-Expr HasTrees (λ x y is.
      ap (λ (k : Known). k.trees) (fold-roll-Expr Known (expr_known around standing scope) x)
      ∙ subst (λ z. expr_trees (map-Expr Known ℕ (λ k. k.trees)
      (map-Expr Expr Known known z)) ≡ expr_trees (map-Expr Expr ℕ trees_of_expr z)) is
      (layer_counted y)
      ∙ sym (fold-roll-Expr ℕ expr_trees x))

-- the trees that are told of an expression
pub trees_here : (setting : Setting) (e : Expr) (at : ℕ) (told : KnownHere)
    (old new : Option Fault) →
    Tells (known_here setting e) at told old new → told.trees ≡ trees_of_expr e
trees_here setting e at told old new tells =
    tells.trees
    ∙ trees_known setting.around.now (standing_of setting.standing) (scope_of setting.scope.now) e
