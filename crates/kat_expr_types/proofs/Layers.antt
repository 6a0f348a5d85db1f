-- What is known of an expression, from its layer.
use Rattle.std.proofs.Common.{◌≡◌, ℕ, sym, ap, ◌∙◌, subst, Option}
use Rattle.kat_ast.specs.declared.expr.Expr.{Expr}
use Rattle.kat_ast.specs.declared.expr.Expr.TheOpen.{Expr-F}
use Rattle.kat_ast.specs.declared.expr.Expr.TheViews.{out-Expr}
use Rattle.kat_ast.specs.declared.expr.Expr.TheFolds.{map-Expr, fold_out-Expr}
use Rattle.kat_syntax.specs.TypeRules.{Fault}
use Rattle.kat_syntax.specs.Around.{Around}
use Rattle.kat_syntax.specs.TypesWritten.{Scope}
use Rattle.kat_syntax.specs.TypingExpressions.{Standing, Known, expr_known, known_of_expr}
use Rattle.kat_expr_types.specs.declared.setting.Known.{Known as KnownHere}
use Rattle.kat_expr_types.specs.Judging.{Tells}

-- what is known of a layer, with what is known of each part in its place
abbrev pub layered : Around → Standing → Scope → Expr-F Expr → Known
layered around standing scope y =
    expr_known around standing scope (map-Expr Expr Known (known_of_expr around standing scope) y)

module _ (around : Around) (standing : Standing) (scope : Scope) where
  pub known_at : (e : Expr) (y : Expr-F Expr) → out-Expr e ≡ y →
      known_of_expr around standing scope e ≡ layered around standing scope y
  known_at e y is =
      fold_out-Expr Known (expr_known around standing scope) e
      ∙ ap (layered around standing scope) is

  -- what is told of the layer is told of the expression
  pub told_at : (e : Expr) (y : Expr-F Expr) (at : ℕ) (told : KnownHere) (old new : Option Fault) →
      out-Expr e ≡ y → Tells (layered around standing scope y) at told old new →
      Tells (known_of_expr around standing scope e) at told old new
  told_at e y at told old new is tells =
      subst (λ k. Tells k at told old new) (sym (known_at e y is)) tells
