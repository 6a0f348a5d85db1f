-- Faults that are noted step by step, in settings that are known.
use Rattle.std.proofs.Common.{◌≡◌, ℕ, List, ◌∷◌, ◌++◌, sym, ap, ◌∙◌, Option, Some}
use Rattle.std.specs.Borrow.{Bor}
use Rattle.kat_value.specs.declared.types.Ty.{Ty}
use Rattle.kat_value.specs.declared.types.Ty.TheVariants as ty
use Rattle.kat_value.specs.Signatures.{agree}
use Rattle.kat_ast.specs.declared.expr.Expr.{Expr}
use Rattle.kat_ast.specs.declared.assertion.Assertion.{Assertion}
use Rattle.kat_syntax.specs.Tables.{Name}
use Rattle.kat_syntax.specs.TypeRules.{Fault, least_with}
use Rattle.kat_syntax.specs.Around.{Around}
use Rattle.kat_syntax.specs.TypesWritten as typing
use Rattle.kat_syntax.specs.TypingStatements.{condition_faults}
use Rattle.kat_syntax.specs.TypingDeclarations.{assertion_at, truth_at}
use Rattle.kat_expr_types.specs.declared.scope.Scope.{Scope}
use Rattle.kat_expr_types.specs.declared.scope.Scope.TheVariants as scope
use Rattle.kat_expr_types.specs.declared.scope.Scope.TheViews.{outs-Base}
use Rattle.kat_expr_types.specs.declared.scope.Scope.TheFolds.{map-Scope, fold_out-Scope}
use Rattle.kat_expr_types.specs.declared.setting.Setting.{Setting}
use Rattle.kat_expr_types.specs.declared.setting.Standing.{Standing}
use Rattle.kat_expr_types.specs.Judging.{standing_of, known_here}
use Rattle.kat_expr_types.specs.Scopes.{scope_of, scope_step}
use Rattle.kat_stm_types.specs.Judging.{judged_here}
use Rattle.kat_typing.proofs.Noting.{least_both}

-- faults that are noted in two steps
pub noted_both : (old mid new : Option Fault) (a b : List Fault) →
    mid ≡ least_with old a → new ≡ least_with mid b → new ≡ least_with old (a ++ b)
noted_both old mid new a b first second =
    second ∙ ap (λ known. least_with known b) first ∙ sym (least_both old a b)

-- the names of parameters alone
pub base_scope : (base : Bor typing.Scope) → scope_of (scope.Base base) ≡ base.now
base_scope base =
    fold_out-Scope typing.Scope scope_step (scope.Base base)
    ∙ ap (λ y. scope_step (map-Scope Scope typing.Scope scope_of y)) (outs-Base base)

-- a local in front of names that are known
pub local_in_front : (x : Name) (given type : Option Ty) (behind names whole : typing.Scope) →
    whole ≡ record { name = x; type = given } ∷ behind → given ≡ type → behind ≡ names →
    whole ≡ record { name = x; type = type } ∷ names
local_in_front x given type behind names whole is type_is names_are =
    is ∙ ap (λ k. record { name = x; type = k } ∷ behind) type_is
    ∙ ap (λ s. record { name = x; type = type } ∷ s) names_are

module _ (w : Setting) (around : Around) (standing : Standing) (names : typing.Scope)
    (around_is : w.around.now ≡ around) (standing_is : w.standing ≡ standing)
    (names_are : scope_of w.scope.now ≡ names) where
  -- the faults of an assertion in a setting that is known
  pub assertion_noted : (a : Assertion) (at there : ℕ) (old new : Option Fault) → at ≡ there →
      new ≡ least_with old ((judged_here w a).faults at) →
      new ≡ least_with old (assertion_at around (standing_of standing) names there a)
  assertion_noted a at there old new place noted =
      noted
      ∙ ap (λ x. least_with old
      (assertion_at x (standing_of w.standing) (scope_of w.scope.now) at a)) around_is
      ∙ ap (λ x. least_with old
      (assertion_at around (standing_of x) (scope_of w.scope.now) at a)) standing_is
      ∙ ap (λ x. least_with old (assertion_at around (standing_of standing) x at a)) names_are
      ∙ ap (λ x. least_with old (assertion_at around (standing_of standing) names x a)) place

  -- the faults of a condition in a setting that is known
  pub truth_noted : (e : Expr) (at there : ℕ) (old new : Option Fault) → at ≡ there →
      new ≡ least_with old (condition_faults (agree (Some ty.Bool)) at (known_here w e)) →
      new ≡ least_with old (truth_at around (standing_of standing) names there e)
  truth_noted e at there old new place noted =
      noted
      ∙ ap (λ x. least_with old
      (truth_at x (standing_of w.standing) (scope_of w.scope.now) at e)) around_is
      ∙ ap (λ x. least_with old
      (truth_at around (standing_of x) (scope_of w.scope.now) at e)) standing_is
      ∙ ap (λ x. least_with old (truth_at around (standing_of standing) x at e)) names_are
      ∙ ap (λ x. least_with old (truth_at around (standing_of standing) names x e)) place
