-- What a call says of a form that it has judged, and what stands around one.
use Rattle.std.specs.Prelude.{◌≡◌, ℕ, Option}
use Rattle.kat_ast.specs.declared.expr.Expr.{Expr}
use Rattle.kat_syntax.specs.TypeRules.{Fault, least_with}
use Rattle.kat_syntax.specs.TypingExpressions as typing
use Rattle.kat_syntax.specs.TypingExpressions.{Known, known_of_expr}
use Rattle.kat_expr_types.specs.declared.setting.Setting.{Setting}
use Rattle.kat_expr_types.specs.declared.setting.Known.{Known as KnownHere}
use Rattle.kat_expr_types.specs.declared.setting.Standing.{Standing}
use Rattle.kat_expr_types.specs.declared.setting.Standing.TheVariants.{Plain, InDispatch, WithKept, InChange}
use Rattle.kat_expr_types.specs.Scopes.{scope_of}

-- where an expression stands
abbrev pub standing_of : Standing → typing.Standing
standing_of Plain = typing.Plain
standing_of InDispatch = typing.InDispatch
standing_of WithKept = typing.WithKept
standing_of InChange = typing.InChange

-- what is known of an expression in a setting
abbrev pub known_here : Setting → Expr → Known
known_here setting =
    known_of_expr setting.around.now (standing_of setting.standing) (scope_of setting.scope.now)

-- what is known of a form at this tree is answered, and its faults are noted
pub record Tells (known : Known) (at : ℕ) (told : KnownHere) (old new : Option Fault) :
    Type 0 where
  pub trees : told.trees ≡ known.trees
  pub type : told.ty ≡ known.type
  pub faults : new ≡ least_with old (known.faults at)
