-- What an expression is to a reader of modes, and how an assertion is read, from the layer.
use Rattle.std.proofs.Common.{◌≡◌, ℕ, List, Result, ap, ◌∙◌}
use Rattle.kat_ast.specs.declared.expr.Expr.{Expr}
use Rattle.kat_ast.specs.declared.expr.Expr.TheOpen.{Expr-F}
use Rattle.kat_ast.specs.declared.expr.Expr.TheViews.{out-Expr}
use Rattle.kat_ast.specs.declared.expr.Expr.TheFolds.{map-Expr, fold_out-Expr}
use Rattle.kat_ast.specs.declared.assertion.Assertion.{Assertion}
use Rattle.kat_ast.specs.declared.assertion.Assertion.TheOpen.{Assertion-F}
use Rattle.kat_ast.specs.declared.assertion.Assertion.TheViews.{out-Assertion}
use Rattle.kat_ast.specs.declared.assertion.Assertion.TheFolds.{map-Assertion, fold_out-Assertion}
use Rattle.kat_syntax.specs.Tables.{Name}
use Rattle.kat_syntax.specs.Modes.{Used, expr_used, used_in, Reader, assertion_read, reading_of, read_names}
use Rattle.kat_mode.specs.declared.stop.Stop.{Stop}
use Rattle.kat_mode.specs.Reading.{Follows}
use Rattle.kat_mode.proofs.Going.{follows_as}

-- the layer of an expression, with what its parts are in their places
abbrev pub used_layer : Expr-F Expr → Used
used_layer y = expr_used (map-Expr Expr Used used_in y)

pub used_at : (e : Expr) (y : Expr-F Expr) → out-Expr e ≡ y → used_in e ≡ used_layer y
used_at e y is = fold_out-Expr Used expr_used e ∙ ap used_layer is

-- the names of an expression are those of its layer
pub names_at : (e : Expr) (y : Expr-F Expr) (old new : List Name)
    (result : Result (Unit {0}) Stop) → out-Expr e ≡ y →
    Follows (read_names (used_layer y).names) old new result →
    Follows (read_names (used_in e).names) old new result
names_at e y old new result is follows =
    follows_as (read_names (used_in e).names) (read_names (used_layer y).names) old new result
    (λ u. ap (λ (used : Used). read_names used.names u) (used_at e y is)) follows

-- the layer of an assertion, with readers for its parts in their places
abbrev pub read_layer : (Name → ℕ) → Assertion-F Assertion → Reader
read_layer inputs y = assertion_read inputs (map-Assertion Assertion Reader (reading_of inputs) y)

-- an assertion is read as its layer
pub form_at : (inputs : Name → ℕ) (a : Assertion) (y : Assertion-F Assertion) (old new : List Name)
    (result : Result (Unit {0}) Stop) → out-Assertion a ≡ y →
    Follows (read_layer inputs y) old new result → Follows (reading_of inputs a) old new result
form_at inputs a y old new result is follows =
    follows_as (reading_of inputs a) (read_layer inputs y) old new result
    (λ u. ap (λ (r : Reader). r u)
    (fold_out-Assertion Reader (assertion_read inputs) a ∙ ap (read_layer inputs) is)) follows
