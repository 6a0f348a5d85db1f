-- The names that expressions and assertions read.
use Rattle.std.specs.Prelude.{◌≡◌, ◌++◌, not, List, [], ◌∷◌, filter, map}
use Rattle.std.specs.List.{AllByRecursion}
use Rattle.std.specs.Str.{bytes_eq}
use Rattle.kat_ast.specs.declared.assertion.Assertion.{Assertion}
use Rattle.kat_ast.specs.declared.assertion.Assertion.TheOpen.{Assertion-F, Pure, Register as InRegister, Cell, Star, If, Exists, Predicate, Region}
use Rattle.kat_ast.specs.declared.assertion.Assertion.TheFolds.{fold-Assertion}
use Rattle.kat_ast.specs.declared.expr.Expr.{Expr}
use Rattle.kat_ast.specs.declared.expr.Expr.TheOpen.{Expr-F, Name as Named, Make, Rec, Apply, Get}
use Rattle.kat_ast.specs.declared.expr.Expr.TheFolds.{fold-Expr}
use Rattle.kat_syntax.specs.Evaluation.{Environment, Locals, value_of_name}
use Rattle.kat_syntax.specs.Fragments.{Fragment}
use Rattle.kat_syntax.specs.Holds.{Holds}
use Rattle.kat_syntax.specs.MeaningLaws.{joined}
use Rattle.kat_syntax.specs.Tables.{Name}

-- the names that one layer of an expression reads
abbrev pub expr_names : Expr-F (List Name) → List Name
expr_names (Named x) = x ∷ []
expr_names (Make k payload) = payload
expr_names (Rec r fields) = joined fields
expr_names (Apply op args) = joined args
expr_names (Get r f part) = part
expr_names _ = []

-- the names that an expression reads
abbrev pub names_of_expr : Expr → List Name
names_of_expr = fold-Expr (List Name) expr_names

-- the names that expressions read
abbrev pub names_of_exprs : List Expr → List Name
names_of_exprs exprs = joined (map names_of_expr exprs)

-- the names that one layer of an assertion reads: what `exists` names is its own
abbrev pub assertion_names : Assertion-F (List Name) → List Name
assertion_names (Pure e) = names_of_expr e
assertion_names (InRegister r e) = names_of_expr e
assertion_names (Cell index e) = names_of_expr index ++ names_of_expr e
assertion_names (Star parts) = joined parts
assertion_names (If test first second) = names_of_expr test ++ (first ++ second)
assertion_names (Exists x type body) = filter (λ y. not (bytes_eq x y)) body
assertion_names (Predicate x args) = names_of_exprs args
assertion_names (Region x args) = names_of_exprs args

-- the names that an assertion reads
abbrev pub names_of_assertion : Assertion → List Name
names_of_assertion = fold-Assertion (List Name) assertion_names

-- each of these names has the same value, or none, among both locals
abbrev pub AgreeOn : Locals → Locals → List Name → Type 0
AgreeOn first second names =
    AllByRecursion (λ x. value_of_name first x ≡ value_of_name second x) names

-- what holds an assertion holds it among other locals that agree on the names that it reads
abbrev pub OnlyNamesReadCount : Type 0
OnlyNamesReadCount =
    (assertion : Assertion) (env : Environment) (locals : Locals) (f : Fragment) →
    AgreeOn env.locals locals (names_of_assertion assertion) →
    Holds assertion env f → Holds assertion (record env { locals = locals }) f
