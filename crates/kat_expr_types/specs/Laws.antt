-- What walks use of faults that are noted part by part, and of the trees of what is known.
use Rattle.std.specs.Prelude.{◌≡◌, ℕ, ◌+◌, ◌==◌, List, ◌∷◌, ◌++◌, length, map, sum, Option, Some}
use Rattle.kat_ast.specs.declared.expr.Expr.{Expr}
use Rattle.kat_ast.specs.Expressions.{trees_of_expr, trees_of_exprs}
use Rattle.kat_syntax.specs.declared.type_rule.TypeRule.TheVariants.{CountOther}
use Rattle.kat_syntax.specs.TypeRules.{Fault, least_with, unless}
use Rattle.kat_syntax.specs.Declares.{TypedName, types_of}
use Rattle.kat_syntax.specs.Around.{Around}
use Rattle.kat_syntax.specs.TypesWritten.{Scope}
use Rattle.kat_syntax.specs.TypingExpressions.{Standing, Known, parts_faults, arg_faults, given_faults, known_of_expr}

-- how many trees parts have together
abbrev pub trees_of_parts : List Known → ℕ
trees_of_parts parts = sum (map (λ (part : Known). part.trees) parts)

-- the least of faults, part by part
pub record NotingLaws : Type 0 where
  -- some faults and then others
  pub both : (old : Option Fault) (a b : List Fault) →
      least_with old (a ++ b) ≡ least_with (least_with old a) b
  -- one part and then others
  pub part : (old : Option Fault) (at : ℕ) (part : Known) (parts : List Known) →
      least_with old (parts_faults at (part ∷ parts))
      ≡ least_with (least_with old (part.faults at)) (parts_faults (at + part.trees) parts)
  -- some parts and then others
  pub parts : (old : Option Fault) (at : ℕ) (a b : List Known) →
      least_with old (parts_faults at (a ++ b))
      ≡ least_with (least_with old (parts_faults at a)) (parts_faults (at + trees_of_parts a) b)
  -- the count of arguments and then each of them
  pub given : (old : Option Fault) (params : List TypedName) (at : ℕ) (args : List Known) →
      least_with old (given_faults (Some params) at args)
      ≡ least_with (least_with old (unless (length args == length params) at CountOther))
      (arg_faults (types_of params) (at + 3) args)

-- what is known of expressions has the trees of the expressions, and those of more add up
pub record TreesLaws : Type 0 where
  pub sum : (count : ℕ) (counts : List ℕ) → sum (count ∷ counts) ≡ count + sum counts
  pub one : (around : Around) (standing : Standing) (scope : Scope) (expr : Expr) →
      (known_of_expr around standing scope expr).trees ≡ trees_of_expr expr
  pub all : (around : Around) (standing : Standing) (scope : Scope) (exprs : List Expr) →
      trees_of_parts (map (known_of_expr around standing scope) exprs) ≡ trees_of_exprs exprs
