use Rattle.std.proofs.Common.{◌≡◌, ◌++◌, drop, map}
use Rattle.kat_tree.specs.Written.{behind_spaces}
use Rattle.kat_print.specs.Expressions.{text_of_expr}
use Rattle.kat_print.proofs.expressions.+expr.Given as goal

-- the expressions that are still to come make the text whole
abbrev pub invariant-put_exprs-loop-expr : goal.invariant-put_exprs-loop-expr
invariant-put_exprs-loop-expr l = l.out ++ behind_spaces (map text_of_expr (drop l.expr-index l.exprs)) ≡ l.initial.out ++ behind_spaces (map text_of_expr l.exprs)
