use Rattle.std.proofs.Common.{◌≡◌, ◌<◌, ◌^◌, ◌+◌, drop}
use Rattle.kat_ast.specs.Parts.{capped_count}
use Rattle.kat_ast.specs.Expressions.{trees_of_exprs}
use Rattle.kat_ast.proofs.expr.+expressions.Given as goal

abbrev pub invariant-count_exprs-loop-expr : goal.invariant-count_exprs-loop-expr
invariant-count_exprs-loop-expr l = (capped_count (l.total + trees_of_exprs (drop l.expr-index l.exprs)) ≡ capped_count (trees_of_exprs l.exprs)) × (l.total < 2 ^ 32)
