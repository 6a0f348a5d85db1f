use Rattle.std.proofs.Common.{drop}
use Rattle.kat_syntax.specs.Meaning.{plainly}
use Rattle.kat_eval.specs.Locals.{locals_of}
use Rattle.kat_eval.proofs.Values.{AreSoFar}
use Rattle.kat_eval.proofs.eval.+expressions.Given as goal

-- the values so far and those of the expressions that are left are those of all
abbrev pub invariant-eval_all-loop-expr : goal.invariant-eval_all-loop-expr
invariant-eval_all-loop-expr l =
    AreSoFar (plainly l.checked.decls (locals_of l.locals)) l.exprs l.values (drop l.expr-index l.exprs)
