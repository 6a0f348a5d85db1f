use Rattle.kat_mode.proofs.Going.{IsLeft}
use Rattle.kat_mode.proofs.Parts.{asked_from}
use Rattle.kat_mode.proofs.expr.+expr.Given as goal

-- the expressions that are left make the whole
abbrev pub invariant-ask_exprs-loop-expr : goal.invariant-ask_exprs-loop-expr
invariant-ask_exprs-loop-expr l =
    IsLeft (asked_from l.exprs 0) (asked_from l.exprs l.expr-index) l.unbound l.unbound
