use Rattle.kat_expr_types.specs.Bases.{names_in}
use Rattle.kat_expr_types.proofs.Naming.{ParamsSoFar}
use Rattle.kat_expr_types.proofs.scope.Base.judge_params.Given as goal

-- the parameters so far, and what is to come
abbrev pub invariant-loop-param : goal.invariant-loop-param
invariant-loop-param l =
    ParamsSoFar l.around (names_in l.self-inside.lists) l.at l.params l.param-index l.next l.table
    l.initial.faults l.faults
