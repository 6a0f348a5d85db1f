use Rattle.kat_mode.proofs.Going.{IsLeft}
use Rattle.kat_mode.proofs.Parts.{left_from}
use Rattle.kat_mode.proofs.decl.ask_params.Given as goal

-- the parameters that are left make the whole
abbrev pub invariant-loop-param : goal.invariant-loop-param
invariant-loop-param l =
    IsLeft (left_from l.params 0) (left_from l.params l.param-index) l.unbound l.unbound
