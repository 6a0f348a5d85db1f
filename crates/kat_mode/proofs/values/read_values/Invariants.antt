use Rattle.kat_mode.proofs.Going.{IsLeft}
use Rattle.kat_mode.proofs.Parts.{values_from}
use Rattle.kat_mode.proofs.values.read_values.Given as goal

-- the values that are left make the whole
abbrev pub invariant-loop-value : goal.invariant-loop-value
invariant-loop-value l =
    IsLeft (values_from l.values 0) (values_from l.values l.value-index) l.initial.unbound l.unbound
