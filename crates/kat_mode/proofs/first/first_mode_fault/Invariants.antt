use Rattle.std.proofs.Common.{◌≡◌, drop}
use Rattle.kat_syntax.specs.Modes.{inputs_among, mode_fault_from}
use Rattle.kat_mode.proofs.first.first_mode_fault.Given as goal

-- the first fault is that of the declarations that are left
abbrev pub invariant-loop-number : goal.invariant-loop-number
invariant-loop-number l =
    mode_fault_from (inputs_among l.decls) 0 l.decls
    ≡ mode_fault_from (inputs_among l.decls) l.number (drop l.number l.decls)
