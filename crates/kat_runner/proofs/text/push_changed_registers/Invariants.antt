use Rattle.std.proofs.Common.{◌≡◌, ◌++◌, drop}
use Rattle.kat_runner.specs.StateText.{changed_registers}
use Rattle.kat_runner.proofs.text.push_changed_registers.Given as goal

-- the lines that are still to come make the text whole
abbrev pub invariant-loop-at : goal.invariant-loop-at
invariant-loop-at l =
    l.out ++ changed_registers l.types (drop l.at l.names) (drop l.at l.before) (drop l.at l.after)
    ≡ l.initial.out ++ changed_registers l.types l.names l.before l.after
