use Rattle.std.proofs.Common.{◌≡◌, ◌++◌, drop}
use Rattle.kat_image.specs.ImageText.{register_lines}
use Rattle.kat_image.proofs.print.push_registers.Given as goal

-- the lines that are still to come make the text whole
abbrev pub invariant-loop-at : goal.invariant-loop-at
invariant-loop-at l =
    l.out ++ register_lines l.types (drop l.at l.names) (drop l.at l.values)
    ≡ l.initial.out ++ register_lines l.types l.names l.values
