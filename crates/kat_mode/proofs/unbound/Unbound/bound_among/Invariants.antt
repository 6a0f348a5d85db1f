use Rattle.std.proofs.Common.{◌≡◌, ◌++◌, drop}
use Rattle.kat_mode.specs.Names.{texts}
use Rattle.kat_mode.specs.Turning.{bound_among}
use Rattle.kat_mode.proofs.unbound.Unbound.bound_among.Given as goal

-- those that are found and those among what is left
abbrev pub invariant-loop-name : goal.invariant-loop-name
invariant-loop-name l =
    bound_among l.self (texts l.names)
    ≡ texts l.bound ++ bound_among l.self (texts (drop l.name-index l.names))
