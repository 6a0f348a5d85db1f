use Rattle.std.proofs.Common.{◌≡◌, drop}
use Rattle.kat_mode.specs.Names.{texts}
use Rattle.kat_mode.specs.Turning.{all_bound}
use Rattle.kat_mode.proofs.unbound.Unbound.bind_all.Given as goal

-- the names that are left make the whole
abbrev pub invariant-loop-name : goal.invariant-loop-name
invariant-loop-name l =
    all_bound l.initial.self (texts l.names)
    ≡ all_bound l.self (texts (drop l.name-index l.names))
