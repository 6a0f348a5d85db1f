use Rattle.std.proofs.Common.{◌≡◌, drop}
use Rattle.kat_syntax.specs.Modes.{names_of}
use Rattle.kat_mode.specs.Turning.{all_unbound}
use Rattle.kat_mode.proofs.unbound.Unbound.unbind_all.Given as goal

-- the parameters that are left make the whole
abbrev pub invariant-loop-param : goal.invariant-loop-param
invariant-loop-param l =
    all_unbound l.initial.self (names_of l.params)
    ≡ all_unbound l.self (names_of (drop l.param-index l.params))
