-- Why a specification is not taken as a moded one.
use Rattle.std.specs.Prelude.{◌≡◌, Option, Some}
use Rattle.kat_syntax.specs.Modes.{ModeFault}
use Rattle.kat_mode.specs.declared.checking.ModeError.{ModeError}
use Rattle.kat_mode.specs.declared.checking.ModeError.TheVariants.{Unbound, Memory}

-- the error is this first fault, or memory ran out
abbrev pub IsErrorOf : Option ModeFault → ModeError → Type 0
IsErrorOf first (Unbound decl name) = first ≡ Some (record { decl = decl; name = name })
IsErrorOf first Memory = Unit {0}
