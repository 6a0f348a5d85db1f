-- Why a specification is not taken as a typed one.
use Rattle.std.specs.Prelude.{◌≡◌, Option, Some}
use Rattle.kat_syntax.specs.FirstTypeFault.{TypeFault}
use Rattle.kat_typing.specs.declared.checking.TypeError.{TypeError}
use Rattle.kat_typing.specs.declared.checking.TypeError.TheVariants.{Code, Memory}

-- the error is this first fault, or memory ran out
abbrev pub IsErrorOf : Option TypeFault → TypeError → Type 0
IsErrorOf first (Code decl tree rule) =
    first ≡ Some (record { decl = decl; tree = tree; rule = rule })
IsErrorOf first Memory = Unit {0}
