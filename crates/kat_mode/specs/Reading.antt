-- What a call says of a piece that it has read.
use Rattle.std.specs.Prelude.{◌≡◌, List, ◌++◌, Option, None, Some, Result, Ok, Err}
use Rattle.kat_syntax.specs.Tables.{Name}
use Rattle.kat_syntax.specs.Modes.{Reading, Read, Stopped, Reader, is_in}
use Rattle.kat_mode.specs.declared.stop.Stop.{Stop}
use Rattle.kat_mode.specs.declared.stop.Stop.TheVariants.{At, Memory}
use Rattle.kat_mode.specs.Turning.{is_unbound}

-- these names are unbound behind those that turned
abbrev pub AreUnbound : List Name → List Name → Type 0
AreUnbound unbound turned = (x : Name) → is_in unbound x ≡ is_unbound turned x

-- names turned behind those that turned before
abbrev pub GoesOn : List Name → List Name → Type 0
GoesOn old new = (more : List Name) × (new ≡ old ++ more)

-- a reading that begins behind the names that turned ends with what the call answers: with names
-- that are unbound behind those that have turned now, or at a name
abbrev pub Ends : List Name → List Name → Result (Unit {0}) Stop → Reading → Type 0
Ends old new (Ok _) reading =
    (unbound : List Name) × (reading ≡ Read unbound) × AreUnbound unbound new × GoesOn old new
Ends old new (Err (At x)) reading = reading ≡ Stopped x.now
Ends old new (Err Memory) reading = Unit {0}

-- the call reads as this reader, wherever it begins
abbrev pub Follows : Reader → List Name → List Name → Result (Unit {0}) Stop → Type 0
Follows reader old new result =
    (unbound : List Name) → AreUnbound unbound old → Ends old new result (reader unbound)

-- a reading from the beginning to the end: it stops at this name, if at one
abbrev pub StopsAt : Result (Unit {0}) Stop → Option Name → Type 0
StopsAt (Ok _) stop = stop ≡ None
StopsAt (Err (At x)) stop = stop ≡ Some x.now
StopsAt (Err Memory) stop = Unit {0}
