-- How writes make one write.
use Rattle.std.specs.Prelude.{List, ℕ, ◌++◌, Result}
use Rattle.kat_io.specs.declared.writing.SinkError.{SinkError}
use Rattle.kat_io.specs.declared.writing.SinkError.TheVariants.{Memory}
use Rattle.kat_io.specs.Seen.{SinkSeen, IsWrite, TookAll, GaveUp}

-- a piece that was written whole, and then a write of another: a write of both, with the answer of
-- the second
abbrev pub WritesJoin : Type 0
WritesJoin =
    (result : Result (Unit {0}) SinkError) (first second : List ℕ) (old between new : SinkSeen) →
    TookAll first old between → IsWrite result second between new →
    IsWrite result (first ++ second) old new

-- who gave up in a piece gave up in one with more behind it
abbrev pub GaveUpInMore : Type 0
GaveUpInMore =
    (error : SinkError) (piece more : List ℕ) (old new : SinkSeen) →
    GaveUp error piece old new → GaveUp error (piece ++ more) old new

-- where memory ran out before anything was written, any piece was given up
abbrev pub GaveUpAtOnce : Type 0
GaveUpAtOnce = (piece : List ℕ) (seen : SinkSeen) → GaveUp Memory piece seen seen
