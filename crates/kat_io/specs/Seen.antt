-- What is seen of files and of a sink, and what a read and a write do to it.
use Rattle.std.specs.Prelude.{ℕ, ◌≡◌, ◌≤◌, List, [], Option, Result, Ok, Err, OnOk, OnErr}
use Rattle.kat_io.specs.declared.reading.ReadError.{ReadError}
use Rattle.kat_io.specs.declared.writing.SinkError.{SinkError}
use Rattle.kat_io.specs.Contents.{with_bytes, Grew}
use Rattle.kat_io.specs.ReadErrors.{faults_after_read, overlong_after_read, IsNoted}
use Rattle.kat_io.specs.SinkErrors.{faults_after_write}

-- what is seen of files: the bytes of each name, where they are told; how many reads failed; how
-- many found more bytes than their limit; and the names and limits of the reads that were made, in
-- order
pub record FilesSeen : Type 0 where
  pub told : List ℕ → Option (List ℕ)
  pub faults : ℕ
  pub overlong : ℕ
  pub reads : List (List ℕ × ℕ)

-- what is seen of a sink: what it took so far, where that is told, and how many writes failed
pub record SinkSeen : Type 0 where
  pub contents : Option (List ℕ)
  pub faults : ℕ

-- files that tell these bytes, of which none was read
abbrev pub unread : (List ℕ → Option (List ℕ)) → FilesSeen
unread told = record { told = told; faults = 0; overlong = 0; reads = [] }

-- a sink that holds this, to which nothing was written
abbrev pub unwritten : Option (List ℕ) → SinkSeen
unwritten contents = record { contents = contents; faults = 0 }

-- what is told stays, and no count falls
pub record Kept (old new : FilesSeen) : Type 0 where
  pub told : new.told ≡ old.told
  pub faults : old.faults ≤ new.faults
  pub overlong : old.overlong ≤ new.overlong

-- a read that answers this: what is told stays, its own error is counted and nothing else, and its
-- name and limit are noted
pub record IsRead {T : Type 0} (result : Result T ReadError) (read : List ℕ × ℕ)
    (old new : FilesSeen) : Type 0 where
  pub told : new.told ≡ old.told
  pub faults : new.faults ≡ faults_after_read result old.faults
  pub overlong : new.overlong ≡ overlong_after_read result old.overlong
  pub noted : IsNoted result old.reads new.reads read

-- a write of these bytes that answers this: its failure is counted and nothing else; at the end of
-- what the sink holds stand all the bytes, or after an error some first ones
pub record IsWrite {T : Type 0} (result : Result T SinkError) (bytes : List ℕ)
    (old new : SinkSeen) : Type 0 where
  pub faults : new.faults ≡ faults_after_write result old.faults
  pub whole : OnOk result (new.contents ≡ with_bytes old.contents bytes)
  pub front : OnErr result (Grew old.contents new.contents bytes)

-- the sink took all these bytes
abbrev pub TookAll : List ℕ → SinkSeen → SinkSeen → Type 0
TookAll bytes old new = IsWrite {T = Unit {0}} (Ok tt) bytes old new

-- the sink gave up in these bytes, with this error
abbrev pub GaveUp : SinkError → List ℕ → SinkSeen → SinkSeen → Type 0
GaveUp error bytes old new = IsWrite {T = Unit {0}} (Err error) bytes old new
