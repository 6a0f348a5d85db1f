-- Files in memory.
use Rattle.std.specs.Prelude.{ℕ, ◌+◌, ◌==◌, Bool, true, false, List, [], ◌∷◌, length, nat_le, Option, Some, None, Result, Ok, Err, if◌then◌else◌}
use Rattle.std.specs.List.{list_any}
use Rattle.std.specs.Str.{bytes_eq}
use Rattle.kat_io.specs.declared.memory.Named.{Named}
use Rattle.kat_io.specs.declared.reading.ReadError.{ReadError}
use Rattle.kat_io.specs.declared.reading.ReadError.TheVariants.{Failed, TooLong}
use Rattle.kat_io.specs.Seen.{FilesSeen}

-- the bytes of the first file of this name
abbrev pub bytes_of : List Named → List ℕ → Option (List ℕ)
bytes_of [] name = None
bytes_of (file ∷ others) name =
    if bytes_eq file.name name then Some file.bytes else bytes_of others name

-- the files, the numbers of the reads that fail, the reads that were made, and how many failed or
-- went past their limit
pub record FilesState : Type 0 where
  pub files : List Named
  pub failing : List ℕ
  pub reads : List (List ℕ × ℕ)
  pub faults : ℕ
  pub overlong : ℕ

-- these files, of which none was read
abbrev pub new_files : List Named → List ℕ → FilesState
new_files files failing = record {
  files = files;
  failing = failing;
  reads = [];
  faults = 0;
  overlong = 0;
}

-- what is seen of files in memory: they tell their bytes
abbrev pub seen_files : FilesState → FilesSeen
seen_files state = record {
  told = bytes_of state.files;
  faults = state.faults;
  overlong = state.overlong;
  reads = state.reads;
}

-- whether the next read is one of those that fail; its number is counted from 1
abbrev pub next_read_fails : FilesState → Bool
next_read_fails state = list_any (λ n. n == length state.reads + 1) state.failing

-- what a read answers, where memory lasts: whether it is one of those that fail, the bytes of its
-- name, and its limit
abbrev pub read_answer : Bool → Option (List ℕ) → ℕ → Result (Unit {0}) ReadError
read_answer true found limit = Err Failed
read_answer false None limit = Err Failed
read_answer false (Some bytes) limit =
    if nat_le (length bytes) limit then Ok tt else Err (TooLong (limit + 1))
