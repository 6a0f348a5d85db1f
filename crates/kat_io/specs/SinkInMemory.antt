-- A sink that keeps what it takes.
use Rattle.std.specs.Prelude.{ℕ, ◌==◌, Bool, true, false, List, [], Some, Result, Ok, Err}
use Rattle.std.specs.List.{list_any}
use Rattle.kat_io.specs.declared.writing.SinkError.{SinkError}
use Rattle.kat_io.specs.declared.writing.SinkError.TheVariants.{Failed}
use Rattle.kat_io.specs.Counts.{next_count}
use Rattle.kat_io.specs.Seen.{SinkSeen}

-- what the sink took, the numbers of the writes that fail, and how many writes were made and failed
pub record SinkState : Type 0 where
  pub contents : List ℕ
  pub failing : List ℕ
  pub writes : ℕ
  pub faults : ℕ

-- an empty sink, to which nothing was written
abbrev pub new_sink : List ℕ → SinkState
new_sink failing = record { contents = []; failing = failing; writes = 0; faults = 0 }

-- what is seen of a sink in memory: it tells its contents
abbrev pub seen_sink : SinkState → SinkSeen
seen_sink sink = record { contents = Some sink.contents; faults = sink.faults }

-- the number of the next write, counted from 1; it stays at the greatest u64
abbrev pub next_write : SinkState → ℕ
next_write sink = next_count sink.writes

-- whether the next write is one of those that fail
abbrev pub next_write_fails : SinkState → Bool
next_write_fails sink = list_any (λ n. n == next_write sink) sink.failing

-- what a write answers, where memory lasts: whether it is one of those that fail
abbrev pub write_answer : Bool → Result (Unit {0}) SinkError
write_answer true = Err Failed
write_answer false = Ok tt
