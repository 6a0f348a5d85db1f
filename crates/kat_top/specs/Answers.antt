-- What a call answers: a status and a text, and what of it was given.
use Rattle.std.specs.Prelude.{◌≡◌, ◌≤◌, ℕ, List, []}
use Rattle.kat_io.specs.Contents.{with_bytes, Grew}
use Rattle.kat_io.specs.Counts.{Rose}
use Rattle.kat_io.specs.Seen.{SinkSeen}
use Rattle.kat_top.specs.declared.fault.Fault.{Fault}
use Rattle.kat_top.specs.declared.inputs.InputError.{InputError}
use Rattle.kat_top.specs.declared.inputs.InputError.TheVariants as why
use Rattle.kat_top.specs.declared.status.Status.{Status}
use Rattle.kat_top.specs.declared.status.Status.TheVariants as status
use Rattle.kat_top.specs.Faults.{fault_text_of}
use Rattle.kat_top.specs.Statuses.{status_of_fault}

-- a status, and the text that is written with it
pub record Answer : Type 0 where
  pub status : Status
  pub text : List ℕ

-- the line of a fault, with its status
abbrev pub answer_of_fault : Fault → Answer
answer_of_fault fault = record { status = status_of_fault fault; text = fault_text_of fault }

-- memory ran out, and nothing is written
abbrev pub out_of_memory : Answer
out_of_memory = record { status = status.Memory; text = [] }

-- where an input was not taken
abbrev pub answer_of_error : InputError → Answer
answer_of_error (why.Fault fault) = answer_of_fault fault
answer_of_error why.Memory = out_of_memory

-- a status other than that of a failed write and of want of memory
abbrev pub IsPlain : Status → Type 0
IsPlain status.WriteFault = ⊥
IsPlain status.Memory = ⊥
IsPlain _ = Unit {0}

-- a fact for all statuses but that of a failed write and of want of memory
abbrev pub IfPlain : Status → Type 0 → Type 0
IfPlain status.WriteFault P = Unit {0}
IfPlain status.Memory P = Unit {0}
IfPlain _ P = P

-- a fact for the status of a write that failed
abbrev pub IfWriteFault : Status → Type 0 → Type 0
IfWriteFault status.WriteFault P = P
IfWriteFault _ P = Unit {0}

-- the status and the whole text are those of an answer
pub record IsWhole (answer : Answer) (given : Status) (old new : SinkSeen) : Type 0 where
  pub status_is : given ≡ answer.status
  pub text_is : new.contents ≡ with_bytes old.contents answer.text

-- an answer was given: whatever happened, a prefix of its text was written; it was given whole,
-- unless a write failed or memory ran out; and a write failed only where the count of that rose
pub record Gives (answer : Answer) (given : Status) (old new : SinkSeen) : Type 0 where
  pub prefix : Grew old.contents new.contents answer.text
  pub whole : IfPlain given (IsWhole answer given old new)
  pub unwritten : IfWriteFault given (Rose old.faults new.faults)
  pub faults : old.faults ≤ new.faults
