-- The answer that a call gave, for what came of the files.
use Rattle.std.specs.Prelude.{◌≡◌, ◌≤◌, ◌⊎◌, ℕ, List, [], ◌∷◌, ◌++◌, take, map, Option, Ok, Err}
use Rattle.kat_io.specs.Counts.{Rose}
use Rattle.kat_io.specs.Seen.{FilesSeen, SinkSeen, Kept}
use Rattle.kat_words.specs.declared.asked.Job.{Job}
use Rattle.kat_top.specs.declared.inputs.InputError.{InputError}
use Rattle.kat_top.specs.declared.status.Status.{Status}
use Rattle.kat_top.specs.declared.status.Status.TheVariants as status
use Rattle.kat_top.specs.Answers.{Answer, answer_of_error, Gives}
use Rattle.kat_top.specs.Causes.{IsFromOutside, Tells}
use Rattle.kat_top.specs.Inputs.{Name, Input, Thing}
use Rattle.kat_top.specs.Jobs.{Does, inputs_of}
use Rattle.kat_top.specs.Judging.{AreAsked, names_of}
use Rattle.kat_top.specs.Loading.{Loads, read_of}

-- the next input was asked for and not taken, and this is the answer
pub record StopsAt
    (earlier : List Thing) (input : Input) (before after : FilesSeen) (answer : Answer) :
    Type 0 where
  pub error : InputError
  pub loads : Loads earlier input (Err error) before after
  pub answer_is : answer ≡ answer_of_error error

-- the answer to a job from here on, for what came of the inputs that are left: they are asked for
-- in turn, each behind what the earlier ones were taken as, until one is not taken; and what the
-- job does with all is the answer
abbrev pub AnswersFrom :
    Option Job → List Thing → List Input → FilesSeen → FilesSeen → Answer → Type 0
AnswersFrom job earlier [] before after answer = (after ≡ before) × Does job earlier answer
AnswersFrom job earlier (input ∷ rest) before after answer =
    StopsAt earlier input before after answer
    ⊎ ((thing : Thing) × (between : FilesSeen) × Loads earlier input (Ok thing) before between
    × AnswersFrom job (earlier ++ thing ∷ []) rest between after answer)

-- an answer to a job was given, from here on
pub record AnsweredFrom
    (job : Option Job) (earlier : List Thing) (inputs : List Input)
    (before after : FilesSeen) (given : Status) (old new : SinkSeen) : Type 0 where
  pub answer : Answer
  pub answers : AnswersFrom job earlier inputs before after answer
  pub gives : Gives answer given old new

-- an answer to a job was given
abbrev pub Answered : Option Job → FilesSeen → FilesSeen → Status → SinkSeen → SinkSeen → Type 0
Answered job before after given old new =
    AnsweredFrom job [] (inputs_of job) before after given old new

-- the list of reads has gained those of the first of these names, in order
abbrev pub AddsReads : List Name → List (Name × ℕ) → List (Name × ℕ) → Type 0
AddsReads names old new = (n : ℕ) × (new ≡ old ++ take n (map read_of names))

-- the reads that were added are those of the first inputs of the job, in order, each with the
-- limit; and where the files tell their bytes they are those of the inputs that are asked for,
-- unless something outside fails
pub record ReadsMade (job : Option Job) (before after : FilesSeen) (given : Status) : Type 0 where
  pub first : AddsReads (names_of (inputs_of job)) before.reads after.reads
  pub asked : Tells job before.told → IsFromOutside given
      ⊎ ((names : List Name) × AreAsked before.told [] (inputs_of job) names
      × (after.reads ≡ before.reads ++ map read_of names))

-- a fault of reading or writing, and a file that is too long, come only where the count of it rose
pub record HasCauses (given : Status) (before after : FilesSeen) (old new : SinkSeen) : Type 0 where
  pub read : given ≡ status.ReadFault → Rose before.faults after.faults
  pub overlong : given ≡ status.TooLong → Rose before.overlong after.overlong
  pub write : given ≡ status.WriteFault → Rose old.faults new.faults

-- what files tell stays, and no count falls
pub record Keeps (before after : FilesSeen) (old new : SinkSeen) : Type 0 where
  pub files : Kept before after
  pub sink : old.faults ≤ new.faults
