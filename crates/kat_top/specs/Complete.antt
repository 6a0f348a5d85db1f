-- Where nothing outside fails, the answer that is owed is given whole.
use Rattle.std.specs.Prelude.{◌≡◌, ◌⊎◌, Option}
use Rattle.kat_io.specs.Counts.{Rose}
use Rattle.kat_io.specs.Seen.{FilesSeen, SinkSeen}
use Rattle.kat_words.specs.declared.asked.Job.{Job}
use Rattle.kat_top.specs.declared.status.Status.{Status}
use Rattle.kat_top.specs.declared.status.Status.TheVariants as status
use Rattle.kat_top.specs.Answers.{Answer, IsWhole, Gives}
use Rattle.kat_top.specs.Causes.{Tells}
use Rattle.kat_top.specs.Owed.{IsOwed}

-- an answer that is owed was given whole
abbrev pub GivesOwed : Option Job → FilesSeen → Status → SinkSeen → SinkSeen → Type 0
GivesOwed job before given old new =
    (answer : Answer) × IsOwed job before.told answer × IsWhole answer given old new

-- Where the files tell their bytes, no read fails and no write, the answer that is owed is given
-- whole, or memory runs out. And an answer that is owed is given wherever no read fails, as an
-- answer is given: but for a failed write or want of memory, which leave a prefix of its text
pub record IsComplete
    (job : Option Job) (before after : FilesSeen) (given : Status) (old new : SinkSeen) :
    Type 0 where
  pub whole : Tells job before.told → (Rose before.faults after.faults → ⊥) →
      (Rose old.faults new.faults → ⊥) →
      (given ≡ status.Memory) ⊎ GivesOwed job before given old new
  pub owed : (answer : Answer) → IsOwed job before.told answer →
      (Rose before.faults after.faults → ⊥) → Gives answer given old new
