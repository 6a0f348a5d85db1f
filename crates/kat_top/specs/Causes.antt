-- Where each status comes, by what the bytes of the files are read as.
use Rattle.std.specs.Prelude.{◌≡◌, ◌⊎◌, [], Option, None, ⊤}
use Rattle.kat_io.specs.Seen.{SinkSeen}
use Rattle.kat_words.specs.declared.asked.Job.{Job}
use Rattle.kat_top.specs.declared.status.Status.{Status}
use Rattle.kat_top.specs.declared.status.Status.TheVariants as status
use Rattle.kat_top.specs.Answers.{Answer, IsWhole}
use Rattle.kat_top.specs.Jobs.{Does, inputs_of}
use Rattle.kat_top.specs.Judging.{Told, AreTold, HasLong, HasUntyped, HasNothing, AllTaken}

-- a status that comes of what failed outside: a read, a write, or memory
abbrev pub IsFromOutside : Status → Type 0
IsFromOutside status.ReadFault = Unit {0}
IsFromOutside status.WriteFault = Unit {0}
IsFromOutside status.Memory = Unit {0}
IsFromOutside _ = ⊥

-- a status comes wherever it has its cause, unless something outside fails, and where the files
-- tell their bytes it comes only with what it shows
pub record ComesExactly (told : Type 0) (wanted given : Status) (cause shown : Type 0) :
    Type 0 where
  pub comes : cause → (given ≡ wanted) ⊎ IsFromOutside given
  pub only : told → given ≡ wanted → shown

-- the files of a job tell their bytes, as far as they are asked for
abbrev pub Tells : Option Job → Told → Type 0
Tells job told = AreTold told [] (inputs_of job)

-- the words ask for no job that the program does
abbrev pub UsageComes : Option Job → Status → Type 0
UsageComes job given = ComesExactly ⊤ status.Usage given (job ≡ None) (job ≡ None)

-- a file that is asked for has more bytes than are read
abbrev pub LongComes : Option Job → Told → Status → Type 0
LongComes job told given =
    let long = HasLong told (inputs_of job) in
    ComesExactly (Tells job told) status.TooLong given long long

-- the bytes of a file that is asked for stand for a specification that is not typed and moded where
-- it has to be
abbrev pub IllTypedComes : Option Job → Told → Status → Type 0
IllTypedComes job told given =
    let untyped = HasUntyped told (inputs_of job) in
    ComesExactly (Tells job told) status.IllTyped given untyped untyped

-- the bytes of a file that is asked for are read as nothing that the job can treat, for another
-- reason than typing and modes
abbrev pub FormComes : Option Job → Told → Status → Type 0
FormComes job told given =
    let nothing = HasNothing told (inputs_of job) in
    ComesExactly (Tells job told) status.Form given nothing nothing

-- all files are taken, and this is what the job answers then
abbrev pub IsDone : Option Job → Told → Answer → Type 0
IsDone job told answer = AllTaken told (λ taken. Does job taken answer) (inputs_of job)

-- that answer has this status
abbrev pub DoneWith : Status → Option Job → Told → Type 0
DoneWith given job told = (answer : Answer) × IsDone job told answer × (answer.status ≡ given)

-- the same, and it was given whole
abbrev pub DoneWhole : Option Job → Told → Status → SinkSeen → SinkSeen → Type 0
DoneWhole job told given old new =
    (answer : Answer) × IsDone job told answer × IsWhole answer given old new

-- the status of what a job did; it shows that the whole text was written
abbrev pub DoneComes : Status → Option Job → Told → Status → SinkSeen → SinkSeen → Type 0
DoneComes wanted job told given old new =
    ComesExactly (Tells job told) wanted given
    (DoneWith wanted job told) (DoneWhole job told given old new)

-- each status comes exactly where it has its cause
pub record StatusesCome (job : Option Job) (told : Told) (given : Status) (old new : SinkSeen) :
    Type 0 where
  pub usage : UsageComes job given
  pub long : LongComes job told given
  pub form : FormComes job told given
  pub ill_typed : IllTypedComes job told given
  pub out_of_calls : DoneComes status.Out job told given old new
  pub failed : DoneComes status.Failed job told given old new
  pub ok : DoneComes status.Ok job told given old new
