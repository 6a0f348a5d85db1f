-- The answer that is owed to a job where nothing outside fails, by the bytes that files tell.
use Rattle.std.specs.Prelude.{◌≡◌, ◌+◌, ◌⊎◌, List, [], ◌∷◌, Option}
use Rattle.kat_words.specs.declared.asked.Job.{Job}
use Rattle.kat_top.specs.declared.fault.Fault.{Fault}
use Rattle.kat_top.specs.declared.fault.Fault.TheVariants as fault
use Rattle.kat_top.specs.Answers.{Answer, answer_of_fault}
use Rattle.kat_top.specs.Inputs.{Input, Thing}
use Rattle.kat_top.specs.Limits.{most_bytes}
use Rattle.kat_top.specs.Judging.{Told, IsRefused, IsTooLong, Reaches}
use Rattle.kat_top.specs.Jobs.{Does, inputs_of}

-- the next input is too long or refused, with this answer
abbrev pub RefusedWith : Told → Answer → List Thing → Input → Type 0
RefusedWith told answer taken input =
    (IsTooLong told input × (answer ≡ answer_of_fault (fault.Long input.name (most_bytes + 1))))
    ⊎ ((said : Fault) × IsRefused told taken input said × (answer ≡ answer_of_fault said))

-- the judging ends here, with this answer
abbrev pub EndsWith : Option Job → Told → Answer → List Thing → List Input → Type 0
EndsWith job told answer taken [] = Does job taken answer
EndsWith job told answer taken (input ∷ rest) = RefusedWith told answer taken input

-- the answer that is owed from here on, behind inputs that were taken as these
abbrev pub IsOwedFrom : Option Job → Told → Answer → List Thing → List Input → Type 0
IsOwedFrom job told answer earlier inputs = Reaches told (EndsWith job told answer) earlier inputs

-- the answer that is owed
abbrev pub IsOwed : Option Job → Told → Answer → Type 0
IsOwed job told answer = IsOwedFrom job told answer [] (inputs_of job)
