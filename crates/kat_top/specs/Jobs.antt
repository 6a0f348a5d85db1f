-- The jobs that the program does: what each asks for, and what it does with that.
use Rattle.std.specs.Prelude.{◌≡◌, ◌==◌, ◌&&◌, ℕ, Bool, true, false, not, if◌then◌else◌, List, [], ◌∷◌, ◌++◌, codes, length, map, replicate, Option, Some, None, String}
use Rattle.std.specs.List.{list_any}
use Rattle.std.specs.String.{string_bytes}
use Rattle.std.specs.declared.alloc.Global.{Global}
use Rattle.kat_ast.specs.Spec.{Spec}
use Rattle.kat_ast.specs.Specifications.{canonical_text}
use Rattle.kat_syntax.specs.Machine.{MachineState}
use Rattle.kat_syntax.specs.Run.{Cycle, Run as MachineRun, RunEnd, Ended, OutIn, FailedIn, run_of}
use Rattle.kat_runner.specs.StateText.{state_text_of}
use Rattle.kat_words.specs.Jobs.{job_of}
use Rattle.kat_words.specs.declared.asked.Job.{Job}
use Rattle.kat_words.specs.declared.asked.Job.TheVariants.{Check, Print, Run}
use Rattle.kat_top.specs.declared.fault.Fault.TheVariants as fault
use Rattle.std.specs.Fmt.{decimal}
use Rattle.kat_top.specs.declared.status.Status.{Status}
use Rattle.kat_top.specs.declared.status.Status.TheVariants as status
use Rattle.kat_top.specs.Answers.{Answer, answer_of_fault}
use Rattle.kat_top.specs.Faults.{part}
use Rattle.kat_top.specs.Inputs.{Name, Kind, ASpec, AModed, AnImage, Input, Thing, TheSpec, TheModed, TheState}
use Rattle.kat_top.specs.Judging.{names_of}

-- an input of this kind, by the name of its file
abbrev pub input : Kind → Name → Input
input kind name = record { kind = kind; name = name }

-- the status of a run that was written
abbrev pub status_of_end : RunEnd → Status
status_of_end Ended = status.Ok
status_of_end (OutIn cycle) = status.Out
status_of_end (FailedIn cycle place) = status.Failed

-- `typed declarations N`, in a line
abbrev pub typed_text : Spec → List ℕ
typed_text spec = codes "typed declarations" ++ part (decimal (length spec.decls)) ++ 10 ∷ []

-- that a specification is typed and moded, and how many declarations it has
abbrev pub check_answer : Spec → Answer
check_answer spec = record { status = status.Ok; text = typed_text spec }

-- the canonical text of a specification
abbrev pub print_answer : Spec → Answer
print_answer spec = record { status = status.Ok; text = canonical_text spec }

-- a run's text, with the status of its end
abbrev pub run_answer : Spec → MachineRun → Answer
run_answer machine run = record { status = status_of_end run.end; text = state_text_of machine run }

-- the text of so many cycles of a machine from a state, each with so many calls
abbrev pub answer_of_run : Spec → MachineState → ℕ → ℕ → Answer
answer_of_run machine start cycles calls =
    run_answer machine (run_of machine calls start (replicate cycles Cycle))

-- whether the program does a job already: a line for each job that it does
abbrev pub is_built : Job → Bool
is_built (Check spec) = true
is_built (Print spec) = true
is_built (Run spec image cycles calls []) = true
is_built _ = false

-- what a job asks for, in the order in which it is judged; nothing where the words ask for no job
abbrev pub inputs_of : Option Job → List Input
inputs_of (Some (Check spec)) = input AModed spec ∷ []
inputs_of (Some (Print spec)) = input ASpec spec ∷ []
inputs_of (Some (Run spec image cycles calls devices)) =
    input AModed spec ∷ input AnImage image ∷ []
inputs_of _ = []

-- what a job answers, whose inputs were taken as these. It is a relation, and a job may end in many
-- ways
abbrev pub Does : Option Job → List Thing → Answer → Type 0
Does None taken answer = answer ≡ answer_of_fault fault.Usage
Does (Some (Check name)) taken answer =
    (spec : Spec) × (taken ≡ TheModed spec ∷ []) × (answer ≡ check_answer spec)
Does (Some (Print name)) taken answer =
    (spec : Spec) × (taken ≡ TheSpec spec ∷ []) × (answer ≡ print_answer spec)
Does (Some (Run name image cycles calls [])) taken answer =
    (machine : Spec) × (start : MachineState) × (taken ≡ TheModed machine ∷ TheState start ∷ [])
    × (answer ≡ answer_of_run machine start cycles calls)
Does _ taken answer = ⊥

-- a name with `@` in front is that of a text that comes with the program, of which there is none
abbrev pub is_reserved : Name → Bool
is_reserved [] = false
is_reserved (byte ∷ rest) = byte == 64

-- a job, where the program does it and all its files are files; none for every other
abbrev pub done_of : Option Job → Option Job
done_of None = None
done_of (Some job) =
    let names = names_of (inputs_of (Some job)) in
    if is_built job && not (list_any is_reserved names) then Some job else None

-- the job that these words ask for; none where they ask for none that the program does
abbrev pub asked : List (String Global) → Option Job
asked words = done_of (job_of (map string_bytes words))
