-- What a job does with its inputs is one answer, whose status is none of a file.
use Rattle.std.proofs.Common.{◌≡◌, List, [], ◌∷◌, Option, None, Some, refl, ap, sym, subst, ◌∙◌}
use Rattle.kat_ast.specs.Spec.{Spec}
use Rattle.kat_syntax.specs.Machine.{MachineState}
use Rattle.kat_syntax.specs.Run.{RunEnd, Ended, OutIn, FailedIn}
use Rattle.kat_words.specs.declared.asked.Job.{Job}
use Rattle.kat_words.specs.declared.asked.Job.TheVariants.{Check, Print, Verify, Replay, Run, Gen}
use Rattle.kat_top.specs.declared.status.Status.{Status}
use Rattle.kat_top.specs.declared.status.Status.TheVariants as status
use Rattle.kat_top.specs.Answers.{Answer}
use Rattle.kat_top.specs.Inputs.{Thing}
use Rattle.kat_top.specs.Jobs.{Does, check_answer, print_answer, answer_of_run, status_of_end}

-- one answer
pub one_doing : (job : Option Job) (taken : List Thing) (a b : Answer) → Does job taken a → Does job taken b → a ≡ b
one_doing None taken a b x y = x ∙ sym y
one_doing (Some (Check name)) taken a b (s, f, x) (t, g, y) =
    let e : s ≡ t = cc in
    x ∙ ap check_answer e ∙ sym y
one_doing (Some (Print name)) taken a b (s, f, x) (t, g, y) =
    let e : s ≡ t = cc in
    x ∙ ap print_answer e ∙ sym y
one_doing (Some (Verify file)) taken a b x y = absurd x
one_doing (Some (Replay file report)) taken a b x y = absurd x
one_doing (Some (Run name image cycles calls [])) taken a b (m, s, f, x) (n, t, g, y) =
    let e : m ≡ n = cc in
    let d : s ≡ t = cc in
    x ∙ ap (λ (machine : Spec). answer_of_run machine s cycles calls) e
    ∙ ap (λ (start : MachineState). answer_of_run n start cycles calls) d ∙ sym y
one_doing (Some (Run name image cycles calls (device ∷ devices))) taken a b x y = absurd x
one_doing (Some (Gen number)) taken a b x y = absurd x

-- the statuses of what jobs do
abbrev pub IsOfJob : Status → Type 0
IsOfJob status.Ok = Unit {0}
IsOfJob status.Out = Unit {0}
IsOfJob status.Failed = Unit {0}
IsOfJob _ = ⊥

end_is_of_job : (end : RunEnd) → IsOfJob (status_of_end end)
end_is_of_job Ended = tt
end_is_of_job (OutIn cycle) = tt
end_is_of_job (FailedIn cycle place) = tt

-- a job has one of them, and words that ask for none have another
abbrev pub HasStatus : Option Job → Status → Type 0
HasStatus None given = given ≡ status.Usage
HasStatus (Some job) given = IsOfJob given

pub does_status : (job : Option Job) (taken : List Thing) (answer : Answer) → Does job taken answer → HasStatus job answer.status
does_status None taken answer x = ap (λ (a : Answer). a.status) x
does_status (Some (Check name)) taken answer (s, f, x) = subst IsOfJob (sym (ap (λ (a : Answer). a.status) x)) tt
does_status (Some (Print name)) taken answer (s, f, x) = subst IsOfJob (sym (ap (λ (a : Answer). a.status) x)) tt
does_status (Some (Verify file)) taken answer x = absurd x
does_status (Some (Replay file report)) taken answer x = absurd x
does_status (Some (Run name image cycles calls [])) taken answer (m, s, f, x) =
    subst IsOfJob (sym (ap (λ (a : Answer). a.status) x)) (end_is_of_job _)
does_status (Some (Run name image cycles calls (device ∷ devices))) taken answer x = absurd x
does_status (Some (Gen number)) taken answer x = absurd x

-- the statuses of files, and of want of memory
abbrev pub IsOfFile : Status → Type 0
IsOfFile status.ReadFault = Unit {0}
IsOfFile status.WriteFault = Unit {0}
IsOfFile status.TooLong = Unit {0}
IsOfFile status.Form = Unit {0}
IsOfFile status.IllTyped = Unit {0}
IsOfFile status.Memory = Unit {0}
IsOfFile _ = ⊥

of_job_or_file : (given : Status) → IsOfJob given → IsOfFile given → ⊥
of_job_or_file status.Ok x y = y
of_job_or_file status.Out x y = y
of_job_or_file status.Failed x y = y
of_job_or_file _ x y = absurd x

pub no_file : (job : Option Job) (given : Status) → HasStatus job given → IsOfFile given → ⊥
no_file None given x y = subst IsOfFile x y
no_file (Some job) given x y = of_job_or_file given x y

-- the status of words that ask for no job is that of no job
pub is_usage : (job : Option Job) → HasStatus job status.Usage → job ≡ None
is_usage None x = refl
is_usage (Some job) x = absurd x
