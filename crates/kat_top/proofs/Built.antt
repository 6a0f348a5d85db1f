-- The jobs that are done, and those that are answered as words that ask for none.
use Rattle.std.proofs.Common.{◌≡◌, ℕ, inl, List, [], ◌∷◌, length, Bool, true, false, Option, None, Some, refl, sym, subst, arith}
use Rattle.std.specs.Prelude.{not}
use Rattle.std.specs.List.{list_any}
use Rattle.kat_io.specs.Seen.{FilesSeen, SinkSeen, Kept}
use Rattle.kat_words.specs.declared.asked.Job.{Job}
use Rattle.kat_words.specs.declared.asked.Job.TheVariants.{Check, Print, Verify, Replay, Run, Gen}
use Rattle.kat_top.specs.declared.fault.Fault.TheVariants as fault
use Rattle.kat_top.specs.declared.inputs.InputError.TheVariants as why
use Rattle.kat_top.specs.declared.status.Status.{Status}
use Rattle.kat_top.specs.declared.status.Status.TheVariants as status
use Rattle.kat_top.specs.Answers.{answer_of_fault, out_of_memory, Gives}
use Rattle.kat_top.specs.Given.{Answered, AnsweredFrom}
use Rattle.kat_top.specs.Inputs.{Name, Input}
use Rattle.kat_top.specs.Jobs.{done_of, is_reserved}
use Rattle.kat_top.proofs.Steps.{stops, done}
use Rattle.kat_top.proofs.Written.{gives_nothing}

pub check_done : (name : Name) → is_reserved name ≡ false → done_of (Some (Check name)) ≡ Some (Check name)
check_done name fails = rw fails refl

pub check_reserved : (name : Name) → is_reserved name ≡ true → done_of (Some (Check name)) ≡ None
check_reserved name holds = rw holds refl

pub print_done : (name : Name) → is_reserved name ≡ false → done_of (Some (Print name)) ≡ Some (Print name)
print_done name fails = rw fails refl

pub print_reserved : (name : Name) → is_reserved name ≡ true → done_of (Some (Print name)) ≡ None
print_reserved name holds = rw holds refl

pub run_done : (spec image : Name) (cycles calls : ℕ) (devices : List ℕ) → length devices ≡ 0 → not (list_any is_reserved (spec ∷ image ∷ [])) ≡ true →
    done_of (Some (Run spec image cycles calls devices)) ≡ Some (Run spec image cycles calls devices)
run_done spec image cycles calls [] none are = rw are refl
run_done spec image cycles calls (device ∷ devices) none are = absurd (omega arith)

pub run_reserved : (spec image : Name) (cycles calls : ℕ) (devices : List ℕ) → not (list_any is_reserved (spec ∷ image ∷ [])) ≡ false →
    done_of (Some (Run spec image cycles calls devices)) ≡ None
run_reserved spec image cycles calls [] are = rw are refl
run_reserved spec image cycles calls (device ∷ devices) are = refl

pub run_plugged : (spec image : Name) (cycles calls : ℕ) (devices : List ℕ) → (length devices ≡ 0 → ⊥) → done_of (Some (Run spec image cycles calls devices)) ≡ None
run_plugged spec image cycles calls [] some = absurd (some refl)
run_plugged spec image cycles calls (device ∷ devices) some = refl

-- words that ask for no job are answered so
pub as_usage : (job : Option Job) (seen : FilesSeen) (given : Status) (old new : SinkSeen) → job ≡ None → Gives (answer_of_fault fault.Usage) given old new → Answered job seen seen given old new
as_usage job seen given old new is gives = subst (λ j. Answered j seen seen given old new) (sym is) (done _ refl gives)

by_test : (P : Type 0) (b : Bool) → (b ≡ true → P) → (b ≡ false → P) → P
by_test P true holds fails = holds refl
by_test P false holds fails = fails refl

-- memory ran out before the first input was asked for
stops_at_once : (job : Option Job) (input : Input) (rest : List Input) (seen : FilesSeen) (sink : SinkSeen) → AnsweredFrom job [] (input ∷ rest) seen seen status.Memory sink sink
stops_at_once job input rest seen sink =
    let kept : Kept seen seen = record { told = refl; faults = omega arith; overlong = omega arith } in
    stops {error = why.Memory} (record { kept = kept; noted = inl refl; came = tt }) (gives_nothing out_of_memory sink)

pub no_memory : (job : Option Job) (seen : FilesSeen) (sink : SinkSeen) → Answered (done_of job) seen seen status.Memory sink sink
no_memory None seen sink = done _ refl (gives_nothing _ sink)
no_memory (Some (Check name)) seen sink =
    by_test (Answered (done_of (Some (Check name))) seen seen status.Memory sink sink) (is_reserved name)
    (λ holds. as_usage (done_of (Some (Check name))) seen status.Memory sink sink (check_reserved name holds) (gives_nothing _ sink))
    (λ fails. subst (λ j. Answered j seen seen status.Memory sink sink) (sym (check_done name fails)) (stops_at_once (Some (Check name)) _ _ seen sink))
no_memory (Some (Print name)) seen sink =
    by_test (Answered (done_of (Some (Print name))) seen seen status.Memory sink sink) (is_reserved name)
    (λ holds. as_usage (done_of (Some (Print name))) seen status.Memory sink sink (print_reserved name holds) (gives_nothing _ sink))
    (λ fails. subst (λ j. Answered j seen seen status.Memory sink sink) (sym (print_done name fails)) (stops_at_once (Some (Print name)) _ _ seen sink))
no_memory (Some (Verify file)) seen sink = done _ refl (gives_nothing _ sink)
no_memory (Some (Replay file report)) seen sink = done _ refl (gives_nothing _ sink)
no_memory (Some (Run spec image cycles calls [])) seen sink =
    let job : Job = Run spec image cycles calls [] in
    by_test (Answered (done_of (Some job)) seen seen status.Memory sink sink) (not (list_any is_reserved (spec ∷ image ∷ [])))
    (λ holds. subst (λ j. Answered j seen seen status.Memory sink sink) (sym (run_done spec image cycles calls [] refl holds)) (stops_at_once (Some job) _ _ seen sink))
    (λ fails. as_usage (done_of (Some job)) seen status.Memory sink sink (run_reserved spec image cycles calls [] fails) (gives_nothing _ sink))
no_memory (Some (Run spec image cycles calls (device ∷ devices))) seen sink = done _ refl (gives_nothing _ sink)
no_memory (Some (Gen number)) seen sink = done _ refl (gives_nothing _ sink)
