-- What writes make of an answer.
use Rattle.std.proofs.Common.{◌≡◌, ℕ, ◌+◌, ◌-◌, ◌++◌, refl, ap, sym, subst, ◌∙◌, List, [], ◌∷◌, length, take, min, Option, None, Some, append_assoc, arith}
use Rattle.std.specs.Fmt.{decimal}
use Rattle.std.proofs.Math.Seq.{take-append-add, take-length}
use Rattle.std.proofs.lemmas.List.{append-nil, take_min, take-append-le}
use Rattle.kat_io.specs.Contents.{with_bytes, Grew}
use Rattle.kat_io.specs.Counts.{Rose, next_count}
use Rattle.kat_io.specs.Seen.{SinkSeen, TookAll, GaveUp}
use Rattle.kat_io.specs.declared.writing.SinkError.{SinkError}
use Rattle.kat_io.specs.declared.writing.SinkError.TheVariants as write
use Rattle.kat_ast.specs.Spec.{Spec}
use Rattle.kat_ast.specs.declared.place.Place.{Place}
use Rattle.kat_syntax.specs.Run.{Run, RunEnd, Ended, OutIn, FailedIn}
use Rattle.kat_runner.specs.StateText.{boundary_text_of, end_piece, state_text_of}
use Rattle.kat_runner.specs.Runner.{text_owed, text_for_end}
use Rattle.kat_top.specs.declared.fault.Fault.{Fault}
use Rattle.kat_top.specs.declared.fault.Fault.TheVariants as fault
use Rattle.kat_top.specs.declared.status.Status.{Status}
use Rattle.kat_top.specs.declared.status.Status.TheVariants as status
use Rattle.kat_top.specs.Answers.{Answer, answer_of_fault, IsPlain, IfPlain, IfWriteFault, IsWhole, Gives}
use Rattle.kat_top.specs.Faults.{fault_text_of}
use Rattle.kat_top.specs.Jobs.{run_answer, status_of_end}
use Rattle.kat_top.specs.Statuses.{status_of_fault}

with_none : (held : Option (List ℕ)) → held ≡ with_bytes held []
with_none None = refl
with_none (Some bytes) = ap Some (sym (append-nil bytes))

with_both : (held : Option (List ℕ)) (front back : List ℕ) → with_bytes (with_bytes held front) back ≡ with_bytes held (front ++ back)
with_both None front back = refl
with_both (Some bytes) front back = ap Some (append_assoc bytes front back)

if_plain : (given : Status) (P : Type 0) → P → IfPlain given P
if_plain status.WriteFault P holds = tt
if_plain status.Memory P holds = tt
if_plain given P holds = holds

plain_is_written : (given : Status) (P : Type 0) → IsPlain given → IfWriteFault given P
plain_is_written status.WriteFault P plain = absurd plain
plain_is_written given P plain = tt

-- memory ran out before anything was written
pub gives_nothing : (answer : Answer) (seen : SinkSeen) → Gives answer status.Memory seen seen
gives_nothing answer seen = record { prefix = (0, with_none seen.contents); whole = tt; unwritten = tt; faults = omega arith }

-- the sink took the whole text
pub gives_all : (given : Status) (text : List ℕ) (old new : SinkSeen) → IsPlain given → TookAll text old new →
    Gives (record { status = given; text = text }) given old new
gives_all given text old new plain took = record {
  prefix = (length text, took.whole ∙ ap (with_bytes old.contents) (sym (take-length text)));
  whole = if_plain given _ (record { status_is = refl; text_is = took.whole });
  unwritten = plain_is_written given _ plain;
  faults = (let e = took.faults in omega arith);
}

rose_once : (old new : ℕ) → new ≡ next_count old → Rose old new
rose_once old new e = omega arith

-- the sink gave up in it
pub gives_part : (answer : Answer) (old new : SinkSeen) → GaveUp write.Failed answer.text old new → Gives answer status.WriteFault old new
gives_part answer old new gave = record {
  prefix = gave.front;
  whole = tt;
  unwritten = rose_once old.faults new.faults gave.faults;
  faults = (let e = gave.faults in omega arith);
}

pub gives_no_more : (answer : Answer) (old new : SinkSeen) → GaveUp write.Memory answer.text old new → Gives answer status.Memory old new
gives_no_more answer old new gave = record { prefix = gave.front; whole = tt; unwritten = tt; faults = (let e = gave.faults in omega arith) }

-- a front, and behind it a prefix of the rest
grew_after : (old mid new : Option (List ℕ)) (front back : List ℕ) → mid ≡ with_bytes old front → Grew mid new back → Grew old new (front ++ back)
grew_after old mid new front back first (n, e) =
    (length front + n, e ∙ ap (λ held. with_bytes held (take n back)) first ∙ with_both old front (take n back) ∙ ap (with_bytes old) (sym (take-append-add front back n)))

whole_after : (given s : Status) (old mid new : SinkSeen) (front back : List ℕ) → mid.contents ≡ with_bytes old.contents front →
    IfPlain given (IsWhole (record { status = s; text = back }) given mid new) → IfPlain given (IsWhole (record { status = s; text = front ++ back }) given old new)
whole_after status.WriteFault s old mid new front back first whole = tt
whole_after status.Memory s old mid new front back first whole = tt
whole_after given s old mid new front back first whole = record {
  status_is = whole.status_is;
  text_is = whole.text_is ∙ ap (λ held. with_bytes held back) first ∙ with_both old.contents front back;
}

if_rose_after : (given : Status) (old mid new : ℕ) → mid ≡ old → IfWriteFault given (Rose mid new) → IfWriteFault given (Rose old new)
if_rose_after given old mid new same rose = subst (λ n. IfWriteFault given (Rose n new)) same rose

-- an answer's text in two pieces
pub gives_after : (given s : Status) (old mid new : SinkSeen) (front back : List ℕ) → TookAll front old mid →
    Gives (record { status = s; text = back }) given mid new → Gives (record { status = s; text = front ++ back }) given old new
gives_after given s old mid new front back took gives = record {
  prefix = grew_after old.contents mid.contents new.contents front back took.whole gives.prefix;
  whole = whole_after given s old mid new front back took.whole gives.whole;
  unwritten = if_rose_after given old.faults mid.faults new.faults took.faults gives.unwritten;
  faults = (let e = took.faults in let le = gives.faults in omega arith);
}

-- a prefix of a front is one of the whole
grew_more : (old new : Option (List ℕ)) (front back : List ℕ) → Grew old new front → Grew old new (front ++ back)
grew_more old new front back (n, e) =
    (min n (length front), e ∙ ap (with_bytes old) (sym (take_min n front) ∙ sym (take-append-le (min n (length front)) front back (omega arith))))

-- what the runner owes is a front of the run's text
owed_front : (machine : Spec) (run : Run) (end : RunEnd) (old new : Option (List ℕ)) → end ≡ run.end →
    Grew old new (text_for_end machine run end) → Grew old new (boundary_text_of machine run ++ end_piece (length run.boundaries - 1) run.end)
owed_front machine run Ended old new is grown = grown
owed_front machine run (OutIn cycle) old new is grown = grew_more old new (boundary_text_of machine run) _ grown
owed_front machine run (FailedIn cycle place) old new is grown = grew_more old new (boundary_text_of machine run) _ grown

gave_up_in_run : (error : SinkError) (machine : Spec) (run : Run) (old new : SinkSeen) → GaveUp error (text_owed machine run) old new → GaveUp error (state_text_of machine run) old new
gave_up_in_run error machine run old new gave =
    record { faults = gave.faults; whole = gave.whole; front = owed_front machine run run.end old.contents new.contents refl gave.front }

-- a run in which the sink gave up
pub run_gives_part : (machine : Spec) (run : Run) (old new : SinkSeen) → GaveUp write.Failed (text_owed machine run) old new → Gives (run_answer machine run) status.WriteFault old new
run_gives_part machine run old new gave = gives_part (run_answer machine run) old new (gave_up_in_run write.Failed machine run old new gave)

pub run_gives_no_more : (machine : Spec) (run : Run) (old new : SinkSeen) → GaveUp write.Memory (text_owed machine run) old new → Gives (run_answer machine run) status.Memory old new
run_gives_no_more machine run old new gave = gives_no_more (run_answer machine run) old new (gave_up_in_run write.Memory machine run old new gave)

-- the answer to a run whose end is known
run_answer_is : (machine : Spec) (run : Run) (end : RunEnd) → run.end ≡ end →
    run_answer machine run ≡ record { status = status_of_end end; text = boundary_text_of machine run ++ end_piece (length run.boundaries - 1) end }
run_answer_is machine run end is = ap (λ (e : RunEnd). let a : Answer = record { status = status_of_end e; text = boundary_text_of machine run ++ end_piece (length run.boundaries - 1) e } in a) is

-- a run that ended
pub run_gives_all : (machine : Spec) (run : Run) (old new : SinkSeen) → run.end ≡ Ended → TookAll (state_text_of machine run) old new → Gives (run_answer machine run) status.Ok old new
run_gives_all machine run old new is took =
    subst (λ s. Gives (record { status = s; text = state_text_of machine run }) status.Ok old new) (sym (ap status_of_end is))
    (gives_all status.Ok (state_text_of machine run) old new tt took)

-- a run that stopped, and behind it the line of its fault
stopped : (machine : Spec) (run : Run) (end : RunEnd) (said : Fault) (given : Status) (old mid new : SinkSeen) → run.end ≡ end →
    status_of_fault said ≡ status_of_end end → fault_text_of said ≡ end_piece (length run.boundaries - 1) end →
    TookAll (boundary_text_of machine run) old mid → Gives (answer_of_fault said) given mid new → Gives (run_answer machine run) given old new
stopped machine run end said given old mid new is same_status same_text took gives =
    let wanted : Answer = record { status = status_of_end end; text = end_piece (length run.boundaries - 1) end } in
    let said_is : answer_of_fault said ≡ wanted =
    ap (λ s. let a : Answer = record { status = s; text = fault_text_of said } in a) same_status
    ∙ ap (λ t. let a : Answer = record { status = status_of_end end; text = t } in a) same_text in
    subst (λ a. Gives a given old new) (sym (run_answer_is machine run end is))
    (gives_after given (status_of_end end) old mid new (boundary_text_of machine run) (end_piece (length run.boundaries - 1) end) took
    (subst (λ a. Gives a given mid new) said_is gives))

pub run_gives_out : (machine : Spec) (run : Run) (cycle : ℕ) (given : Status) (old mid new : SinkSeen) → run.end ≡ OutIn cycle →
    TookAll (boundary_text_of machine run) old mid → Gives (answer_of_fault (fault.Out cycle)) given mid new → Gives (run_answer machine run) given old new
run_gives_out machine run cycle given old mid new is took gives = stopped machine run (OutIn cycle) (fault.Out cycle) given old mid new is refl refl took gives

failed_line_is : (first second third : List ℕ) → let head = 102 ∷ 97 ∷ 105 ∷ 108 ∷ 101 ∷ 100 ∷ 32 ∷ first in
    head ++ 32 ∷ second ++ 32 ∷ third ++ 10 ∷ [] ≡ head ++ (32 ∷ []) ++ second ++ (32 ∷ []) ++ third ++ 10 ∷ []
failed_line_is first second third = simp append_assoc

pub run_gives_failed : (machine : Spec) (run : Run) (cycle : ℕ) (site : Place) (given : Status) (old mid new : SinkSeen) → run.end ≡ FailedIn cycle site →
    TookAll (boundary_text_of machine run) old mid → Gives (answer_of_fault (fault.Failed cycle site)) given mid new → Gives (run_answer machine run) given old new
run_gives_failed machine run cycle site given old mid new is took gives =
    stopped machine run (FailedIn cycle site) (fault.Failed cycle site) given old mid new is refl
    (failed_line_is (decimal cycle) (decimal site.decl) (decimal site.tree)) took gives
