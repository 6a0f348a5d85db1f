-- A fault comes only where its count rose, what files tell stays, and the reads are those of the
-- first inputs.
use Rattle.std.proofs.Common.{◌≡◌, ℕ, suc, inl, inr, List, [], ◌∷◌, ◌++◌, map, take, Option, Err, refl, ap, sym, subst, ◌∙◌, append_assoc, arith}
use Rattle.std.proofs.lemmas.List.{append-nil}
use Rattle.kat_io.specs.Counts.{Rose}
use Rattle.kat_io.specs.Seen.{FilesSeen, SinkSeen, Kept}
use Rattle.kat_words.specs.declared.asked.Job.{Job}
use Rattle.kat_top.specs.declared.inputs.InputError.{InputError}
use Rattle.kat_top.specs.declared.inputs.InputError.TheVariants as why
use Rattle.kat_top.specs.declared.status.Status.{Status}
use Rattle.kat_top.specs.declared.status.Status.TheVariants as status
use Rattle.kat_top.specs.Answers.{Answer, answer_of_error, Gives}
use Rattle.kat_top.specs.Given.{AnswersFrom, Answered, AddsReads, HasCauses, Keeps}
use Rattle.kat_top.specs.Inputs.{Name, Input, Thing}
use Rattle.kat_top.specs.Jobs.{inputs_of}
use Rattle.kat_top.specs.Judging.{names_of}
use Rattle.kat_top.specs.Loading.{read_of, Came, IsNotedFor}
use Rattle.kat_top.specs.Statuses.{status_of_fault}
use Rattle.kat_top.proofs.Doing.{HasStatus, does_status, no_file}
use Rattle.kat_top.proofs.Judged.{IsOfText, refused_status}
use Rattle.kat_top.proofs.Outside.{rose_before}

status_of_answer : (answer : Answer) (error : InputError) (given : Status) → answer ≡ answer_of_error error → answer.status ≡ given → (answer_of_error error).status ≡ given
status_of_answer answer error given is has = sym (ap (λ (a : Answer). a.status) is) ∙ has

stop_read : (earlier : List Thing) (input : Input) (error : InputError) (before after : FilesSeen) → Came earlier input (Err error) before after →
    (answer_of_error error).status ≡ status.ReadFault → Rose before.faults after.faults
stop_read earlier input why.Memory before after came is = absurd (cc)
stop_read earlier input (why.Fault said) before after (inl failed) is = failed.rose
stop_read earlier input (why.Fault said) before after (inr (inl long)) is = let e = ap status_of_fault long.said_is in absurd (cc)
stop_read earlier input (why.Fault said) before after (inr (inr refused)) is =
    absurd (subst IsOfText is (refused_status earlier input.kind refused.bytes said refused.refuses))

stop_long : (earlier : List Thing) (input : Input) (error : InputError) (before after : FilesSeen) → Came earlier input (Err error) before after →
    (answer_of_error error).status ≡ status.TooLong → Rose before.overlong after.overlong
stop_long earlier input why.Memory before after came is = absurd (cc)
stop_long earlier input (why.Fault said) before after (inl failed) is = let e = ap status_of_fault failed.said_is in absurd (cc)
stop_long earlier input (why.Fault said) before after (inr (inl long)) is = long.rose
stop_long earlier input (why.Fault said) before after (inr (inr refused)) is =
    absurd (subst IsOfText is (refused_status earlier input.kind refused.bytes said refused.refuses))

read_rose : (job : Option Job) (inputs : List Input) (earlier : List Thing) (before after : FilesSeen) (answer : Answer) → answer.status ≡ status.ReadFault →
    AnswersFrom job earlier inputs before after answer → Rose before.faults after.faults
read_rose job [] earlier before after answer is x = absurd (no_file job status.ReadFault (subst (HasStatus job) is (does_status job earlier answer x.1)) tt)
read_rose job (input ∷ rest) earlier before after answer is (inl stop) =
    stop_read earlier input stop.error before after stop.loads.came (status_of_answer answer stop.error status.ReadFault stop.answer_is is)
read_rose job (input ∷ rest) earlier before after answer is (inr (thing, between, loads, x)) =
    rose_before before.faults between.faults after.faults loads.kept.faults (read_rose job rest (earlier ++ thing ∷ []) between after answer is x)

long_rose : (job : Option Job) (inputs : List Input) (earlier : List Thing) (before after : FilesSeen) (answer : Answer) → answer.status ≡ status.TooLong →
    AnswersFrom job earlier inputs before after answer → Rose before.overlong after.overlong
long_rose job [] earlier before after answer is x = absurd (no_file job status.TooLong (subst (HasStatus job) is (does_status job earlier answer x.1)) tt)
long_rose job (input ∷ rest) earlier before after answer is (inl stop) =
    stop_long earlier input stop.error before after stop.loads.came (status_of_answer answer stop.error status.TooLong stop.answer_is is)
long_rose job (input ∷ rest) earlier before after answer is (inr (thing, between, loads, x)) =
    rose_before before.overlong between.overlong after.overlong loads.kept.overlong (long_rose job rest (earlier ++ thing ∷ []) between after answer is x)

given_read : (given : Status) (old new : SinkSeen) (answer : Answer) → given ≡ status.ReadFault → Gives answer given old new → answer.status ≡ status.ReadFault
given_read status.ReadFault old new answer is gives = sym gives.whole.status_is
given_read given old new answer is gives = absurd (cc)

given_long : (given : Status) (old new : SinkSeen) (answer : Answer) → given ≡ status.TooLong → Gives answer given old new → answer.status ≡ status.TooLong
given_long status.TooLong old new answer is gives = sym gives.whole.status_is
given_long given old new answer is gives = absurd (cc)

given_write : (given : Status) (old new : SinkSeen) (answer : Answer) → given ≡ status.WriteFault → Gives answer given old new → Rose old.faults new.faults
given_write status.WriteFault old new answer is gives = gives.unwritten
given_write given old new answer is gives = absurd (cc)

kept_both : (before between after : FilesSeen) → Kept before between → Kept between after → Kept before after
kept_both before between after x y = record {
  told = y.told ∙ x.told;
  faults = (let a = x.faults in let b = y.faults in omega arith);
  overlong = (let a = x.overlong in let b = y.overlong in omega arith);
}

kept_from : (job : Option Job) (inputs : List Input) (earlier : List Thing) (before after : FilesSeen) (answer : Answer) → AnswersFrom job earlier inputs before after answer → Kept before after
kept_from job [] earlier before after answer x = subst (λ s. Kept before s) (sym x.0) (record { told = refl; faults = omega arith; overlong = omega arith })
kept_from job (input ∷ rest) earlier before after answer (inl stop) = stop.loads.kept
kept_from job (input ∷ rest) earlier before after answer (inr (thing, between, loads, x)) =
    kept_both before between after loads.kept (kept_from job rest (earlier ++ thing ∷ []) between after answer x)

stop_reads : (input : Input) (rest : List Input) (error : InputError) (old new : List (Name × ℕ)) → IsNotedFor {T = Thing} (Err error) old new input.name → AddsReads (names_of (input ∷ rest)) old new
stop_reads input rest (why.Fault said) old new x = (1, x)
stop_reads input rest why.Memory old new (inl x) = (0, x ∙ sym (append-nil old))
stop_reads input rest why.Memory old new (inr x) = (1, x)

reads_on : (name : Name) (names : List Name) (old between new : List (Name × ℕ)) → between ≡ old ++ read_of name ∷ [] → AddsReads names between new → AddsReads (name ∷ names) old new
reads_on name names old between new first (n, e) =
    (suc n, e ∙ ap (λ l. l ++ take n (map read_of names)) first ∙ append_assoc old (read_of name ∷ []) (take n (map read_of names)))

pub reads_from : (job : Option Job) (inputs : List Input) (earlier : List Thing) (before after : FilesSeen) (answer : Answer) → AnswersFrom job earlier inputs before after answer →
    AddsReads (names_of inputs) before.reads after.reads
reads_from job [] earlier before after answer x = (0, ap (λ (s : FilesSeen). s.reads) x.0 ∙ sym (append-nil before.reads))
reads_from job (input ∷ rest) earlier before after answer (inl stop) = stop_reads input rest stop.error before.reads after.reads stop.loads.noted
reads_from job (input ∷ rest) earlier before after answer (inr (thing, between, loads, x)) =
    reads_on input.name (names_of rest) before.reads between.reads after.reads loads.noted (reads_from job rest (earlier ++ thing ∷ []) between after answer x)

module _ (job : Option Job) (before after : FilesSeen) (given : Status) (old new : SinkSeen) (x : Answered job before after given old new) where
  pub causes : HasCauses given before after old new
  causes = record {
    read = λ is. read_rose job (inputs_of job) [] before after x.answer (given_read given old new x.answer is x.gives) x.answers;
    overlong = λ is. long_rose job (inputs_of job) [] before after x.answer (given_long given old new x.answer is x.gives) x.answers;
    write = λ is. given_write given old new x.answer is x.gives;
  }

  pub keeps : Keeps before after old new
  keeps = record { files = kept_from job (inputs_of job) [] before after x.answer x.answers; sink = x.gives.faults }
