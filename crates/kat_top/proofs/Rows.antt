-- Where each status comes.
use Rattle.std.proofs.Common.{◌≡◌, ◌+◌, ◌⊎◌, inl, inr, List, [], ◌∷◌, ◌++◌, Option, None, Some, Err, ap, sym, subst, ◌∙◌}
use Rattle.kat_io.specs.Seen.{FilesSeen, SinkSeen}
use Rattle.kat_words.specs.declared.asked.Job.{Job}
use Rattle.kat_top.specs.declared.fault.Fault.{Fault}
use Rattle.kat_top.specs.declared.fault.Fault.TheVariants as fault
use Rattle.kat_top.specs.declared.inputs.InputError.{InputError}
use Rattle.kat_top.specs.declared.inputs.InputError.TheVariants as why
use Rattle.kat_top.specs.declared.status.Status.{Status}
use Rattle.kat_top.specs.declared.status.Status.TheVariants as status
use Rattle.kat_top.specs.Answers.{Answer, answer_of_fault, answer_of_error, IsWhole, Gives}
use Rattle.kat_top.specs.Causes.{IsFromOutside, Tells, UsageComes, LongComes, FormComes, IllTypedComes, DoneComes, StatusesCome}
use Rattle.kat_top.specs.FileLaws.{FileLaws}
use Rattle.kat_top.specs.Given.{AnswersFrom, Answered}
use Rattle.kat_top.specs.Inputs.{Name, Kind, Input, Thing, IsReadAs, IsIllTypedAs}
use Rattle.kat_top.specs.Limits.{most_bytes}
use Rattle.kat_top.specs.Jobs.{Does, inputs_of}
use Rattle.kat_top.specs.Judging.{Told, IsUntyped, IsNothing, IsTooLong, Reaches, AtNext, AtEnd}
use Rattle.kat_top.specs.Loading.{Came}
use Rattle.kat_top.specs.Owed.{EndsWith, IsOwed}
use Rattle.kat_top.specs.Statuses.{status_of_fault}
use Rattle.kat_top.proofs.Doing.{one_doing, HasStatus, does_status, no_file, is_usage, IsOfJob}
use Rattle.kat_top.proofs.Following.{reaches_map, follows, owed_from}
use Rattle.kat_top.proofs.Judged.{IsOfText, refused_status, refused_by, not_untyped, not_both}
use Rattle.kat_top.proofs.Outside.{IsOutside, outside_before, stop_is, taken_is, same_bytes, few_or_many}

-- an answer has this status, or something outside failed
abbrev pub IsOrOutside : Status → Answer → FilesSeen → FilesSeen → Type 0
IsOrOutside wanted answer before after = IsOutside answer before after ⊎ (answer.status ≡ wanted)

status_is : (answer : Answer) (said : Fault) (given : Status) → answer ≡ answer_of_fault said → status_of_fault said ≡ given → answer.status ≡ given
status_is answer said given is has = ap (λ (a : Answer). a.status) is ∙ has

-- the answer to a text that is refused has a status of that
text_status : (answer : Answer) (said : Fault) → answer ≡ answer_of_fault said → IsOfText (status_of_fault said) → IsOfText answer.status
text_status answer said is of_text = subst IsOfText (sym (ap (λ (a : Answer). a.status) is)) of_text

text_is_not : (answer : Answer) (said : Fault) (given : Status) → answer ≡ answer_of_fault said → IsOfText (status_of_fault said) → answer.status ≡ given → IsOfText given
text_is_not answer said given is of_text has = subst IsOfText has (text_status answer said is of_text)

of_job_or_text : {P : Type 0} (given : Status) → IsOfJob given → IsOfText given → P
of_job_or_text status.Ok of_job of_text = absurd of_text
of_job_or_text status.Out of_job of_text = absurd of_text
of_job_or_text status.Failed of_job of_text = absurd of_text
of_job_or_text _ of_job of_text = absurd of_job

long_is : (answer : Answer) (name : Name) → answer ≡ answer_of_fault (fault.Long name (most_bytes + 1)) → answer.status ≡ status.TooLong
long_is answer name is = ap (λ (a : Answer). a.status) is

-- from a point that the judging comes to on to the whole call
at_arrival : FileLaws → (job : Option Job) (P : List Thing → List Input → Type 0) (wanted : Status) (before after : FilesSeen) (answer : Answer) →
    ((taken : List Thing) (rest : List Input) (between : FilesSeen) → between.told ≡ before.told → P taken rest → AnswersFrom job taken rest between after answer → IsOrOutside wanted answer between after) →
    Reaches before.told P [] (inputs_of job) → AnswersFrom job [] (inputs_of job) before after answer → IsOrOutside wanted answer before after
at_arrival laws job P wanted before after answer here reaches x =
    elim (follows laws job P (inputs_of job) [] before after answer reaches x) [
      | inl outside ↦ inl outside
      | inr a ↦ elim (here a.taken a.rest a.between a.told a.here a.answers) [
        | inl outside ↦ inl (outside_before answer before a.between after a.faults outside)
        | inr is ↦ inr is
      ]
    ]

long_here : (job : Option Job) (told : Told) (taken : List Thing) (rest : List Input) (before after : FilesSeen) (answer : Answer) → before.told ≡ told →
    AtNext (λ taken input. IsTooLong told input) taken rest → AnswersFrom job taken rest before after answer → IsOrOutside status.TooLong answer before after
long_here job told taken [] before after answer is here x = absurd here
long_here job told taken (input ∷ rest) before after answer is here (inl stop) =
    let long = subst (λ t. IsTooLong t input) (sym is) here in
    elim (stop_is taken input before after answer long.bytes long.is_told stop) [
      | inl outside ↦ inl outside
      | inr refused ↦ elim refused [
        | inl r ↦ inr (long_is answer input.name r.1)
        | inr r ↦ absurd (few_or_many before.told input r.1.bytes long.bytes r.1.is_told long.is_told r.1.few long.many)
      ]
    ]
long_here job told taken (input ∷ rest) before after answer is here (inr (thing, between, loads, x)) =
    let long = subst (λ t. IsTooLong t input) (sym is) here in
    let as_taken = taken_is taken input thing before between long.bytes long.is_told loads in
    absurd (few_or_many before.told input as_taken.bytes long.bytes as_taken.is_told long.is_told as_taken.few long.many)

-- the same text, in other bytes that are told
same_untyped : (told : Option Name) (kind : Kind) (bytes other : Name) → told ≡ Some bytes → told ≡ Some other → IsIllTypedAs kind bytes → IsIllTypedAs kind other
same_untyped told kind bytes other is too untyped = subst (IsIllTypedAs kind) (same_bytes told bytes other is too) untyped

nothing_here : FileLaws → (job : Option Job) (told : Told) (taken : List Thing) (rest : List Input) (before after : FilesSeen) (answer : Answer) → before.told ≡ told →
    AtNext (λ taken input. IsNothing told taken input) taken rest → AnswersFrom job taken rest before after answer → IsOrOutside status.Form answer before after
nothing_here laws job told taken [] before after answer is here x = absurd here
nothing_here laws job told taken (input ∷ rest) before after answer is here (inl stop) =
    let none = subst (λ t. IsNothing t taken input) (sym is) here in
    elim (stop_is taken input before after answer none.bytes none.is_told stop) [
      | inl outside ↦ inl outside
      | inr refused ↦ elim refused [
        | inl r ↦ absurd (few_or_many before.told input none.bytes r.0.bytes none.is_told r.0.is_told none.few r.0.many)
        | inr r ↦ elim (refused_by laws taken input.kind r.1.bytes r.0 r.1.refuses) [
          | inl untyped ↦ absurd (none.not_untyped (same_untyped (before.told input.name) input.kind r.1.bytes none.bytes r.1.is_told none.is_told untyped.1))
          | inr other ↦ inr (status_is answer r.0 status.Form r.2 other.0)
        ]
      ]
    ]
nothing_here laws job told taken (input ∷ rest) before after answer is here (inr (thing, between, loads, x)) =
    let none = subst (λ t. IsNothing t taken input) (sym is) here in
    let as_taken = taken_is taken input thing before between none.bytes none.is_told loads in
    let same = same_bytes (before.told input.name) as_taken.bytes none.bytes as_taken.is_told none.is_told in
    absurd (none.nothing thing (subst (λ bytes. IsReadAs taken input.kind bytes thing) same as_taken.reads))

untyped_here : FileLaws → (job : Option Job) (told : Told) (taken : List Thing) (rest : List Input) (before after : FilesSeen) (answer : Answer) → before.told ≡ told →
    AtNext (λ taken input. IsUntyped told taken input) taken rest → AnswersFrom job taken rest before after answer → IsOrOutside status.IllTyped answer before after
untyped_here laws job told taken [] before after answer is here x = absurd here
untyped_here laws job told taken (input ∷ rest) before after answer is here (inl stop) =
    let ill = subst (λ t. IsUntyped t taken input) (sym is) here in
    elim (stop_is taken input before after answer ill.bytes ill.is_told stop) [
      | inl outside ↦ inl outside
      | inr refused ↦ elim refused [
        | inl r ↦ absurd (few_or_many before.told input ill.bytes r.0.bytes ill.is_told r.0.is_told ill.few r.0.many)
        | inr r ↦ elim (refused_by laws taken input.kind r.1.bytes r.0 r.1.refuses) [
          | inl untyped ↦ inr (status_is answer r.0 status.IllTyped r.2 untyped.0)
          | inr other ↦ absurd (other.1 (same_untyped (before.told input.name) input.kind ill.bytes r.1.bytes ill.is_told r.1.is_told ill.untyped))
        ]
      ]
    ]
untyped_here laws job told taken (input ∷ rest) before after answer is here (inr (thing, between, loads, x)) =
    let ill = subst (λ t. IsUntyped t taken input) (sym is) here in
    let as_taken = taken_is taken input thing before between ill.bytes ill.is_told loads in
    absurd (not_untyped laws taken input.kind as_taken.bytes thing as_taken.reads
    (same_untyped (before.told input.name) input.kind ill.bytes as_taken.bytes ill.is_told as_taken.is_told ill.untyped))

done_here : (job : Option Job) (owed : Answer) (wanted : Status) (taken : List Thing) (rest : List Input) (before after : FilesSeen) (answer : Answer) → owed.status ≡ wanted →
    AtEnd (λ things. Does job things owed) taken rest → AnswersFrom job taken rest before after answer → IsOrOutside wanted answer before after
done_here job owed wanted taken [] before after answer is here x = inr (ap (λ (a : Answer). a.status) (one_doing job taken answer owed x.1 here) ∙ is)
done_here job owed wanted taken (input ∷ rest) before after answer is here x = absurd here

-- an answer that is owed with the status of a file that is too long shows one
long_ends : (job : Option Job) (told : Told) (answer : Answer) → answer.status ≡ status.TooLong → (taken : List Thing) (rest : List Input) →
    EndsWith job told answer taken rest → AtNext (λ taken input. IsTooLong told input) taken rest
long_ends job told answer is taken [] does = absurd (no_file job status.TooLong (subst (HasStatus job) is (does_status job taken answer does)) tt)
long_ends job told answer is taken (input ∷ rest) (inl long) = long.0
long_ends job told answer is taken (input ∷ rest) (inr (said, refused, said_is)) =
    absurd (text_is_not answer said status.TooLong said_is (refused_status taken input.kind refused.bytes said refused.refuses) is)

nothing_ends : FileLaws → (job : Option Job) (told : Told) (answer : Answer) → answer.status ≡ status.Form → (taken : List Thing) (rest : List Input) →
    EndsWith job told answer taken rest → AtNext (λ taken input. IsNothing told taken input) taken rest
nothing_ends laws job told answer is taken [] does = absurd (no_file job status.Form (subst (HasStatus job) is (does_status job taken answer does)) tt)
nothing_ends laws job told answer is taken (input ∷ rest) (inl long) =
    let has = long_is answer input.name long.1 in absurd (cc)
nothing_ends laws job told answer is taken (input ∷ rest) (inr (said, refused, said_is)) =
    elim (refused_by laws taken input.kind refused.bytes said refused.refuses) [
      | inl untyped ↦ let has = status_is answer said status.IllTyped said_is untyped.0 in absurd (cc)
      | inr other ↦ record {
        bytes = refused.bytes;
        is_told = refused.is_told;
        few = refused.few;
        nothing = λ thing reads. not_both laws taken input.kind refused.bytes thing said reads refused.refuses;
        not_untyped = other.1;
      }
    ]

untyped_ends : FileLaws → (job : Option Job) (told : Told) (answer : Answer) → answer.status ≡ status.IllTyped → (taken : List Thing) (rest : List Input) →
    EndsWith job told answer taken rest → AtNext (λ taken input. IsUntyped told taken input) taken rest
untyped_ends laws job told answer is taken [] does = absurd (no_file job status.IllTyped (subst (HasStatus job) is (does_status job taken answer does)) tt)
untyped_ends laws job told answer is taken (input ∷ rest) (inl long) =
    let has = long_is answer input.name long.1 in absurd (cc)
untyped_ends laws job told answer is taken (input ∷ rest) (inr (said, refused, said_is)) =
    elim (refused_by laws taken input.kind refused.bytes said refused.refuses) [
      | inl untyped ↦ record { bytes = refused.bytes; is_told = refused.is_told; few = refused.few; untyped = untyped.1 }
      | inr other ↦ let has = status_is answer said status.Form said_is other.0 in absurd (cc)
    ]

done_ends : (job : Option Job) (told : Told) (answer : Answer) → IsOfJob answer.status → (taken : List Thing) (rest : List Input) →
    EndsWith job told answer taken rest → AtEnd (λ things. Does job things answer) taken rest
done_ends job told answer is taken [] does = does
done_ends job told answer is taken (input ∷ rest) (inl long) = absurd (subst IsOfJob (long_is answer input.name long.1) is)
done_ends job told answer is taken (input ∷ rest) (inr (said, refused, said_is)) =
    of_job_or_text answer.status is (text_status answer said said_is (refused_status taken input.kind refused.bytes said refused.refuses))

-- the status that was given is the answer's, or something outside failed
pub given_is : (given : Status) (old new : SinkSeen) (answer : Answer) → Gives answer given old new → (given ≡ answer.status) ⊎ IsFromOutside given
given_is status.WriteFault old new answer gives = inr tt
given_is status.Memory old new answer gives = inr tt
given_is given old new answer gives = inl gives.whole.status_is

pub is_from_outside : (answer : Answer) (before after : FilesSeen) → IsOutside answer before after → IsFromOutside answer.status
is_from_outside answer before after (inl read) = subst IsFromOutside (sym read.0) tt
is_from_outside answer before after (inr memory) = subst IsFromOutside (sym (ap (λ (a : Answer). a.status) memory)) tt

comes : (wanted given : Status) (before after : FilesSeen) (old new : SinkSeen) (answer : Answer) → Gives answer given old new → IsOrOutside wanted answer before after → (given ≡ wanted) ⊎ IsFromOutside given
comes wanted given before after old new answer gives is = elim (given_is given old new answer gives) [
  | inr outside ↦ inr outside
  | inl same ↦ elim is [
    | inl outside ↦ inr (subst IsFromOutside (sym same) (is_from_outside answer before after outside))
    | inr has ↦ inl (same ∙ has)
  ]
]

-- a status that comes of nothing outside is the answer's, which was given whole
abbrev pub IsInside : Status → Type 0
IsInside status.ReadFault = ⊥
IsInside status.WriteFault = ⊥
IsInside status.Memory = ⊥
IsInside _ = Unit {0}

inside_or_not : (given : Status) → IsInside given → IsFromOutside given → ⊥
inside_or_not status.ReadFault x y = x
inside_or_not status.WriteFault x y = x
inside_or_not status.Memory x y = x
inside_or_not _ x y = y

whole_if_inside : (given : Status) (old new : SinkSeen) (answer : Answer) → IsInside given → Gives answer given old new → IsWhole answer given old new
whole_if_inside status.ReadFault old new answer inside gives = absurd inside
whole_if_inside status.WriteFault old new answer inside gives = absurd inside
whole_if_inside status.Memory old new answer inside gives = absurd inside
whole_if_inside given old new answer inside gives = gives.whole

-- an input that is not taken is not answered `usage`
stop_no_usage : (earlier : List Thing) (input : Input) (error : InputError) (before after : FilesSeen) → Came earlier input (Err error) before after → (answer_of_error error).status ≡ status.Usage → ⊥
stop_no_usage earlier input why.Memory before after came is = absurd (cc)
stop_no_usage earlier input (why.Fault said) before after (inl failed) is = let e = ap status_of_fault failed.said_is in absurd (cc)
stop_no_usage earlier input (why.Fault said) before after (inr (inl long)) is = let e = ap status_of_fault long.said_is in absurd (cc)
stop_no_usage earlier input (why.Fault said) before after (inr (inr refused)) is =
    absurd (subst IsOfText is (refused_status earlier input.kind refused.bytes said refused.refuses))

usage_only : (job : Option Job) (inputs : List Input) (earlier : List Thing) (before after : FilesSeen) (answer : Answer) → answer.status ≡ status.Usage →
    AnswersFrom job earlier inputs before after answer → job ≡ None
usage_only job [] earlier before after answer is x = is_usage job (subst (HasStatus job) is (does_status job earlier answer x.1))
usage_only job (input ∷ rest) earlier before after answer is (inl stop) =
    absurd (stop_no_usage earlier input stop.error before after stop.loads.came (sym (ap (λ (a : Answer). a.status) stop.answer_is) ∙ is))
usage_only job (input ∷ rest) earlier before after answer is (inr (thing, between, loads, x)) =
    usage_only job rest (earlier ++ thing ∷ []) between after answer is x

usage_comes : (job : Option Job) (before after : FilesSeen) (answer : Answer) → job ≡ None → AnswersFrom job [] (inputs_of job) before after answer → IsOrOutside status.Usage answer before after
usage_comes None before after answer is x = inr (ap (λ (a : Answer). a.status) x.1)
usage_comes (Some job) before after answer is x = absurd (cc)

module _ (laws : FileLaws) (job : Option Job) (before after : FilesSeen) (given : Status) (old new : SinkSeen) (x : Answered job before after given old new) where
  -- the answer is owed, with a status that comes of nothing outside
  owed_as : (wanted : Status) → IsInside wanted → given ≡ wanted → Tells job before.told → IsOwed job before.told x.answer × (x.answer.status ≡ wanted) × IsWhole x.answer given old new
  owed_as wanted inside is told =
      let whole = whole_if_inside given old new x.answer (subst IsInside (sym is) inside) x.gives in
      let has = sym whole.status_is ∙ is in
      elim (owed_from job (inputs_of job) [] before after x.answer x.answers told) [
        | inl outside ↦ absurd (inside_or_not wanted inside (subst IsFromOutside has (is_from_outside x.answer before after outside)))
        | inr owed ↦ (owed, has, whole)
      ]

  long_row : LongComes job before.told given
  long_row = record {
    comes = λ long.
        comes status.TooLong given before after old new x.answer x.gives
        (at_arrival laws job (AtNext (λ taken input. IsTooLong before.told input)) status.TooLong before after x.answer
        (λ taken rest between. long_here job before.told taken rest between after x.answer) long x.answers);
    only = λ told is.
        let owed = owed_as status.TooLong tt is told in
        reaches_map before.told (EndsWith job before.told x.answer) (AtNext (λ taken input. IsTooLong before.told input)) (long_ends job before.told x.answer owed.1) (inputs_of job) [] owed.0;
  }

  form_row : FormComes job before.told given
  form_row = record {
    comes = λ none.
        comes status.Form given before after old new x.answer x.gives
        (at_arrival laws job (AtNext (λ taken input. IsNothing before.told taken input)) status.Form before after x.answer
        (λ taken rest between. nothing_here laws job before.told taken rest between after x.answer) none x.answers);
    only = λ told is.
        let owed = owed_as status.Form tt is told in
        reaches_map before.told (EndsWith job before.told x.answer) (AtNext (λ taken input. IsNothing before.told taken input)) (nothing_ends laws job before.told x.answer owed.1) (inputs_of job) [] owed.0;
  }

  ill_typed_row : IllTypedComes job before.told given
  ill_typed_row = record {
    comes = λ untyped.
        comes status.IllTyped given before after old new x.answer x.gives
        (at_arrival laws job (AtNext (λ taken input. IsUntyped before.told taken input)) status.IllTyped before after x.answer
        (λ taken rest between. untyped_here laws job before.told taken rest between after x.answer) untyped x.answers);
    only = λ told is.
        let owed = owed_as status.IllTyped tt is told in
        reaches_map before.told (EndsWith job before.told x.answer) (AtNext (λ taken input. IsUntyped before.told taken input)) (untyped_ends laws job before.told x.answer owed.1) (inputs_of job) [] owed.0;
  }

  done_row : (wanted : Status) → IsInside wanted → IsOfJob wanted → DoneComes wanted job before.told given old new
  done_row wanted inside of_job = record {
    comes = λ done.
        comes wanted given before after old new x.answer x.gives
        (at_arrival laws job (AtEnd (λ things. Does job things done.0)) wanted before after x.answer
        (λ taken rest between told. done_here job done.0 wanted taken rest between after x.answer done.2) done.1 x.answers);
    only = λ told is.
        let owed = owed_as wanted inside is told in (
          x.answer,
          reaches_map before.told (EndsWith job before.told x.answer) (AtEnd (λ things. Does job things x.answer)) (done_ends job before.told x.answer (subst IsOfJob (sym owed.1) of_job)) (inputs_of job) [] owed.0,
          owed.2,
        );
  }

  usage_row : UsageComes job given
  usage_row = record {
    comes = λ none. comes status.Usage given before after old new x.answer x.gives (usage_comes job before after x.answer none x.answers);
    only = λ _ is.
        let whole = whole_if_inside given old new x.answer (subst IsInside (sym is) tt) x.gives in
        usage_only job (inputs_of job) [] before after x.answer (sym whole.status_is ∙ is) x.answers;
  }

  pub statuses : StatusesCome job before.told given old new
  statuses = record {
    usage = usage_row;
    long = long_row;
    form = form_row;
    ill_typed = ill_typed_row;
    out_of_calls = done_row status.Out tt tt;
    failed = done_row status.Failed tt tt;
    ok = done_row status.Ok tt tt;
  }
