-- The reads are those of the names that are asked for.
use Rattle.std.proofs.Common.{◌≡◌, ℕ, ◌⊎◌, inl, inr, List, [], ◌∷◌, ◌++◌, map, Option, Err, refl, ap, sym, subst, ◌∙◌, append_assoc}
use Rattle.std.proofs.lemmas.List.{append-nil}
use Rattle.kat_io.specs.Seen.{FilesSeen, SinkSeen}
use Rattle.kat_words.specs.declared.asked.Job.{Job}
use Rattle.kat_top.specs.declared.inputs.InputError.{InputError}
use Rattle.kat_top.specs.declared.inputs.InputError.TheVariants as why
use Rattle.kat_top.specs.declared.status.Status.{Status}
use Rattle.kat_top.specs.Answers.{Answer, answer_of_error}
use Rattle.kat_top.specs.Causes.{IsFromOutside}
use Rattle.kat_top.specs.Given.{AnswersFrom, Answered, ReadsMade}
use Rattle.kat_top.specs.Inputs.{Name, Input, Thing}
use Rattle.kat_top.specs.Jobs.{inputs_of}
use Rattle.kat_top.specs.Judging.{Told, AreTold, IsEnd, AreAsked, names_of, names_behind}
use Rattle.kat_top.specs.Loading.{IsNotedFor, read_of}
use Rattle.kat_top.specs.Owed.{RefusedWith}
use Rattle.kat_top.proofs.Causes.{reads_from}
use Rattle.kat_top.proofs.Following.{reaches_map}
use Rattle.kat_top.proofs.Outside.{IsOutside, outside_before, some_bytes, taken_is, stop_is}
use Rattle.kat_top.proofs.Rows.{given_is, is_from_outside}

-- the reads that were added are those of names that are asked for
abbrev pub ReadsAsked : Told → List Thing → List Input → List (Name × ℕ) → List (Name × ℕ) → Type 0
ReadsAsked told earlier inputs old new = (names : List Name) × AreAsked told earlier inputs names × (new ≡ old ++ map read_of names)

ends_judging : (told : Told) (earlier : List Thing) (input : Input) (rest : List Input) (answer : Answer) → RefusedWith told answer earlier input → IsEnd told earlier (input ∷ rest)
ends_judging told earlier input rest answer (inl long) = inl long.0
ends_judging told earlier input rest answer (inr (said, refused, is)) = inr (said, refused)

-- an input that was not taken: its read was noted, or memory ran out
stop_noted : (input : Input) (error : InputError) (old new : List (Name × ℕ)) → IsNotedFor {T = Thing} (Err error) old new input.name →
    (error ≡ why.Memory) ⊎ (new ≡ old ++ read_of input.name ∷ [])
stop_noted input (why.Fault said) old new x = inr x
stop_noted input why.Memory old new x = inl refl

asked_from : (job : Option Job) (inputs : List Input) (earlier : List Thing) (before after : FilesSeen) (answer : Answer) → AnswersFrom job earlier inputs before after answer →
    AreTold before.told earlier inputs → IsOutside answer before after ⊎ ReadsAsked before.told earlier inputs before.reads after.reads
asked_from job [] earlier before after answer x are = inr ([], (tt, refl), ap (λ (s : FilesSeen). s.reads) x.0 ∙ sym (append-nil before.reads))
asked_from job (input ∷ rest) earlier before after answer (inl stop) are =
    let found = some_bytes (before.told input.name) (are input.name (inl refl)) in
    elim (stop_is earlier input before after answer found.0 found.1 stop) [
      | inl outside ↦ inl outside
      | inr refused ↦ elim (stop_noted input stop.error before.reads after.reads stop.loads.noted) [
        | inl memory ↦ inl (inr (stop.answer_is ∙ ap answer_of_error memory))
        | inr noted ↦ inr (input.name ∷ [], inl (ends_judging before.told earlier input rest answer refused, refl), noted)
      ]
    ]
asked_from job (input ∷ rest) earlier before after answer (inr (thing, between, loads, x)) are =
    let found = some_bytes (before.told input.name) (are input.name (inl refl)) in
    let taken = taken_is earlier input thing before between found.0 found.1 loads in
    let are_on : AreTold before.told (earlier ++ thing ∷ []) rest = λ name asked. are name (inr (thing, taken, asked)) in
    let are_between = subst (λ t. AreTold t (earlier ++ thing ∷ []) rest) (sym loads.kept.told) are_on in
    elim (asked_from job rest (earlier ++ thing ∷ []) between after answer x are_between) [
      | inl outside ↦ inl (outside_before answer before between after loads.kept.faults outside)
      | inr r ↦ inr (
        input.name ∷ r.0,
        inr (
          thing,
          taken,
          reaches_map before.told
              (λ things left. IsEnd before.told things left × (names_of rest ≡ r.0 ++ names_behind left))
              (λ things left. IsEnd before.told things left × (names_of (input ∷ rest) ≡ (input.name ∷ r.0) ++ names_behind left))
              (λ things left both. (both.0, ap (λ l. input.name ∷ l) both.1)) rest (earlier ++ thing ∷ [])
              (subst (λ t. AreAsked t (earlier ++ thing ∷ []) rest r.0) loads.kept.told r.1),
        ),
        r.2 ∙ ap (λ l. l ++ map read_of r.0) loads.noted ∙ append_assoc before.reads (read_of input.name ∷ []) (map read_of r.0),
      )
    ]

module _ (job : Option Job) (before after : FilesSeen) (given : Status) (old new : SinkSeen) (x : Answered job before after given old new) where
  outside_given : IsOutside x.answer before after → IsFromOutside given
  outside_given outside = elim (given_is given old new x.answer x.gives) [
    | inl same ↦ subst IsFromOutside (sym same) (is_from_outside x.answer before after outside)
    | inr is ↦ is
  ]

  pub reads : ReadsMade job before after given
  reads = record {
    first = reads_from job (inputs_of job) [] before after x.answer x.answers;
    asked = λ told. elim (asked_from job (inputs_of job) [] before after x.answer x.answers told) [
      | inl outside ↦ inl (outside_given outside)
      | inr asked ↦ inr asked
    ];
  }
