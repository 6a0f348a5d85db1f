-- The answer that is owed is one, and it is given.
use Rattle.std.proofs.Common.{◌≡◌, ℕ, ◌⊎◌, inl, inr, List, [], ◌∷◌, ◌++◌, Option, Some, refl, ap, sym, subst, ◌∙◌}
use Rattle.std.proofs.Math.Seq.{take-nil}
use Rattle.kat_io.specs.Contents.{with_bytes}
use Rattle.kat_io.specs.Counts.{Rose}
use Rattle.kat_io.specs.Seen.{FilesSeen, SinkSeen}
use Rattle.kat_words.specs.declared.asked.Job.{Job}
use Rattle.kat_top.specs.declared.status.Status.{Status}
use Rattle.kat_top.specs.declared.status.Status.TheVariants as status
use Rattle.kat_top.specs.Answers.{Answer, out_of_memory, IsWhole, Gives}
use Rattle.kat_top.specs.Complete.{IsComplete}
use Rattle.kat_top.specs.FileLaws.{FileLaws}
use Rattle.kat_top.specs.Given.{AnswersFrom, Answered}
use Rattle.kat_top.specs.Inputs.{Input, Thing}
use Rattle.kat_top.specs.Jobs.{inputs_of}
use Rattle.kat_top.specs.Judging.{Told}
use Rattle.kat_top.specs.Owed.{RefusedWith, EndsWith, IsOwedFrom, IsOwed}
use Rattle.kat_top.proofs.Doing.{one_doing}
use Rattle.kat_top.proofs.Following.{follows, owed_from}
use Rattle.kat_top.proofs.Outside.{IsOutside, outside_before, stop_is, taken_is, same_thing, not_refused, refused_once}

pub one_from : FileLaws → (job : Option Job) (told : Told) (inputs : List Input) (earlier : List Thing) (a b : Answer) →
    IsOwedFrom job told a earlier inputs → IsOwedFrom job told b earlier inputs → a ≡ b
one_from laws job told [] earlier a b x y = one_doing job earlier a b x y
one_from laws job told (input ∷ rest) earlier a b (inl x) (inl y) = refused_once laws told earlier input a b x y
one_from laws job told (input ∷ rest) earlier a b (inl x) (inr (thing, taken, further)) = absurd (not_refused laws told earlier input thing a taken x)
one_from laws job told (input ∷ rest) earlier a b (inr (thing, taken, further)) (inl y) = absurd (not_refused laws told earlier input thing b taken y)
one_from laws job told (input ∷ rest) earlier a b (inr (thing, taken, further)) (inr (other, too, on)) =
    let same = same_thing laws told earlier input other thing too taken in
    one_from laws job told rest (earlier ++ thing ∷ []) a b further (subst (λ t. IsOwedFrom job told b (earlier ++ t ∷ []) rest) same on)

-- a file whose refusal is owed tells its bytes
told_of : (told : Told) (taken : List Thing) (input : Input) (owed : Answer) → RefusedWith told owed taken input → (bytes : List ℕ) × (told input.name ≡ Some bytes)
told_of told taken input owed (inl long) = (long.0.bytes, long.0.is_told)
told_of told taken input owed (inr (said, refused, is)) = (refused.bytes, refused.is_told)

-- where the judging ends, the call answers so
ends_here : FileLaws → (job : Option Job) (told : Told) (owed : Answer) (taken : List Thing) (rest : List Input) (before after : FilesSeen) (answer : Answer) →
    before.told ≡ told → EndsWith job told owed taken rest → AnswersFrom job taken rest before after answer → IsOutside answer before after ⊎ (answer ≡ owed)
ends_here laws job told owed taken [] before after answer is here x = inr (one_doing job taken answer owed x.1 here)
ends_here laws job told owed taken (input ∷ rest) before after answer is here (inl stop) =
    let refused = subst (λ t. EndsWith job t owed taken (input ∷ rest)) (sym is) here in
    let found = told_of before.told taken input owed refused in
    elim (stop_is taken input before after answer found.0 found.1 stop) [
      | inl outside ↦ inl outside
      | inr r ↦ inr (refused_once laws before.told taken input answer owed r refused)
    ]
ends_here laws job told owed taken (input ∷ rest) before after answer is here (inr (thing, between, loads, x)) =
    let refused = subst (λ t. EndsWith job t owed taken (input ∷ rest)) (sym is) here in
    let found = told_of before.told taken input owed refused in
    absurd (not_refused laws before.told taken input thing owed (taken_is taken input thing before between found.0 found.1 loads) refused)

pub owed_given : FileLaws → (job : Option Job) (before after : FilesSeen) (owed answer : Answer) → IsOwed job before.told owed →
    AnswersFrom job [] (inputs_of job) before after answer → IsOutside answer before after ⊎ (answer ≡ owed)
owed_given laws job before after owed answer is x =
    elim (follows laws job (EndsWith job before.told owed) (inputs_of job) [] before after answer is x) [
      | inl outside ↦ inl outside
      | inr a ↦ elim (ends_here laws job before.told owed a.taken a.rest a.between after answer a.told a.here a.answers) [
        | inl outside ↦ inl (outside_before answer before a.between after a.faults outside)
        | inr same ↦ inr same
      ]
    ]

-- memory ran out, and nothing was written: a prefix of each text
wanting : (given : Status) (old new : SinkSeen) (answer : Answer) → Gives out_of_memory given old new → Gives answer given old new
wanting status.WriteFault old new answer gives = record {
  prefix = (0, gives.prefix.1 ∙ ap (with_bytes old.contents) (take-nil gives.prefix.0));
  whole = tt;
  unwritten = gives.unwritten;
  faults = gives.faults;
}
wanting status.Memory old new answer gives = record {
  prefix = (0, gives.prefix.1 ∙ ap (with_bytes old.contents) (take-nil gives.prefix.0));
  whole = tt;
  unwritten = gives.unwritten;
  faults = gives.faults;
}
wanting given old new answer gives = let e = gives.whole.status_is in absurd (cc)

-- an answer that was given where no write failed was given whole, or memory ran out
given_whole : (given : Status) (old new : SinkSeen) (answer : Answer) → (Rose old.faults new.faults → ⊥) → Gives answer given old new →
    (given ≡ status.Memory) ⊎ IsWhole answer given old new
given_whole status.WriteFault old new answer calm gives = absurd (calm gives.unwritten)
given_whole status.Memory old new answer calm gives = inl refl
given_whole given old new answer calm gives = inr gives.whole

-- want of memory is given as that
given_memory : (given : Status) (old new : SinkSeen) (answer : Answer) → answer ≡ out_of_memory → (given ≡ status.Memory) ⊎ IsWhole answer given old new → given ≡ status.Memory
given_memory given old new answer is (inl memory) = memory
given_memory given old new answer is (inr whole) = whole.status_is ∙ ap (λ (a : Answer). a.status) is

pub complete : FileLaws → (job : Option Job) (before after : FilesSeen) (given : Status) (old new : SinkSeen) → Answered job before after given old new → IsComplete job before after given old new
complete laws job before after given old new x = record {
  whole = λ told calm written.
      let gave = given_whole given old new x.answer written x.gives in
      elim (owed_from job (inputs_of job) [] before after x.answer x.answers told) [
        | inl outside ↦ elim outside [
          | inl read ↦ absurd (calm read.1)
          | inr memory ↦ inl (given_memory given old new x.answer memory gave)
        ]
        | inr owed ↦ elim gave [ inl memory ↦ inl memory | inr whole ↦ inr (x.answer, owed, whole) ]
      ];
  owed = λ answer is calm.
      elim (owed_given laws job before after answer x.answer is x.answers) [
        | inl outside ↦ elim outside [
          | inl read ↦ absurd (calm read.1)
          | inr memory ↦ wanting given old new answer (subst (λ a. Gives a given old new) memory x.gives)
        ]
        | inr same ↦ subst (λ a. Gives a given old new) same x.gives
      ];
}
