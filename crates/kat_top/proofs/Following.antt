-- A call goes the way of the judging: it comes to each point that the judging comes to, or
-- something outside failed.
use Rattle.std.proofs.Common.{◌≡◌, ◌≤◌, ◌⊎◌, inl, inr, List, [], ◌∷◌, ◌++◌, Option, refl, sym, subst, ◌∙◌, arith}
use Rattle.kat_io.specs.Seen.{FilesSeen}
use Rattle.kat_words.specs.declared.asked.Job.{Job}
use Rattle.kat_top.specs.Answers.{Answer}
use Rattle.kat_top.specs.FileLaws.{FileLaws}
use Rattle.kat_top.specs.Given.{AnswersFrom}
use Rattle.kat_top.specs.Inputs.{Input, Thing}
use Rattle.kat_top.specs.Judging.{Told, Reaches, AreTold}
use Rattle.kat_top.specs.Owed.{IsOwedFrom}
use Rattle.kat_top.proofs.Outside.{IsOutside, outside_before, some_bytes, taken_is, stop_is, same_thing, not_refused}

-- what holds where the judging comes holds where it comes
pub reaches_map : (told : Told) (P Q : List Thing → List Input → Type 0) → ((taken : List Thing) (rest : List Input) → P taken rest → Q taken rest) →
    (inputs : List Input) (earlier : List Thing) → Reaches told P earlier inputs → Reaches told Q earlier inputs
reaches_map told P Q f [] earlier x = f earlier [] x
reaches_map told P Q f (input ∷ rest) earlier (inl x) = inl (f earlier (input ∷ rest) x)
reaches_map told P Q f (input ∷ rest) earlier (inr (thing, taken, x)) = inr (thing, taken, reaches_map told P Q f rest (earlier ++ thing ∷ []) x)

-- the call came to a point where P holds, and goes on from there
pub record Arrives (job : Option Job) (P : List Thing → List Input → Type 0) (before after : FilesSeen) (answer : Answer) : Type 0 where
  pub taken : List Thing
  pub rest : List Input
  pub between : FilesSeen
  pub told : between.told ≡ before.told
  pub faults : before.faults ≤ between.faults
  pub here : P taken rest
  pub answers : AnswersFrom job taken rest between after answer

arrives_before : (job : Option Job) (P : List Thing → List Input → Type 0) (before between after : FilesSeen) (answer : Answer) →
    between.told ≡ before.told → before.faults ≤ between.faults → Arrives job P between after answer → Arrives job P before after answer
arrives_before job P before between after answer told faults x = record {
  taken = x.taken;
  rest = x.rest;
  between = x.between;
  told = x.told ∙ told;
  faults = (let le = x.faults in omega arith);
  here = x.here;
  answers = x.answers;
}

pub follows : FileLaws → (job : Option Job) (P : List Thing → List Input → Type 0) (inputs : List Input) (earlier : List Thing) (before after : FilesSeen) (answer : Answer) →
    Reaches before.told P earlier inputs → AnswersFrom job earlier inputs before after answer → IsOutside answer before after ⊎ Arrives job P before after answer
follows laws job P [] earlier before after answer here x =
    inr (record { taken = earlier; rest = []; between = before; told = refl; faults = omega arith; here = here; answers = x })
follows laws job P (input ∷ rest) earlier before after answer (inl here) x =
    inr (record { taken = earlier; rest = input ∷ rest; between = before; told = refl; faults = omega arith; here = here; answers = x })
follows laws job P (input ∷ rest) earlier before after answer (inr (thing, taken, further)) (inl stop) =
    elim (stop_is earlier input before after answer taken.bytes taken.is_told stop) [
      | inl outside ↦ inl outside
      | inr refused ↦ absurd (not_refused laws before.told earlier input thing answer taken refused)
    ]
follows laws job P (input ∷ rest) earlier before after answer (inr (thing, taken, further)) (inr (other, between, loads, x)) =
    let same = same_thing laws before.told earlier input thing other taken (taken_is earlier input other before between taken.bytes taken.is_told loads) in
    let on = subst (λ t. Reaches before.told P (earlier ++ t ∷ []) rest) same further in
    let on_between = subst (λ t. Reaches t P (earlier ++ other ∷ []) rest) (sym loads.kept.told) on in
    elim (follows laws job P rest (earlier ++ other ∷ []) between after answer on_between x) [
      | inl outside ↦ inl (outside_before answer before between after loads.kept.faults outside)
      | inr arrives ↦ inr (arrives_before job P before between after answer loads.kept.told loads.kept.faults arrives)
    ]

-- the answer that was given is owed, or something outside failed
pub owed_from : (job : Option Job) (inputs : List Input) (earlier : List Thing) (before after : FilesSeen) (answer : Answer) → AnswersFrom job earlier inputs before after answer →
    AreTold before.told earlier inputs → IsOutside answer before after ⊎ IsOwedFrom job before.told answer earlier inputs
owed_from job [] earlier before after answer x are = inr x.1
owed_from job (input ∷ rest) earlier before after answer (inl stop) are =
    let found = some_bytes (before.told input.name) (are input.name (inl refl)) in
    elim (stop_is earlier input before after answer found.0 found.1 stop) [ inl o ↦ inl o | inr r ↦ inr (inl r) ]
owed_from job (input ∷ rest) earlier before after answer (inr (thing, between, loads, x)) are =
    let found = some_bytes (before.told input.name) (are input.name (inl refl)) in
    let taken = taken_is earlier input thing before between found.0 found.1 loads in
    let are_on : AreTold before.told (earlier ++ thing ∷ []) rest = λ name asked. are name (inr (thing, taken, asked)) in
    let are_between = subst (λ t. AreTold t (earlier ++ thing ∷ []) rest) (sym loads.kept.told) are_on in
    elim (owed_from job rest (earlier ++ thing ∷ []) between after answer x are_between) [
      | inl outside ↦ inl (outside_before answer before between after loads.kept.faults outside)
      | inr owed ↦ inr (inr (thing, taken, subst (λ t. IsOwedFrom job t answer (earlier ++ thing ∷ []) rest) loads.kept.told owed))
    ]
