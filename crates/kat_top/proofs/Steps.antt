-- The steps of a job: an input was taken, it was not, or all were.
use Rattle.std.proofs.Common.{◌≡◌, inl, inr, List, [], ◌∷◌, ◌++◌, Option, Result, Ok, Err, refl, subst}
use Rattle.kat_io.specs.Seen.{FilesSeen, SinkSeen}
use Rattle.kat_words.specs.declared.asked.Job.{Job}
use Rattle.kat_top.specs.declared.inputs.InputError.{InputError}
use Rattle.kat_top.specs.declared.status.Status.{Status}
use Rattle.kat_top.specs.Answers.{Answer, answer_of_error, Gives}
use Rattle.kat_top.specs.Given.{AnsweredFrom}
use Rattle.kat_top.specs.Inputs.{Name, Kind, Input, Thing}
use Rattle.kat_top.specs.Jobs.{Does, input}
use Rattle.kat_top.specs.Loading.{Loads}

-- the same of a name that is another's
pub named : {earlier : List Thing} {kind : Kind} {a b : Name} {outcome : Result Thing InputError} {before after : FilesSeen} →
    a ≡ b → Loads earlier (input kind a) outcome before after → Loads earlier (input kind b) outcome before after
named {earlier = earlier} {kind = kind} {outcome = outcome} {before = before} {after = after} same loads =
    subst (λ n. Loads earlier (input kind n) outcome before after) same loads

-- an input was taken, and the answer is that of what follows
pub goes_on : {job : Option Job} {earlier : List Thing} {input : Input} {rest : List Input} {thing : Thing} {before between after : FilesSeen} {given : Status} {old new : SinkSeen} →
    Loads earlier input (Ok thing) before between → AnsweredFrom job (earlier ++ thing ∷ []) rest between after given old new →
    AnsweredFrom job earlier (input ∷ rest) before after given old new
goes_on {thing = thing} {between = between} loads next = record { answer = next.answer; answers = inr (thing, between, loads, next.answers); gives = next.gives }

-- an input was not taken
pub stops : {job : Option Job} {earlier : List Thing} {input : Input} {rest : List Input} {error : InputError} {before after : FilesSeen} {given : Status} {old new : SinkSeen} →
    Loads earlier input (Err error) before after → Gives (answer_of_error error) given old new →
    AnsweredFrom job earlier (input ∷ rest) before after given old new
stops {error = error} loads gives =
    record { answer = answer_of_error error; answers = inl (record { error = error; loads = loads; answer_is = refl }); gives = gives }

-- all were taken
pub done : {job : Option Job} {taken : List Thing} {seen : FilesSeen} {given : Status} {old new : SinkSeen} (answer : Answer) →
    Does job taken answer → Gives answer given old new → AnsweredFrom job taken [] seen seen given old new
done answer does gives = record { answer = answer; answers = (refl, does); gives = gives }
