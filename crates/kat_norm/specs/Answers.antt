-- What an answer of the code says on the way to a normal form.
use Rattle.std.specs.Prelude.{◌≡◌, ℕ, Option, Some, None, Result, Ok, Err, ⊤}
use Rattle.kat_term.specs.declared.kind.Kind.{Kind}
use Rattle.kat_term.specs.declared.kind.Kind.TheVariants as kind
use Rattle.kat_term.specs.declared.prover.NormError.{NormError}
use Rattle.kat_term.specs.declared.prover.NormError.TheVariants as error
use Rattle.kat_norm.specs.Norm.{Normed, Done, Past}

-- an error is of this limit; want of memory says nothing
abbrev pub FailsBy : {A : Type 0} → NormError → Normed A → Type 0
FailsBy error.Nodes normed = normed ≡ Past kind.Nodes
FailsBy error.Depth normed = normed ≡ Past kind.Depth
FailsBy error.Rules normed = normed ≡ Past kind.Rules
FailsBy error.Memory normed = ⊤

-- the answer is what was to come, with so many rules left
abbrev pub Answers : {A : Type 0} → Result A NormError → ℕ → Normed A → Type 0
Answers (Ok normal) left normed = normed ≡ Done normal left
Answers (Err e) left normed = FailsBy e normed

-- an error is exactly of this limit on a term's size
abbrev pub IsOfSize : NormError → Option Kind → Type 0
IsOfSize error.Nodes limit = limit ≡ Some kind.Nodes
IsOfSize error.Depth limit = limit ≡ Some kind.Depth
IsOfSize error.Rules limit = ⊥
IsOfSize error.Memory limit = ⊥

-- the answer is the limit on its size that a term passes
abbrev pub TellsSize : {A : Type 0} → Result A NormError → Option Kind → Type 0
TellsSize (Ok _) limit = limit ≡ None
TellsSize (Err e) limit = IsOfSize e limit
