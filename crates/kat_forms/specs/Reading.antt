-- What the readers answer.
use Rattle.std.specs.Prelude.{◌≡◌, Result, Ok, Err}
use Rattle.kat_shapes.specs.declared.misfit.Misfit.{Misfit}
use Rattle.kat_forms.specs.declared.error.FormError.{FormError}
use Rattle.kat_forms.specs.declared.error.FormError.TheVariants.{Wanted, Memory}
pub use Rattle.kat_grammar.specs.Described.{DescribesDecl, IsFirstMisfit, IsFirstMisfitOfDecl}

-- an error names this misfit; want of memory names none
abbrev pub Names : FormError → (Misfit → Type 0) → Type 0
Names (Wanted place wanted) is = is (record { place = place; wanted = wanted })
Names Memory is = Unit {0}

-- the answer is this, or memory ran out
abbrev pub Gives : {A : Type 0} → Result A FormError → A → Type 0
Gives (Ok read) owed = read ≡ owed
Gives (Err (Wanted place wanted)) owed = ⊥
Gives (Err Memory) owed = Unit {0}

-- the answer is this misfit, or memory ran out
abbrev pub GivesMisfit : {A : Type 0} → Result A FormError → Misfit → Type 0
GivesMisfit (Ok read) owed = ⊥
GivesMisfit (Err (Wanted place wanted)) owed = owed ≡ record { place = place; wanted = wanted }
GivesMisfit (Err Memory) owed = Unit {0}
