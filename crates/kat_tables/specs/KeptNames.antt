-- Names that are kept with the number of their meaning, and what each is.
use Rattle.std.specs.Prelude.{◌≡◌, ◌⊎◌, ℕ, ◌<◌, List, [], ◌∷◌, ◌++◌, map, get_or}
use Rattle.std.specs.List.{AllByRecursion}
use Rattle.std.specs.Borrow.{Bor}
use Rattle.kat_syntax.specs.Tables.{Name}
use Rattle.kat_tables.specs.Entries.{Entries}
use Rattle.kat_tables.specs.declared.placed.Kept.{Kept}
use Rattle.kat_tables.specs.declared.placed.Meaning.{Meaning}
use Rattle.kat_tables.specs.declared.placed.Meaning.TheVariants.{AType}
use Rattle.kat_tables.specs.declared.placed.Placed.{Placed}

-- what a kept name is, with its meaning among these
abbrev pub placed_by : List Meaning → Kept → Placed
placed_by meanings one = record { at = one.at; meaning = get_or meanings one.meaning AType }

-- what kept names are, with their meanings among these
abbrev pub all_placed : List Meaning → Entries Kept → Entries Placed
all_placed meanings kept = map (λ (one : Bor Name × Kept). (one.0, placed_by meanings one.1)) kept

-- kept names, each with a number below this count
abbrev pub AreBelow : ℕ → Entries Kept → Type 0
AreBelow count kept = AllByRecursion (λ (one : Bor Name × Kept). one.1.meaning < count) kept

-- meanings that are these, or these with one more
abbrev pub HasAtMost : List Meaning → Meaning → List Meaning → Type 0
HasAtMost before one now = (now ≡ before) ⊎ (now ≡ before ++ one ∷ [])
