-- Names in a row, each the list of its bytes.
use Rattle.std.specs.Prelude.{◌≢◌, ◌≤◌, ◌^◌, ℕ, List, Option, AllPairs, length, position}
use Rattle.std.specs.Str.{bytes_eq}

-- each position is a `u32`, so at most this many names stand in a table
abbrev pub most_names : ℕ
most_names = 2 ^ 32

-- the position of a name, counted from 0, or `None` where it does not stand
abbrev pub position_of : List (List ℕ) → List ℕ → Option ℕ
position_of names name = position (bytes_eq name) names

-- no name stands at two positions
abbrev pub AllDiffer : List (List ℕ) → Type 0
AllDiffer names = AllPairs (λ earlier later. earlier ≢ later) names

-- what every table keeps: its names differ, and each position is a `u32`
pub record IsTable (names : List (List ℕ)) : Type 0 where
  pub distinct : AllDiffer names
  pub fits : length names ≤ most_names
