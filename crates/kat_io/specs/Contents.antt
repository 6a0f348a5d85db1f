-- What a sink holds, where that is told.
use Rattle.std.specs.Prelude.{ℕ, ◌≡◌, List, ◌++◌, take, Option}
use Rattle.std.specs.Option.{option_map}

-- contents that are told, with these bytes at their end
abbrev pub with_bytes : Option (List ℕ) → List ℕ → Option (List ℕ)
with_bytes held piece = option_map (λ old. old ++ piece) held

-- the contents grew by a prefix of the piece
abbrev pub Grew : Option (List ℕ) → Option (List ℕ) → List ℕ → Type 0
Grew old new piece = (n : ℕ) × (new ≡ with_bytes old (take n piece))
