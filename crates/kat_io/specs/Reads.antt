-- What a read does to the vector that it is lent.
use Rattle.std.specs.Prelude.{ℕ, ◌≡◌, ◌≤◌, List, ◌++◌, length, Option, IfSome}

-- the vector has gained bytes at its end: at most limit, and those that are told where they are
abbrev pub Appends : Option (List ℕ) → ℕ → List ℕ → List ℕ → Type 0
Appends told limit old new =
    (bytes : List ℕ) × (new ≡ old ++ bytes) × (length bytes ≤ limit) × IfSome told (λ t. bytes ≡ t)
