-- Lists of texts in brackets.
use Rattle.std.specs.Prelude.{ℕ, List, [], ◌∷◌, ◌++◌}
use Rattle.kat_tree.specs.Written.{spaced}

-- a list of these parts
abbrev pub bracketed : List (List ℕ) → List ℕ
bracketed parts = 40 ∷ (spaced parts ++ 41 ∷ [])

-- a list with its first word
abbrev pub listed : List ℕ → List (List ℕ) → List ℕ
listed head parts = bracketed (head ∷ parts)
