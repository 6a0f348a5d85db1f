-- How far a search for a known atom comes.
use Rattle.std.specs.Prelude.{◌≡◌, ◌+◌, ℕ, zero, suc, List, [], ◌∷◌, Option, Some, None}
use Rattle.kat_term.specs.declared.term.Term.{Term}

-- the one at a place, or the places that are left behind the list's end
pub data Picked (A : Type 0) : Type 0 where
  At : (found : A) → Picked A
  Behind : (rest : ℕ) → Picked A

-- what stands at a place of a list
abbrev pub picked : {A : Type 0} → List A → ℕ → Picked A
picked [] n = Behind n
picked (x ∷ xs) zero = At x
picked (x ∷ xs) (suc n) = picked xs n

-- an answer is the one at the place, and else so many places are left
abbrev pub Picks : {A : Type 0} → Option A → ℕ → Picked A → Type 0
Picks (Some found) rest place = place ≡ At found
Picks None rest place = place ≡ Behind rest

-- what follows a replacement: its normal form and all places again; where there is none, the term
-- as it was, and one place more is passed
abbrev pub Follows : Option Term → Term → Term → ℕ → ℕ → Type 0
Follows (Some normal) current next passed more = (next ≡ normal) × (more ≡ 0)
Follows None current next passed more = (next ≡ current) × (more ≡ passed + 1)
