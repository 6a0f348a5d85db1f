-- A text to which pieces were pushed, one behind the other, ends with the pieces joined.
use Rattle.std.proofs.Common.{◌≡◌, ◌∙◌, ℕ, List, [], ◌∷◌, ◌++◌, ap, sym, append_assoc, append-nil}
use Rattle.std.specs.Prelude.{Result, Ok, Err, OnOk}
use Rattle.kat_tree.specs.Lexeme.{joined}

-- each piece was pushed, and made the text that the next was pushed to
abbrev pub ArePushed : List ℕ → List (List ℕ) → List ℕ → Type 0
ArePushed old [] new = new ≡ old
ArePushed old (piece ∷ pieces) new =
    (middle : List ℕ) × (middle ≡ old ++ piece) × ArePushed middle pieces new

ends_with : (pieces : List (List ℕ)) (old new : List ℕ) → ArePushed old pieces new
    → new ≡ old ++ joined pieces
ends_with [] old new is = is ∙ sym (append-nil old)
ends_with (piece ∷ pieces) old new are =
    ends_with pieces are.0 new are.2
    ∙ ap (λ l. l ++ joined pieces) are.1 ∙ append_assoc old piece (joined pieces)

-- where the last push may have failed
pub pushed : {T E : Type 0} {P : Type 0} (result : Result T E) (pieces : List (List ℕ))
    (old new : List ℕ) → OnOk result P → (P → ArePushed old pieces new)
    → OnOk result (new ≡ old ++ joined pieces)
pushed (Ok value) pieces old new last are = ends_with pieces old new (are last)
pushed (Err error) pieces old new last are = last
