-- A writer that takes a piece in turns.
use Rattle.std.proofs.Common.{ℕ, ◌+◌, List, ◌++◌, take, drop, Option, None, Some, sym, ap, ◌∙◌, append_assoc}
use Rattle.std.proofs.Math.Seq.{take-add}
use Rattle.std.specs.Io.KnownBytes.{Appends}

-- the front, and then some of the rest
pub Appends-more : (a b d : Option (List ℕ)) (piece : List ℕ) (m n : ℕ) →
    Appends a b (take m piece) → Appends b d (take n (drop m piece)) →
    Appends a d (take (m + n) piece)
Appends-more None b d piece m n first second = tt
Appends-more (Some xs) None d piece m n first second = absurd first
Appends-more (Some xs) (Some ys) None piece m n first second = absurd second
Appends-more (Some xs) (Some ys) (Some zs) piece m n first second =
    second
    ∙ ap (λ w. w ++ take n (drop m piece)) first
    ∙ append_assoc xs (take m piece) (take n (drop m piece))
    ∙ ap (λ w. xs ++ w) (sym (take-add m n piece))
