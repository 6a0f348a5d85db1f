-- A vector that gains a reader's bytes piece by piece.
use Rattle.std.proofs.Common.{ℕ, ◌≡◌, ◌+◌, ◌≤◌, List, ◌++◌, length, take, drop, Option, None, Some, IfSome, sym, ap, ◌∙◌, arith, length-drop, append_assoc}
use Rattle.std.proofs.lemmas.List.{take-append-drop, take-take, drop-append-le, append-nil}
use Rattle.std.specs.Io.KnownBytes.{Consumes, IsAtEnd}
use Rattle.kat_io.specs.HostBytes.{Takes}
use Rattle.kat_io.specs.Reads.{Appends}

-- two pieces of what a reader had
Consumes-more : (a b d : Option (List ℕ)) (p q : List ℕ) →
    Consumes a b p → Consumes b d q → Consumes a d (p ++ q)
Consumes-more None b d p q first second = tt
Consumes-more (Some xs) None d p q first second = absurd first
Consumes-more (Some xs) (Some ys) None p q first second = absurd second
Consumes-more (Some xs) (Some ys) (Some zs) p q first second =
    first ∙ ap (λ w. p ++ w) second ∙ sym (append_assoc p q zs)

-- a reader at its end gave all that it had
Consumes-end : (a b : Option (List ℕ)) (p : List ℕ) →
    Consumes a b p → IsAtEnd b → IfSome a (λ told. p ≡ told)
Consumes-end None b p taken end = tt
Consumes-end (Some xs) None p taken end = absurd taken
Consumes-end (Some xs) (Some ys) p taken end = sym (taken ∙ ap (λ w. p ++ w) end ∙ append-nil p)

-- what stands before and after the end of a first piece
split_at_end : (b d : List ℕ) → take (length b) d ≡ b → d ≡ b ++ drop (length b) d
split_at_end b d kept =
    sym (take-append-drop (length b) d) ∙ ap (λ xs. xs ++ drop (length b) d) kept

-- one piece after another
pub Takes-more : (r s t : Option (List ℕ)) (a b d : List ℕ) (m n : ℕ) →
    Takes r s a b m → Takes s t b d n → Takes r t a d (m + n)
Takes-more r s t a b d m n first second =
    let joined : drop (length a) d ≡ drop (length a) b ++ drop (length b) d =
    ap (λ xs. drop (length a) xs) (split_at_end b d second.kept)
    ∙ drop-append-le (length a) b (drop (length b) d) (omega (arith, first.grown)) in
    record {
      kept = sym (take-take (length a) (length b) d (omega (arith, first.grown)))
          ∙ ap (λ xs. take (length a) xs) second.kept
          ∙ first.kept;
      grown = omega (arith, first.grown, second.grown);
      taken = rw joined (Consumes-more r s t _ _ first.taken second.taken);
    }

-- at the reader's end the vector has gained all that was left
pub Appends-from_takes : (told now : Option (List ℕ)) (old new : List ℕ) (count limit : ℕ) →
    Takes told now old new count → IsAtEnd now → count ≤ limit → Appends told limit old new
Appends-from_takes told now old new count limit gained end within = (
  drop (length old) new,
  split_at_end old new gained.kept,
  omega (arith, gained.grown, length-drop (length old) new),
  Consumes-end told now _ gained.taken end,
)
