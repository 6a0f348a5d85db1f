-- The parts of a list of devices, one by one.
use Rattle.std.proofs.Common.{◌≡◌, ℕ, ◌+◌, ◌<◌, zero, suc, refl, arith}
use Rattle.std.proofs.Common.{List, [], ◌∷◌, Option, Some, map, length, drop, add-one}
use Rattle.std.specs.Borrow.{Bor}
use Rattle.std.specs.List.{slice_index_or}
use Rattle.clap.specs.Words.{Text}
use Rattle.kat_words.specs.Numbers.{device_of, with_devices, with_new}

-- what the devices become by the parts from a place on
abbrev pub with_parts_from : Option (List ℕ) → List (Bor Text) → ℕ → Option (List ℕ)
with_parts_from ds ps i = with_devices ds (map (λ s. s.now) (drop i ps))

step : (ds : List ℕ) (ps : List (Bor Text)) (i : ℕ) (p : Bor Text) → i < length ps
    → with_parts_from (Some ds) ps i
    ≡ with_parts_from (with_new ds (device_of (slice_index_or ps i p).now)) ps (suc i)
step ds [] i p lt = absurd (omega arith)
step ds (x ∷ xs) zero p lt = refl
step ds (x ∷ xs) (suc i) p lt = step ds xs i p (omega arith)

-- the part at a place is read next
pub parts_next : (ds : List ℕ) (ps : List (Bor Text)) (i : ℕ) (p : Bor Text) → i < length ps
    → with_parts_from (Some ds) ps i
    ≡ with_parts_from (with_new ds (device_of (slice_index_or ps i p).now)) ps (i + 1)
parts_next ds ps i p lt = rw (add-one i) (step ds ps i p lt)
