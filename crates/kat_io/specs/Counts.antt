-- Counts that never fall and stay at the greatest u64.
use Rattle.std.specs.Prelude.{ℕ, ◌+◌, ◌-◌, ◌^◌, ◌≤◌, min, max}

-- one more; a count that has come to the greatest u64 stands still
abbrev pub next_count : ℕ → ℕ
next_count count = max count (min (count + 1) (2 ^ 64 - 1))

-- a count rose: it is at least one more than before, or stands at the greatest u64, where it stays
abbrev pub Rose : ℕ → ℕ → Type 0
Rose before now = min (before + 1) (2 ^ 64 - 1) ≤ now
