-- What a reader of the host hands over.
use Rattle.std.specs.Prelude.{ℕ, ◌≡◌, ◌+◌, List, length, take, drop, Option}
use Rattle.std.specs.Io.KnownBytes.{Consumes}

-- the vector has kept what it had and gained this many bytes at its end, which the reader lost
pub record Takes (before now : Option (List ℕ)) (old new : List ℕ) (count : ℕ) : Type 0 where
  pub kept : take (length old) new ≡ old
  pub grown : length new ≡ length old + count
  pub taken : Consumes before now (drop (length old) new)
