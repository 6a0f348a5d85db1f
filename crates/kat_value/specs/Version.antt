-- The versions of the language.
use Rattle.std.specs.Prelude.{ℕ, ◌==◌, Bool}

-- the newest version
abbrev pub newest : ℕ
newest = 1

-- whether the language has a version of this number: the newest is the only one
abbrev pub is_version : ℕ → Bool
is_version n = n == newest
