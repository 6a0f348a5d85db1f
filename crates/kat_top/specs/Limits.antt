-- The limit on files.
use Rattle.std.specs.Prelude.{ℕ}

-- how many bytes of a file are read
abbrev pub most_bytes : ℕ
most_bytes = 4194304
