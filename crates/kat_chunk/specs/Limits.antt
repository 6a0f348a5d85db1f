-- The limit on chunks.
use Rattle.std.specs.Prelude.{ℕ}

-- the most chunks at once
unfoldable pub max_chunks : ℕ
max_chunks = 1024
