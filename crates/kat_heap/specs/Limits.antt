-- The limit on steps.
use Rattle.std.specs.Prelude.{ℕ}

-- the most steps of a path
unfoldable pub max_steps : ℕ
max_steps = 1000000
