-- The limits on terms and worlds.
use Rattle.std.specs.Prelude.{ℕ}

-- the most variables of a world
unfoldable pub max_vars : ℕ
max_vars = 100000

-- the most nodes of a term, counted as a tree
unfoldable pub max_nodes : ℕ
max_nodes = 65536

-- the greatest depth of a term
unfoldable pub max_depth : ℕ
max_depth = 512
