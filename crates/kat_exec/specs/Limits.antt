-- The limits on paths and on depth of calls.
use Rattle.std.specs.Prelude.{ℕ}

-- the greatest depth of calls, the body that the item runs having depth 1
unfoldable pub max_depth_of_calls : ℕ
max_depth_of_calls = 64

-- the most ended paths of an item
unfoldable pub max_paths : ℕ
max_paths = 20000
