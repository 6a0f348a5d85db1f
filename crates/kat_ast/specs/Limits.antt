-- The limits of specifications.
use Rattle.std.specs.Prelude.{ℕ, ◌-◌, ◌^◌}
use Rattle.kat_tree.specs.Lexeme.{most_open}

-- the most brackets that the text of a declaration nests: one less than a text may, for that of the
-- specification around it
abbrev pub deepest_decl : ℕ
deepest_decl = most_open - 1

-- a declaration has fewer trees than this
abbrev pub decl_trees_bound : ℕ
decl_trees_bound = 2 ^ 32
