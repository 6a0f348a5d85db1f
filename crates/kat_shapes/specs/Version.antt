-- The version that a text states.
use Rattle.std.specs.Prelude.{ℕ, if◌then◌else◌, ◌∷◌}
use Rattle.kat_tree.specs.declared.tree.Token.TheVariants as token
use Rattle.kat_tree.specs.declared.tree.Tree.{Tree}
use Rattle.kat_tree.specs.declared.tree.Tree.TheOpen.{Tree-F}
use Rattle.kat_tree.specs.declared.tree.Tree.TheViews.{out-Tree}
use Rattle.kat_shapes.specs.declared.sort.Sort.{Sort}
use Rattle.kat_shapes.specs.declared.sort.Sort.TheVariants.{Spec}
use Rattle.kat_shapes.specs.Forms.{is_version, newest}

-- the version that a tree is, if it is one
abbrev pub version_in : Tree-F Tree → ℕ
version_in (Tree-F.Atom (token.Number n)) = if is_version n then n else newest
version_in _ = newest

-- the version that stands behind the first word of a list
abbrev pub stated_in : Tree-F Tree → ℕ
stated_in (Tree-F.List (word ∷ version ∷ parts)) = version_in (out-Tree version)
stated_in _ = newest

-- the version that a tree states
abbrev pub stated_of : Tree → ℕ
stated_of text = stated_in (out-Tree text)

-- the version of a text whose root is of this sort: a specification states its own, all else states
-- none and may have each form of the newest
abbrev pub version_of : Sort → Tree → ℕ
version_of Spec text = stated_of text
version_of _ text = newest
