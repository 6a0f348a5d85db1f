-- The pieces that forms are written of.
use Rattle.std.specs.Prelude.{ℕ, ◌-◌, ◌^◌, min, Bool, true, false, ◌&&◌, List, [], ◌∷◌}
use Rattle.kat_tree.specs.declared.tree.Token.TheVariants.{Number as NumberToken, Name as NameToken}
use Rattle.kat_tree.specs.declared.tree.Tree.{Tree}
use Rattle.kat_tree.specs.declared.tree.Tree.TheVariants as tree
pub use Rattle.kat_value.specs.Words.{is_name}

-- a name is the list of its bytes
abbrev pub word : List ℕ → Tree
word x = tree.Atom (NameToken x)

-- the tree of a number
abbrev pub number : ℕ → Tree
number n = tree.Atom (NumberToken n)

-- a list with its first word
abbrev pub form : List ℕ → List Tree → Tree
form head parts = tree.List (word head ∷ parts)

-- whether all are true
abbrev pub every : List Bool → Bool
every [] = true
every (b ∷ bs) = b && every bs

-- whether a list has a part
abbrev pub is_nonempty : {A : Type 0} → List A → Bool
is_nonempty [] = false
is_nonempty (x ∷ xs) = true

-- a count that stands still at the greatest u32
abbrev pub capped_count : ℕ → ℕ
capped_count n = min n (2 ^ 32 - 1)
