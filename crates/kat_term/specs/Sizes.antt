-- The nodes and the depth of a term.
use Rattle.std.specs.Prelude.{ℕ, ◌+◌, List, [], ◌∷◌, sum, max}
use Rattle.kat_term.specs.declared.term.Term.{Term}
use Rattle.kat_term.specs.declared.term.Term.TheOpen.{Term-F, Var, Lit, Apply, Make, Rec}
use Rattle.kat_term.specs.declared.term.Term.TheFolds.{fold-Term}

-- a variable and a literal are one node, all else is one more than its parts
abbrev pub nodes_layer : Term-F ℕ → ℕ
nodes_layer (Var i) = 1
nodes_layer (Lit x) = 1
nodes_layer (Apply op args) = 1 + sum args
nodes_layer (Make of ctor inner) = 1 + inner
nodes_layer (Rec of fields) = 1 + sum fields

-- how many nodes a term has, counted as a tree
abbrev pub nodes : Term → ℕ
nodes = fold-Term ℕ nodes_layer

-- the greatest of numbers, 0 where there is none
abbrev pub greatest : List ℕ → ℕ
greatest [] = 0
greatest (n ∷ ns) = max n (greatest ns)

-- a term without parts has depth 1, all else is one deeper than its deepest part
abbrev pub depth_layer : Term-F ℕ → ℕ
depth_layer (Var i) = 1
depth_layer (Lit x) = 1
depth_layer (Apply op args) = 1 + greatest args
depth_layer (Make of ctor inner) = 1 + inner
depth_layer (Rec of fields) = 1 + greatest fields

-- how many terms stand in one another, at most
abbrev pub depth : Term → ℕ
depth = fold-Term ℕ depth_layer
