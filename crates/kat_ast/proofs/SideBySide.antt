-- Forms side by side: what is so of each of them is so of all.
use Rattle.std.proofs.Common.{◌≡◌, ℕ, Bool, true, List, [], ◌∷◌, map, refl}
use Rattle.std.proofs.lemmas.Bool.{and_parts}
use Rattle.kat_tree.specs.declared.tree.Tree.{Tree}
use Rattle.kat_tree.specs.Preorder.{count_of}
use Rattle.kat_ast.specs.Parts.{every}
use Rattle.kat_ast.proofs.Decoded.{Decoded, decoded}

-- each is read back from its tree
pub parts_back : {A : Type 0} (formed : A → Bool) (tree_of : A → Tree) (read : Decoded → A)
    (parts : List ((a : A) × (formed a ≡ true → read (decoded (tree_of a)) ≡ a))) →
    every (map formed (map (λ e. e.0) parts)) ≡ true →
    map read (map decoded (map tree_of (map (λ e. e.0) parts))) ≡ map (λ e. e.0) parts
parts_back formed tree_of read [] all = refl
parts_back formed tree_of read (p ∷ ps) all =
    let both = and_parts (formed p.0) (every (map formed (map (λ e. e.0) ps))) all in
    let here = p.1 both.0 in
    let more = parts_back formed tree_of read ps both.1 in
    cc

-- each has as many trees as its tree
pub parts_counted : {A : Type 0} (trees_of : A → ℕ) (tree_of : A → Tree)
    (parts : List ((a : A) × (trees_of a ≡ count_of (tree_of a)))) →
    map trees_of (map (λ e. e.0) parts) ≡ map count_of (map tree_of (map (λ e. e.0) parts))
parts_counted trees_of tree_of [] = refl
parts_counted trees_of tree_of (p ∷ ps) = let here = p.1 in let more = parts_counted trees_of tree_of ps in cc
