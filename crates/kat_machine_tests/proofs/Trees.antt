-- No part of a tree has more trees than all.
use Rattle.std.proofs.Common.{◌<◌, ◌^◌, List, [], ◌∷◌, map, arith}
use Rattle.std.specs.Prelude.{sum}
use Rattle.std.specs.List.{AllByRecursion}
use Rattle.std.proofs.lemmas.List.Sums.{sum-map, sum_by-cons}
use Rattle.kat_tree.specs.declared.tree.Tree.{Tree}
use Rattle.kat_tree.specs.Preorder.{count_of}

pub small_parts : (parts : List Tree) → sum (map count_of parts) < 2 ^ 32 → AllByRecursion (λ (part : Tree). count_of part < 2 ^ 32) parts
small_parts [] few = tt
small_parts (part ∷ parts) few =
    let one = sum-map count_of (part ∷ parts) in
    let rest = sum-map count_of parts in
    let both = sum_by-cons count_of part parts in
    (omega arith, small_parts parts (omega arith))
