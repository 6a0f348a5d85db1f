-- Which trees can be written, by their parts.
use Rattle.std.proofs.Common.{◌≡◌, ℕ, zero, suc, ◌<◌, ◌≤◌, List, [], ◌∷◌, ◌++◌, map, Some, sym, subst, arith}
use Rattle.std.specs.Prelude.{slice_get}
use Rattle.std.specs.List.{AllByRecursion}
use Rattle.kat_tree.specs.declared.tree.Token.{Token}
use Rattle.kat_tree.specs.declared.tree.Tree.{Tree}
use Rattle.kat_tree.specs.declared.tree.Tree.TheVariants as tree
use Rattle.kat_tree.specs.Lexeme.{joined, nesting, nesting_of_all}
use Rattle.kat_tree.specs.Written.{IsToken, IsWritable, tokens_of}
use Rattle.kat_tree.proofs.Goes.{none_some, some_same}
use Rattle.kat_tree.proofs.Trees.{nesting-Atom, nesting-List}
use Rattle.kat_tree.proofs.Leaves.{tokens_of-Atom, tokens_of-List}
use Rattle.kat_tree.proofs.Writing.{all_parts}

pub one_of : (P : Tree → Type 0) (parts : List Tree) (i : ℕ) (part : Tree) → AllByRecursion P parts → slice_get parts i ≡ Some part → P part
one_of P [] i part all e = absurd (none_some part e)
one_of P (t ∷ parts) zero part all e = subst P (some_same t part e) all.0
one_of P (t ∷ parts) (suc i) part all e = one_of P parts i part all.1 e

all_from : (xs ys : List Token) → AllByRecursion IsToken xs → AllByRecursion IsToken ys → AllByRecursion IsToken (xs ++ ys)
all_from [] ys first others = others
all_from (x ∷ xs) ys first others = (first.0, all_from xs ys first.1 others)

-- atoms
pub atom_writable : (token : Token) → IsToken token → IsWritable (tree.Atom token)
atom_writable token is = record {
  tokens = subst (AllByRecursion IsToken) (sym (tokens_of-Atom token)) (is, tt);
  nesting = let n = nesting-Atom token in omega arith;
}

pub atom_token : (token : Token) → IsWritable (tree.Atom token) → IsToken token
atom_token token is = let tokens = subst (AllByRecursion IsToken) (tokens_of-Atom token) is.tokens in tokens.0

-- lists
joined_tokens : (parts : List Tree) → AllByRecursion IsWritable parts → AllByRecursion IsToken (joined (map tokens_of parts))
joined_tokens [] all = tt
joined_tokens (t ∷ parts) all = all_from (tokens_of t) (joined (map tokens_of parts)) all.0.tokens (joined_tokens parts all.1)

pub list_writable : (parts : List Tree) → AllByRecursion IsWritable parts → nesting (tree.List parts) ≤ 64 → IsWritable (tree.List parts)
list_writable parts all shallow = record {
  tokens = subst (AllByRecursion IsToken) (sym (tokens_of-List parts)) (joined_tokens parts all);
  nesting = shallow;
}

each_writable : (parts : List Tree) → AllByRecursion IsToken (joined (map tokens_of parts)) → nesting_of_all parts ≤ 64 → AllByRecursion IsWritable parts
each_writable [] tokens shallow = tt
each_writable (t ∷ parts) tokens shallow =
    let split = all_parts (tokens_of t) (joined (map tokens_of parts)) tokens in
    (record { tokens = split.0; nesting = omega arith }, each_writable parts split.1 (omega arith))

pub parts_writable : (parts : List Tree) → IsWritable (tree.List parts) → AllByRecursion IsWritable parts
parts_writable parts is =
    let n = nesting-List parts in
    let shallow = is.nesting in
    each_writable parts (subst (AllByRecursion IsToken) (tokens_of-List parts) is.tokens) (omega arith)

pub part_writable : (parts : List Tree) (part : Tree) (i : ℕ) → IsWritable (tree.List parts) → slice_get parts i ≡ Some part → IsWritable part
part_writable parts part i is e = one_of IsWritable parts i part (parts_writable parts is) e

below_all : (parts : List Tree) (part : Tree) (i : ℕ) → slice_get parts i ≡ Some part → nesting part ≤ nesting_of_all parts
below_all [] part i e = absurd (none_some part e)
below_all (t ∷ parts) part zero e = subst (λ u. nesting u ≤ nesting_of_all (t ∷ parts)) (some_same t part e) (omega arith)
below_all (t ∷ parts) part (suc i) e = let h = below_all parts part i e in omega arith

pub part_nesting : (parts : List Tree) (part : Tree) (i : ℕ) → slice_get parts i ≡ Some part → nesting part < nesting (tree.List parts)
part_nesting parts part i e = let n = nesting-List parts in let h = below_all parts part i e in omega arith
