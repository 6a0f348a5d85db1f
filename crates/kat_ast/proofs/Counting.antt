-- A form has as many trees as its tree.
use Rattle.std.proofs.Common.{◌≡◌, ℕ, ◌+◌, List, [], ◌∷◌, ◌++◌, length, map, sum, sym, ap, ◌∙◌, refl, arith}
use Rattle.std.specs.Prelude.{sum_by}
use Rattle.std.specs.List.{fold}
use Rattle.kat_tree.specs.declared.tree.Token.{Token}
use Rattle.kat_tree.specs.declared.tree.Token.TheVariants.{Number as NumberToken, Name as NameToken}
use Rattle.kat_tree.specs.declared.tree.Tree.{Tree}
use Rattle.kat_tree.specs.declared.tree.Tree.TheVariants as tree
use Rattle.kat_tree.specs.declared.tree.Tree.TheVariants.{rolls-Atom, rolls-List}
use Rattle.kat_tree.specs.declared.tree.Tree.TheOpen.{Tree-F}
use Rattle.kat_tree.specs.declared.tree.Tree.TheFolds.{fold-roll-Tree}
use Rattle.kat_tree.specs.Preorder.{count_in, count_of}
use Rattle.kat_ast.specs.Parts.{word, number, form}

sum_from : (a : ℕ) (ns : List ℕ) → fold (λ x y. x + y) a ns ≡ a + fold (λ x y. x + y) 0 ns
sum_from a [] = omega arith
sum_from a (n ∷ ns) = omega (arith, sum_from (a + n) ns, sum_from (0 + n) ns)

pub sum-cons : (n : ℕ) (ns : List ℕ) → sum (n ∷ ns) ≡ n + sum ns
sum-cons n ns = omega (arith, sum_from (0 + n) ns)

pub sum-last : (ns : List ℕ) (n : ℕ) → sum (ns ++ n ∷ []) ≡ sum ns + n
sum-last [] n = omega arith
sum-last (m ∷ ns) n = omega (arith, sum-cons m (ns ++ n ∷ []), sum-cons m ns, sum-last ns n)

sum_by_from : {X : Type 0} (f : X → ℕ) (a : ℕ) (xs : List X) → fold (λ n x. n + f x) a xs ≡ a + sum (map f xs)
sum_by_from f a [] = omega arith
sum_by_from f a (x ∷ xs) = omega (arith, sum_by_from f (a + f x) xs, sum-cons (f x) (map f xs))

-- a sum over a list is the sum of what it is over
pub sum_by-map : {X : Type 0} (f : X → ℕ) (xs : List X) → sum_by f xs ≡ sum (map f xs)
sum_by-map f xs = omega (arith, sum_by_from f 0 xs)

count_of-Atom : (token : Token) → count_of (tree.Atom token) ≡ 1
count_of-Atom token = ap count_of (sym (rolls-Atom token)) ∙ fold-roll-Tree ℕ count_in (Tree-F.Atom token)

pub count_of-List : (parts : List Tree) → count_of (tree.List parts) ≡ sum (map count_of parts) + 1
count_of-List parts = ap count_of (sym (rolls-List parts)) ∙ fold-roll-Tree ℕ count_in (Tree-F.List parts)

pub of_word : (x : List ℕ) → count_of (word x) ≡ 1
of_word x = count_of-Atom (NameToken x)

pub of_number : (n : ℕ) → count_of (number n) ≡ 1
of_number n = count_of-Atom (NumberToken n)

-- a list with its first word
pub of_form : (head : List ℕ) (parts : List Tree) → count_of (form head parts) ≡ sum (map count_of parts) + 2
of_form head parts = omega (arith, count_of-List (word head ∷ parts), sum-cons (count_of (word head)) (map count_of parts), of_word head)

pub of_one : (head : List ℕ) (a : Tree) → count_of (form head (a ∷ [])) ≡ count_of a + 2
of_one head a = omega (arith, of_form head (a ∷ []))

pub of_two : (head : List ℕ) (a b : Tree) → count_of (form head (a ∷ b ∷ [])) ≡ count_of a + count_of b + 2
of_two head a b = omega (arith, of_form head (a ∷ b ∷ []))

pub of_three : (head : List ℕ) (a b c : Tree) → count_of (form head (a ∷ b ∷ c ∷ [])) ≡ count_of a + count_of b + count_of c + 2
of_three head a b c = omega (arith, of_form head (a ∷ b ∷ c ∷ []))

pub of_four : (head : List ℕ) (a b c d : Tree) → count_of (form head (a ∷ b ∷ c ∷ d ∷ [])) ≡ count_of a + count_of b + count_of c + count_of d + 2
of_four head a b c d = omega (arith, of_form head (a ∷ b ∷ c ∷ d ∷ []))

pub of_more : (head : List ℕ) (a : Tree) (parts : List Tree) → count_of (form head (a ∷ parts)) ≡ count_of a + sum (map count_of parts) + 2
of_more head a parts = omega (arith, of_form head (a ∷ parts), sum-cons (count_of a) (map count_of parts))

pub of_pair : (a b : Tree) → count_of (tree.List (a ∷ b ∷ [])) ≡ count_of a + count_of b + 1
of_pair a b = omega (arith, count_of-List (a ∷ b ∷ []))

pub of_triple : (a b c : Tree) → count_of (tree.List (a ∷ b ∷ c ∷ [])) ≡ count_of a + count_of b + count_of c + 1
of_triple a b c = omega (arith, count_of-List (a ∷ b ∷ c ∷ []))

pub of_words : (xs : List (List ℕ)) → sum (map count_of (map word xs)) ≡ length xs
of_words [] = refl
of_words (x ∷ xs) = omega (arith, sum-cons (count_of (word x)) (map count_of (map word xs)), of_word x, of_words xs)

pub of_numbers : (ns : List ℕ) → sum (map count_of (map number ns)) ≡ length ns
of_numbers [] = refl
of_numbers (n ∷ ns) = omega (arith, sum-cons (count_of (number n)) (map count_of (map number ns)), of_number n, of_numbers ns)
