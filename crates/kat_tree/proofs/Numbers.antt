-- Preorder numbers.
use Rattle.std.proofs.Common.{◌≡◌, ℕ, zero, suc, ◌+◌, ◌-◌, ◌<◌, List, [], ◌∷◌, ◌++◌, length, map, sum, take, Option, Some, None, IsSome, ◌↔◌, ⊎_elim, sym, ap, ◌∙◌, subst, refl, arith, append_assoc, append-nil, length-append}
use Rattle.std.specs.Prelude.{slice_get}
use Rattle.std.specs.List.{AllByRecursion}
use Rattle.std.proofs.lemmas.Bool.{cases_lt, false≢true}
use Rattle.std.specs.List.{fold}
use Rattle.std.proofs.lemmas.Option.{slice_get_within, slice_get-get_or}
use Rattle.kat_tree.specs.declared.tree.Token.{Token}
use Rattle.kat_tree.specs.declared.tree.Tree.{Tree}
use Rattle.kat_tree.specs.declared.tree.Tree.TheVariants as tree
use Rattle.kat_tree.specs.declared.tree.Tree.TheVariants.{rolls-Atom, rolls-List}
use Rattle.kat_tree.specs.declared.tree.Tree.TheOpen.{Tree-F}
use Rattle.kat_tree.specs.declared.tree.Tree.TheFolds.{fold-Tree, fold-roll-Tree}
use Rattle.kat_tree.specs.Lexeme.{joined}
use Rattle.kat_tree.specs.Preorder.{Listed, listed_in, trees_of, trees_of_all, tree_at, count_in, count_of, place_of_part}
use Rattle.kat_tree.proofs.Goes.{none_some, some_same}
use Rattle.kat_tree.proofs.Trees.{tree_induction}

abbrev listed_of : Tree → Listed
listed_of = fold-Tree Listed listed_in

listed_of-Atom : (token : Token) → listed_of (tree.Atom token) ≡ record { tree = tree.Atom token; trees = tree.Atom token ∷ [] }
listed_of-Atom token = ap listed_of (sym (rolls-Atom token)) ∙ fold-roll-Tree Listed listed_in (Tree-F.Atom token)

listed_of-List : (parts : List Tree) → listed_of (tree.List parts) ≡ listed_in (Tree-F.List (map listed_of parts))
listed_of-List parts = ap listed_of (sym (rolls-List parts)) ∙ fold-roll-Tree Listed listed_in (Tree-F.List parts)

abbrev Itself : Tree → Type 0
Itself t = (listed_of t).tree ≡ t

all_itself : (parts : List Tree) → AllByRecursion Itself parts → map (λ part. part.tree) (map listed_of parts) ≡ parts
all_itself [] all = refl
all_itself (t ∷ parts) all = ap (λ u. u ∷ map (λ part. part.tree) (map listed_of parts)) all.0 ∙ ap (λ us. t ∷ us) (all_itself parts all.1)

itself : (t : Tree) → Itself t
itself = tree_induction Itself
    (λ token. ap (λ l. l.tree) (listed_of-Atom token))
    (λ parts all. ap (λ l. l.tree) (listed_of-List parts) ∙ ap tree.List (all_itself parts all))

every_itself : (parts : List Tree) → map (λ part. part.tree) (map listed_of parts) ≡ parts
every_itself [] = refl
every_itself (t ∷ parts) = ap (λ u. u ∷ map (λ part. part.tree) (map listed_of parts)) (itself t) ∙ ap (λ us. t ∷ us) (every_itself parts)

trees_of_each : (parts : List Tree) → joined (map (λ part. part.trees) (map listed_of parts)) ≡ trees_of_all parts
trees_of_each [] = refl
trees_of_each (t ∷ parts) = ap (λ ts. trees_of t ++ ts) (trees_of_each parts)

pub trees_of-Atom : (token : Token) → trees_of (tree.Atom token) ≡ tree.Atom token ∷ []
trees_of-Atom token = ap (λ l. l.trees) (listed_of-Atom token)

pub trees_of-List : (parts : List Tree) → trees_of (tree.List parts) ≡ tree.List parts ∷ trees_of_all parts
trees_of-List parts =
    ap (λ l. l.trees) (listed_of-List parts)
    ∙ ap (λ us. tree.List us ∷ joined (map (λ part. part.trees) (map listed_of parts))) (every_itself parts)
    ∙ ap (λ ts. tree.List parts ∷ ts) (trees_of_each parts)

-- counts
sum_from : (a : ℕ) (ns : List ℕ) → fold (λ x y. x + y) a ns ≡ a + fold (λ x y. x + y) 0 ns
sum_from a [] = omega arith
sum_from a (n ∷ ns) = omega (arith, sum_from (a + n) ns, sum_from (0 + n) ns)

pub sum-cons : (n : ℕ) (ns : List ℕ) → sum (n ∷ ns) ≡ n + sum ns
sum-cons n ns = omega (arith, sum_from (0 + n) ns)

pub count_of-Atom : (token : Token) → count_of (tree.Atom token) ≡ 1
count_of-Atom token = ap count_of (sym (rolls-Atom token)) ∙ fold-roll-Tree ℕ count_in (Tree-F.Atom token)

pub count_of-List : (parts : List Tree) → count_of (tree.List parts) ≡ sum (map count_of parts) + 1
count_of-List parts = ap count_of (sym (rolls-List parts)) ∙ fold-roll-Tree ℕ count_in (Tree-F.List parts)

abbrev Counted : Tree → Type 0
Counted t = length (trees_of t) ≡ count_of t

all_counted : (parts : List Tree) → AllByRecursion Counted parts → length (trees_of_all parts) ≡ sum (map count_of parts)
all_counted [] all = refl
all_counted (t ∷ parts) all = let first = all.0 in omega (arith, length-append (trees_of t) (trees_of_all parts), all_counted parts all.1, sum-cons (count_of t) (map count_of parts))

counted : (t : Tree) → Counted t
counted = tree_induction Counted
    (λ token. ap length (trees_of-Atom token) ∙ sym (count_of-Atom token))
    (λ parts all. let n = ap length (trees_of-List parts) in omega (arith, all_counted parts all, count_of-List parts))

-- places in lists that stand one behind the other
get_front : (xs ys : List Tree) (i : ℕ) → i < length xs → slice_get (xs ++ ys) i ≡ slice_get xs i
get_front [] ys i h = absurd (omega arith)
get_front (x ∷ xs) ys zero h = refl
get_front (x ∷ xs) ys (suc i) h = get_front xs ys i (omega arith)

get_behind : (xs ys : List Tree) (i : ℕ) → slice_get (xs ++ ys) (length xs + i) ≡ slice_get ys i
get_behind [] ys i = let same : 0 + i ≡ i = omega arith in ap (slice_get ys) same
get_behind (x ∷ xs) ys i = let same : suc (length xs) + i ≡ suc (length xs + i) = omega arith in ap (slice_get (x ∷ (xs ++ ys))) same ∙ get_behind xs ys i

-- the trees of a part stand together, from its place on
record StandsIn (whole : List Tree) (place : ℕ) (part : Tree) : Type 0 where
  front : List Tree
  behind : List Tree
  parts : whole ≡ front ++ (trees_of part ++ behind)
  place_is : length front ≡ place

abbrev Stands : Tree → Type 0
Stands t = (place : ℕ) (part : Tree) → tree_at t place ≡ Some part → StandsIn (trees_of t) place part

at_root : (whole : List Tree) (t part : Tree) → whole ≡ trees_of t → t ≡ part → StandsIn whole 0 part
at_root whole t part whole_is same = record {
  front = [];
  behind = [];
  parts = whole_is ∙ ap trees_of same ∙ sym (append-nil (trees_of part));
  place_is = refl;
}

stands_atom : (token : Token) → Stands (tree.Atom token)
stands_atom token zero part e =
    let first = some_same (tree.Atom token) part (sym (ap (λ ts. slice_get ts 0) (trees_of-Atom token)) ∙ e) in
    at_root (trees_of (tree.Atom token)) (tree.Atom token) part refl first
stands_atom token (suc place) part e = absurd (none_some part (sym (ap (λ ts. slice_get ts (suc place)) (trees_of-Atom token)) ∙ e))

stands_first : (xs ys : List Tree) (place : ℕ) (part : Tree) → StandsIn xs place part → StandsIn (xs ++ ys) place part
stands_first xs ys place part is = record {
  front = is.front;
  behind = is.behind ++ ys;
  parts = ap (λ ts. ts ++ ys) is.parts ∙ append_assoc is.front (trees_of part ++ is.behind) ys ∙ ap (λ ts. is.front ++ ts) (append_assoc (trees_of part) is.behind ys);
  place_is = is.place_is;
}

stands_behind : (xs ys : List Tree) (n place : ℕ) (part : Tree) → place ≡ length xs + n → StandsIn ys n part → StandsIn (xs ++ ys) place part
stands_behind xs ys n place part place_is is = record {
  front = xs ++ is.front;
  behind = is.behind;
  parts = ap (λ ts. xs ++ ts) is.parts ∙ sym (append_assoc xs is.front (trees_of part ++ is.behind));
  place_is = let here = is.place_is in omega (arith, length-append xs is.front);
}

stands_all : (trees : List Tree) → AllByRecursion Stands trees → (place : ℕ) (part : Tree) → slice_get (trees_of_all trees) place ≡ Some part → StandsIn (trees_of_all trees) place part
stands_all [] all place part e = absurd (none_some part e)
stands_all (t ∷ trees) all place part e = ⊎_elim
    (λ less. stands_first (trees_of t) (trees_of_all trees) place part (all.0 place part (sym (get_front (trees_of t) (trees_of_all trees) place less) ∙ e)))
    (λ past.
    let n = place - length (trees_of t) in
    let place_is : place ≡ length (trees_of t) + n = omega arith in
    stands_behind (trees_of t) (trees_of_all trees) n place part place_is
    (stands_all trees all.1 n part (sym (get_behind (trees_of t) (trees_of_all trees) n) ∙ ap (slice_get (trees_of t ++ trees_of_all trees)) (sym place_is) ∙ e)))
    (cases_lt place (length (trees_of t)))

stands_list : (trees : List Tree) → AllByRecursion Stands trees → Stands (tree.List trees)
stands_list trees all zero part e =
    let first = some_same (tree.List trees) part (sym (ap (λ ts. slice_get ts 0) (trees_of-List trees)) ∙ e) in
    at_root (trees_of (tree.List trees)) (tree.List trees) part refl first
stands_list trees all (suc place) part e =
    let inside = stands_all trees all place part (sym (ap (λ ts. slice_get ts (suc place)) (trees_of-List trees)) ∙ e) in
    let one : suc place ≡ 1 + place = omega arith in
    subst (λ whole. StandsIn whole (suc place) part) (sym (trees_of-List trees))
    (stands_behind (tree.List trees ∷ []) (trees_of_all trees) place (suc place) part one inside)

stands : (t : Tree) → Stands t
stands = tree_induction Stands stands_atom stands_list

-- the laws
pub at_root_itself : (t : Tree) → tree_at t 0 ≡ Some t
at_root_itself = tree_induction (λ t. tree_at t 0 ≡ Some t)
    (λ token. ap (λ ts. slice_get ts 0) (trees_of-Atom token))
    (λ parts all. ap (λ ts. slice_get ts 0) (trees_of-List parts))

some_within : (trees : List Tree) (place count : ℕ) → length trees ≡ count → (found : Option Tree) → slice_get trees place ≡ found → IsSome found → place < count
some_within trees place count n None e some = absurd (false≢true some)
some_within trees place count n (Some t) e some = let h = slice_get_within trees place t e in omega arith

known_within : (trees : List Tree) (place count : ℕ) → length trees ≡ count → IsSome (slice_get trees place) → place < count
known_within trees place count n some = some_within trees place count n (slice_get trees place) refl some

known_some : (trees : List Tree) (place : ℕ) (t : Tree) → place < length trees → IsSome (slice_get trees place)
known_some trees place t less = subst IsSome (sym (slice_get-get_or trees place t less)) refl

pub known_places : (t : Tree) (place : ℕ) → IsSome (tree_at t place) ↔ (place < count_of t)
known_places t place = (known_within (trees_of t) place (count_of t) (counted t), λ less. known_some (trees_of t) place t (let n = counted t in omega arith))

pub within : (t part : Tree) (place n : ℕ) → tree_at t place ≡ Some part → n < count_of part → tree_at t (place + n) ≡ tree_at part n
within t part place n e h =
    let is = stands t place part e in
    let here = is.place_is in
    let same : place + n ≡ length is.front + n = omega arith in
    let inside : n < length (trees_of part) = omega (arith, counted part) in
    ap (λ ts. slice_get ts (place + n)) is.parts
    ∙ ap (slice_get (is.front ++ (trees_of part ++ is.behind))) same
    ∙ get_behind is.front (trees_of part ++ is.behind) n
    ∙ get_front (trees_of part) is.behind n inside

part_in_all : (parts : List Tree) (i : ℕ) (part : Tree) → slice_get parts i ≡ Some part → slice_get (trees_of_all parts) (sum (map count_of (take i parts))) ≡ Some part
part_in_all [] i part e = absurd (none_some part e)
part_in_all (t ∷ parts) zero part e =
    get_front (trees_of t) (trees_of_all parts) 0 (slice_get_within (trees_of t) 0 t (at_root_itself t)) ∙ at_root_itself t ∙ e
part_in_all (t ∷ parts) (suc i) part e =
    let n = sum (map count_of (take i parts)) in
    let same : sum (count_of t ∷ map count_of (take i parts)) ≡ length (trees_of t) + n = omega (arith, counted t, sum-cons (count_of t) (map count_of (take i parts))) in
    ap (slice_get (trees_of t ++ trees_of_all parts)) same ∙ get_behind (trees_of t) (trees_of_all parts) n ∙ part_in_all parts i part e

pub part_places : (t part : Tree) (parts : List Tree) (place i : ℕ) → tree_at t place ≡ Some (tree.List parts) → slice_get parts i ≡ Some part → tree_at t (place_of_part place parts i) ≡ Some part
part_places t part parts place i e here =
    let m = sum (map count_of (take i parts)) in
    let found = part_in_all parts i part here in
    let inner : tree_at (tree.List parts) (suc m) ≡ Some part = ap (λ ts. slice_get ts (suc m)) (trees_of-List parts) ∙ found in
    let room : suc m < count_of (tree.List parts) = omega (arith, slice_get_within (trees_of (tree.List parts)) (suc m) part inner, counted (tree.List parts)) in
    let same : (place + 1) + m ≡ place + suc m = omega arith in
    ap (tree_at t) same ∙ within t (tree.List parts) place (suc m) e room ∙ inner
