-- Lists part by part: the parts that stand in one, how many trees they have, and truths.
use Rattle.std.proofs.Common.{◌≡◌, ℕ, zero, suc, Bool, ◌&&◌, ◌+◌, ◌-◌, ◌<◌, ◌≤◌, List, [], ◌∷◌, ◌++◌, length, take, drop, map, sum, sum_by, true, false, refl, ap, sym, subst, ◌∙◌, arith, length-drop}
use Rattle.std.specs.List.{AllByRecursion}
use Rattle.std.proofs.lemmas.List.Sums.{sum_by-cons, sum-map}
use Rattle.std.proofs.lemmas.List.{drop_all, drop_more, take_more, take_all}
use Rattle.kat_tree.specs.declared.tree.Tree.{Tree}
use Rattle.kat_tree.specs.declared.tree.Tree.TheVariants as variant
use Rattle.kat_tree.specs.declared.tree.Tree.TheVariants.{rolls-Atom, rolls-List}
use Rattle.kat_tree.specs.declared.tree.Tree.TheOpen.{Tree-F}
use Rattle.kat_tree.specs.declared.tree.Tree.TheFolds.{fold-roll-Tree}
use Rattle.kat_tree.specs.Preorder.{count_in, count_of}
use Rattle.kat_ast.specs.Parts.{every, word}
use Rattle.kat_tree.specs.declared.tree.Token.TheVariants as token
use Rattle.kat_shapes.specs.declared.sort.Sort.{Sort}
use Rattle.kat_grammar.specs.Parts.{FitsSort, At, counts}

-- equal parts make equal lists
pub same1 : {A : Type 0} {a x : A} → a ≡ x → a ∷ [] ≡ x ∷ []
same1 p = ap (λ y. y ∷ []) p

pub same_first : {A : Type 0} {a x : A} {as_ xs : List A} → a ≡ x → as_ ≡ xs → a ∷ as_ ≡ x ∷ xs
same_first p q = cc

pub same2 : {A : Type 0} {a b x y : A} → a ≡ x → b ≡ y → a ∷ b ∷ [] ≡ x ∷ y ∷ []
same2 p q = same_first p (same1 q)

pub same3 : {A : Type 0} {a b c x y z : A} → a ≡ x → b ≡ y → c ≡ z → a ∷ b ∷ c ∷ [] ≡ x ∷ y ∷ z ∷ []
same3 p q r = same_first p (same2 q r)

pub same4 : {A : Type 0} {a b c d x y z u : A} → a ≡ x → b ≡ y → c ≡ z → d ≡ u → a ∷ b ∷ c ∷ d ∷ [] ≡ x ∷ y ∷ z ∷ u ∷ []
same4 p q r s = same_first p (same3 q r s)

pub same5 : {A : Type 0} {a b c d e x y z u v : A} → a ≡ x → b ≡ y → c ≡ z → d ≡ u → e ≡ v → a ∷ b ∷ c ∷ d ∷ e ∷ [] ≡ x ∷ y ∷ z ∷ u ∷ v ∷ []
same5 p q r s t = same_first p (same4 q r s t)

pub same6 : {A : Type 0} {a b c d e f x y z u v w : A} → a ≡ x → b ≡ y → c ≡ z → d ≡ u → e ≡ v → f ≡ w →
    a ∷ b ∷ c ∷ d ∷ e ∷ f ∷ [] ≡ x ∷ y ∷ z ∷ u ∷ v ∷ w ∷ []
same6 p q r s t o = same_first p (same5 q r s t o)

-- what stands from a place on: nothing past the end, and else a part and what stands behind it
nothing : (parts : List Tree) (i : ℕ) → length parts ≤ i → drop i parts ≡ []
nothing parts i past = drop_all i parts past

next : (parts : List Tree) (i : ℕ) (part : Tree) (rest : List Tree) → i < length parts → At parts i part → drop (i + 1) parts ≡ rest →
    drop i parts ≡ part ∷ rest
next parts i part rest within at left =
    drop_more parts i part within ∙ ap (λ t. t ∷ drop (i + 1) parts) (sym at) ∙ ap (λ ts. part ∷ ts) left

-- lists of a set count of parts
two : (parts : List Tree) (a b : Tree) → length parts ≡ 2 → At parts 0 a → At parts 1 b → parts ≡ a ∷ b ∷ []
two parts a b long p q = next parts 0 a (b ∷ []) (omega arith) p (next parts 1 b [] (omega arith) q (nothing parts 2 (omega arith)))

three : (parts : List Tree) (a b c : Tree) → length parts ≡ 3 → At parts 0 a → At parts 1 b → At parts 2 c → parts ≡ a ∷ b ∷ c ∷ []
three parts a b c long p q r =
    next parts 0 a (b ∷ c ∷ []) (omega arith) p (next parts 1 b (c ∷ []) (omega arith) q (next parts 2 c [] (omega arith) r (nothing parts 3 (omega arith))))

four : (parts : List Tree) (a b c d : Tree) → length parts ≡ 4 → At parts 0 a → At parts 1 b → At parts 2 c → At parts 3 d → parts ≡ a ∷ b ∷ c ∷ d ∷ []
four parts a b c d long p q r s =
    next parts 0 a (b ∷ c ∷ d ∷ []) (omega arith) p (next parts 1 b (c ∷ d ∷ []) (omega arith) q
    (next parts 2 c (d ∷ []) (omega arith) r (next parts 3 d [] (omega arith) s (nothing parts 4 (omega arith)))))

five : (parts : List Tree) (a b c d e : Tree) → length parts ≡ 5 → At parts 0 a → At parts 1 b → At parts 2 c → At parts 3 d → At parts 4 e →
    parts ≡ a ∷ b ∷ c ∷ d ∷ e ∷ []
five parts a b c d e long p q r s t =
    next parts 0 a (b ∷ c ∷ d ∷ e ∷ []) (omega arith) p (next parts 1 b (c ∷ d ∷ e ∷ []) (omega arith) q
    (next parts 2 c (d ∷ e ∷ []) (omega arith) r (next parts 3 d (e ∷ []) (omega arith) s (next parts 4 e [] (omega arith) t (nothing parts 5 (omega arith))))))

-- so a list is these parts, where each is one of them
pub two_are : (parts : List Tree) (a b x y : Tree) → length parts ≡ 2 → At parts 0 a → At parts 1 b → x ≡ a → y ≡ b → x ∷ y ∷ [] ≡ parts
two_are parts a b x y long p q e f = same2 e f ∙ sym (two parts a b long p q)

pub three_are : (parts : List Tree) (a b c x y z : Tree) → length parts ≡ 3 → At parts 0 a → At parts 1 b → At parts 2 c → x ≡ a → y ≡ b → z ≡ c → x ∷ y ∷ z ∷ [] ≡ parts
three_are parts a b c x y z long p q r e f g = same3 e f g ∙ sym (three parts a b c long p q r)

pub four_are : (parts : List Tree) (a b c d x y z u : Tree) → length parts ≡ 4 → At parts 0 a → At parts 1 b → At parts 2 c → At parts 3 d → x ≡ a → y ≡ b → z ≡ c → u ≡ d → x ∷ y ∷ z ∷ u ∷ [] ≡ parts
four_are parts a b c d x y z u long p q r s e f g h = same4 e f g h ∙ sym (four parts a b c d long p q r s)

pub five_are : (parts : List Tree) (a b c d o x y z u v : Tree) → length parts ≡ 5 → At parts 0 a → At parts 1 b → At parts 2 c → At parts 3 d → At parts 4 o → x ≡ a → y ≡ b → z ≡ c → u ≡ d → v ≡ o →
    x ∷ y ∷ z ∷ u ∷ v ∷ [] ≡ parts
five_are parts a b c d o x y z u v long p q r s t e f g h k = same5 e f g h k ∙ sym (five parts a b c d o long p q r s t)

-- what stands behind the first parts of a list
pub rest_is : (parts : List Tree) (k : ℕ) → take (length parts - k) (drop k parts) ≡ drop k parts
rest_is parts k = take_all (length parts - k) (drop k parts) (omega (arith, length-drop k parts))

-- a first part, and all others
pub one_and : (parts : List Tree) (a : Tree) → 1 ≤ length parts → At parts 0 a → parts ≡ a ∷ take (length parts - 1) (drop 1 parts)
one_and parts a long p = next parts 0 a _ (omega arith) p (sym (rest_is parts 1))

-- no parts
pub no_parts : (parts : List Tree) → length parts ≡ 0 → [] ≡ parts
no_parts [] e = refl
no_parts (t ∷ parts) e = absurd (omega arith)

-- all parts but the last, and the last
pub with_last : (parts : List Tree) (n : ℕ) (part : Tree) → length parts ≡ n + 1 → At parts n part → take n parts ++ part ∷ [] ≡ parts
with_last [] n part long at = absurd (omega arith)
with_last (t ∷ []) zero part long at = ap (λ u. u ∷ []) at
with_last (t ∷ u ∷ parts) zero part long at = absurd (omega arith)
with_last (t ∷ parts) (suc n) part long at = ap (λ ts. t ∷ ts) (with_last parts n part (omega arith) at)

by_counts : (parts : List Tree) → sum_by count_of parts ≡ counts parts
by_counts [] = refl
by_counts (t ∷ parts) = sum_by-cons count_of t parts ∙ ap (λ n. count_of t + n) (by_counts parts)

sum_counts : (parts : List Tree) → sum (map count_of parts) ≡ counts parts
sum_counts parts = sum-map count_of parts ∙ by_counts parts

-- a list has one more than its parts
pub count-List : (parts : List Tree) → count_of (variant.List parts) ≡ counts parts + 1
count-List parts = ap count_of (sym (rolls-List parts)) ∙ fold-roll-Tree ℕ count_in (Tree-F.List parts) ∙ ap (λ n. n + 1) (sum_counts parts)

-- the parts behind a word have fewer
pub behind_fewer : (x : List ℕ) (behind parts : List Tree) → word x ∷ behind ≡ parts → counts behind + 1 ≡ counts parts
behind_fewer x behind parts same =
    let e : count_of (word x) ≡ 1 = ap count_of (sym (rolls-Atom (token.Name x))) ∙ fold-roll-Tree ℕ count_in (Tree-F.Atom (token.Name x)) in
    omega (arith, e, ap counts same)

-- a part has no more trees than all parts
pub part_among : (parts : List Tree) (i : ℕ) (part : Tree) → i < length parts → At parts i part → count_of part ≤ counts parts
part_among [] i part within at = absurd (omega arith)
part_among (t ∷ parts) zero part within at = omega (arith, ap count_of at)
part_among (t ∷ parts) (suc i) part within at = let e = part_among parts i part (omega arith) at in omega arith

rest_fewer : (k : ℕ) (parts : List Tree) → counts (drop k parts) ≤ counts parts
rest_fewer zero parts = omega arith
rest_fewer (suc k) [] = omega arith
rest_fewer (suc k) (t ∷ parts) = let e = rest_fewer k parts in omega arith

-- nor have the parts from a place on
pub rest_among : (parts : List Tree) (k : ℕ) → counts (take (length parts - k) (drop k parts)) ≤ counts parts
rest_among parts k = omega (arith, ap counts (rest_is parts k), rest_fewer k parts)

-- truths
pub both : (a b : Bool) → a ≡ true → b ≡ true → a && b ≡ true
both a b p q = rw (p, q) refl

-- all of these are true
pub and2 : {a b : Bool} → a ≡ true → b ≡ true → a && b ≡ true
and2 p q = rw (p, q) refl

pub and3 : {a b c : Bool} → a ≡ true → b ≡ true → c ≡ true → a && (b && c) ≡ true
and3 p q r = and2 p (and2 q r)

pub and4 : {a b c d : Bool} → a ≡ true → b ≡ true → c ≡ true → d ≡ true → a && (b && (c && d)) ≡ true
and4 p q r s = and2 p (and3 q r s)

pub and5 : {a b c d e : Bool} → a ≡ true → b ≡ true → c ≡ true → d ≡ true → e ≡ true → a && (b && (c && (d && e))) ≡ true
and5 p q r s t = and2 p (and4 q r s t)

pub and6 : {a b c d e f : Bool} → a ≡ true → b ≡ true → c ≡ true → d ≡ true → e ≡ true → f ≡ true → a && (b && (c && (d && (e && f)))) ≡ true
and6 p q r s t u = and2 p (and5 q r s t u)

pub left_true : (a b : Bool) → a && b ≡ true → a ≡ true
left_true true b e = refl
left_true false b e = absurd (cc)

pub right_true : (a b : Bool) → a && b ≡ true → b ≡ true
right_true true b e = e
right_true false b e = absurd (cc)

-- one of trees that fit
pub each_fits : (s : Sort) (trees : List Tree) (i : ℕ) (tree : Tree) → AllByRecursion (FitsSort s) trees → i < length trees → At trees i tree → FitsSort s tree
each_fits s [] i tree all within at = absurd (omega arith)
each_fits s (first ∷ trees) zero tree all within at = subst (FitsSort s) (sym at) all.0
each_fits s (first ∷ trees) (suc i) tree all within at = each_fits s trees i tree all.1 (omega arith) at

every-append : (bs : List Bool) (b : Bool) → every (bs ++ b ∷ []) ≡ every bs && (b && true)
every-append [] b = refl
every-append (true ∷ bs) b = every-append bs b
every-append (false ∷ bs) b = refl

-- one more of the parts was read: written again it is this part, and it is well formed
pub more_made : (parts made : List Tree) (formed : List Bool) (at : ℕ) (one part : Tree) (is_formed : Bool) → made ≡ take at parts → every formed ≡ true → at < length parts → At parts at part → one ≡ part → is_formed ≡ true →
    (made ++ one ∷ [] ≡ take (at + 1) parts) × (every (formed ++ is_formed ∷ []) ≡ true)
more_made parts made formed at one part is_formed same all within here is well = (
  ap (λ ps. ps ++ one ∷ []) same ∙ ap (λ p. take at parts ++ p ∷ []) (is ∙ here) ∙ sym (take_more parts at part within),
  every-append formed is_formed ∙ both (every formed) (is_formed && true) all (both is_formed true well refl),
)
