-- Trees that a declaration may have: their tokens, how deep they nest, how many trees they have.
use Rattle.std.proofs.Common.{◌≡◌, ◌∙◌, ℕ, ◌+◌, ◌≤◌, ◌<◌, ◌^◌, max, List, [], ◌∷◌, ◌++◌, map, sum}
use Rattle.std.proofs.Common.{ap, sym, subst, arith, append-nil, append_assoc}
use Rattle.std.proofs.lemmas.List.Sums.{sum_by-cons}
use Rattle.std.specs.List.{AllByRecursion}
use Rattle.kat_tree.specs.declared.tree.Token.{Token}
use Rattle.kat_tree.specs.declared.tree.Token.TheVariants.{Number as NumberToken, Name as NameToken}
use Rattle.kat_tree.specs.declared.tree.Tree.{Tree}
use Rattle.kat_tree.specs.declared.tree.Tree.TheVariants as tree
use Rattle.kat_tree.specs.declared.tree.Tree.TheVariants.{rolls-Atom, rolls-List}
use Rattle.kat_tree.specs.declared.tree.Tree.TheOpen.{Tree-F}
use Rattle.kat_tree.specs.declared.tree.Tree.TheFolds.{fold-roll-Tree}
use Rattle.kat_tree.specs.Lexeme.{greatest, joined, nesting, nesting_in}
use Rattle.kat_tree.specs.Preorder.{count_in, count_of}
use Rattle.kat_tree.specs.Written.{IsNameToken, IsToken, tokens_in, tokens_of}
use Rattle.kat_ast.specs.Parts.{form, number, word}

-- a tree of such tokens, that nests at most so many brackets and has at most so many trees
pub record IsSound (t : Tree) (depth most : ℕ) : Type 0 where
  pub tokens : AllByRecursion IsToken (tokens_of t)
  pub nested : nesting t ≤ depth
  pub count : count_of t ≤ most

-- trees side by side
pub record AreSound (ts : List Tree) (depth most : ℕ) : Type 0 where
  pub tokens : AllByRecursion IsToken (joined (map tokens_of ts))
  pub nested : greatest (map nesting ts) ≤ depth
  pub count : sum (map count_of ts) ≤ most

tokens-Atom : (token : Token) → tokens_of (tree.Atom token) ≡ token ∷ []
tokens-Atom token =
    ap tokens_of (sym (rolls-Atom token))
    ∙ fold-roll-Tree (List Token) tokens_in (Tree-F.Atom token)

tokens-List : (parts : List Tree) → tokens_of (tree.List parts) ≡ joined (map tokens_of parts)
tokens-List parts =
    ap tokens_of (sym (rolls-List parts))
    ∙ fold-roll-Tree (List Token) tokens_in (Tree-F.List parts)

nesting-Atom : (token : Token) → nesting (tree.Atom token) ≡ 0
nesting-Atom token =
    ap nesting (sym (rolls-Atom token)) ∙ fold-roll-Tree ℕ nesting_in (Tree-F.Atom token)

nesting-List : (parts : List Tree) → nesting (tree.List parts) ≡ greatest (map nesting parts) + 1
nesting-List parts =
    ap nesting (sym (rolls-List parts)) ∙ fold-roll-Tree ℕ nesting_in (Tree-F.List parts)

count-Atom : (token : Token) → count_of (tree.Atom token) ≡ 1
count-Atom token =
    ap count_of (sym (rolls-Atom token)) ∙ fold-roll-Tree ℕ count_in (Tree-F.Atom token)

count-List : (parts : List Tree) → count_of (tree.List parts) ≡ sum (map count_of parts) + 1
count-List parts =
    ap count_of (sym (rolls-List parts)) ∙ fold-roll-Tree ℕ count_in (Tree-F.List parts)

all_of : (xs ys : List Token) → AllByRecursion IsToken xs → AllByRecursion IsToken ys
    → AllByRecursion IsToken (xs ++ ys)
all_of [] ys first others = others
all_of (x ∷ xs) ys first others = (first.0, all_of xs ys first.1 others)

pub atom_sound : (token : Token) → IsToken token → IsSound (tree.Atom token) 0 1
atom_sound token is =
    let depth = nesting-Atom token in
    let count = count-Atom token in
    record {
      tokens = subst (AllByRecursion IsToken) (sym (tokens-Atom token)) (is, tt);
      nested = omega arith;
      count = omega arith;
    }

pub word_sound : (w : List ℕ) → IsNameToken w → IsSound (word w) 0 1
word_sound w is = atom_sound (NameToken w) is

pub number_sound : (n : ℕ) → n < 2 ^ 64 → IsSound (number n) 0 1
number_sound n is = atom_sound (NumberToken n) is

pub none : AreSound [] 0 0
none = record { tokens = tt; nested = omega arith; count = omega arith }

pub more : (t : Tree) (ts : List Tree) {d e c k : ℕ} → IsSound t d c → AreSound ts e k
    → AreSound (t ∷ ts) (max d e) (c + k)
more t ts first others =
    let depth = first.nested in
    let depths = others.nested in
    let count = first.count in
    let counts = others.count in
    let own = sum_by-cons (λ (n : ℕ). n) (count_of t) (map count_of ts) in
    record {
      tokens = all_of (tokens_of t) (joined (map tokens_of ts)) first.tokens others.tokens;
      nested = omega arith;
      count = omega arith;
    }

pub list_sound : (ts : List Tree) {d c : ℕ} → AreSound ts d c
    → IsSound (tree.List ts) (d + 1) (c + 1)
list_sound ts are =
    let depth = nesting-List ts in
    let count = count-List ts in
    let depths = are.nested in
    let counts = are.count in
    record {
      tokens = subst (AllByRecursion IsToken) (sym (tokens-List ts)) are.tokens;
      nested = omega arith;
      count = omega arith;
    }

pub form_sound : (head : List ℕ) (ts : List Tree) {d c : ℕ} → IsNameToken head → AreSound ts d c
    → IsSound (form head ts) (max 0 d + 1) (1 + c + 1)
form_sound head ts is are =
    list_sound (word head ∷ ts) (more (word head) ts (word_sound head is) are)

-- the same with other bounds
pub at_most : {t : Tree} {d c : ℕ} (depth count : ℕ) → IsSound t d c → d ≤ depth → c ≤ count
    → IsSound t depth count
at_most depth count is deep many =
    let own = is.nested in
    let trees = is.count in
    record { tokens = is.tokens; nested = omega arith; count = omega arith }

pub all_at_most : {ts : List Tree} {d c : ℕ} (depth count : ℕ) → AreSound ts d c → d ≤ depth
    → c ≤ count → AreSound ts depth count
all_at_most depth count are deep many =
    let own = are.nested in
    let trees = are.count in
    record { tokens = are.tokens; nested = omega arith; count = omega arith }

-- one more tree behind trees
tokens_more : (ts : List Tree) (t : Tree)
    → joined (map tokens_of (ts ++ t ∷ [])) ≡ joined (map tokens_of ts) ++ tokens_of t
tokens_more [] t = append-nil (tokens_of t)
tokens_more (x ∷ xs) t =
    ap (λ (more : List Token). tokens_of x ++ more) (tokens_more xs t)
    ∙ sym (append_assoc (tokens_of x) (joined (map tokens_of xs)) (tokens_of t))

nesting_more : (ts : List Tree) (t : Tree)
    → greatest (map nesting (ts ++ t ∷ [])) ≤ max (greatest (map nesting ts)) (nesting t)
nesting_more [] t = omega arith
nesting_more (x ∷ xs) t = let ih = nesting_more xs t in omega arith

count_more : (ts : List Tree) (t : Tree)
    → sum (map count_of (ts ++ t ∷ [])) ≡ sum (map count_of ts) + count_of t
count_more [] t = omega arith
count_more (x ∷ xs) t =
    let ih = count_more xs t in
    let longer = sum_by-cons (λ (n : ℕ). n) (count_of x) (map count_of (xs ++ t ∷ [])) in
    let own = sum_by-cons (λ (n : ℕ). n) (count_of x) (map count_of xs) in
    omega arith

pub one_more : (ts : List Tree) (t : Tree) {d c e k : ℕ} → AreSound ts d c → IsSound t e k
    → AreSound (ts ++ t ∷ []) (max d e) (c + k)
one_more ts t are is =
    let depths = are.nested in
    let counts = are.count in
    let depth = is.nested in
    let count = is.count in
    let both = nesting_more ts t in
    let all = count_more ts t in
    record {
      tokens = subst (AllByRecursion IsToken) (sym (tokens_more ts t))
          (all_of (joined (map tokens_of ts)) (tokens_of t) are.tokens is.tokens);
      nested = omega arith;
      count = omega arith;
    }
