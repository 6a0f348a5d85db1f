-- Tokens alone: what the reader's progress becomes with each, and what it stands for.
use Rattle.std.proofs.Common.{◌≡◌, ◌≢◌, ℕ, ◌+◌, ◌<◌, ◌≤◌, max, Bool, true, false, cond, ltb, List, [], ◌∷◌, ◌++◌, length, map, Option, Some, None, sym, ap, ◌∙◌, subst, refl, arith, append_assoc, append-nil}
use Rattle.std.proofs.lemmas.Bool.{lt-ltb, ltb-true}
use Rattle.std.specs.Option.{option_and_then}
use Rattle.std.specs.List.{AllByRecursion}
use Rattle.kat_tree.specs.declared.tree.Token.{Token}
use Rattle.kat_tree.specs.declared.tree.Token.TheVariants.{Number}
use Rattle.kat_tree.specs.declared.tree.Tree.{Tree}
use Rattle.kat_tree.specs.declared.tree.Tree.TheVariants as tree
use Rattle.kat_tree.specs.declared.progress.Progress.{Progress}
use Rattle.kat_tree.specs.declared.progress.Progress.TheVariants.{Open, Whole}
use Rattle.kat_tree.specs.Lexeme.{Lexeme, Opening, Closing, Leaf, joined, lexemes_of, lexemes_of_all, nesting, nesting_of_all}
use Rattle.kat_tree.specs.Faults.{IsUnfinished, IsFinished, openings, closings}
use Rattle.kat_tree.specs.Machine.{with_tree}
use Rattle.kat_tree.proofs.Trees.{tree_induction, lexemes_of-Atom, lexemes_of-List, nesting-Atom, nesting-List}

-- one token more, if the reader goes on with it
abbrev pub taken : Progress → Lexeme → Option Progress
taken (Whole t) x = None
taken (Open lists) Opening = cond (ltb (length lists) 64) (Some (Open ([] ∷ lists))) None
taken (Open []) Closing = None
taken (Open (list ∷ outer)) Closing = Some (with_tree (tree.List list) outer)
taken (Open lists) (Leaf token) = Some (with_tree (tree.Atom token) lists)

-- tokens one after another
abbrev pub goes : Progress → List Lexeme → Option Progress
goes p [] = Some p
goes p (x ∷ xs) = option_and_then (λ q. goes q xs) (taken p x)

through : (r : Option Progress) (xs ys : List Lexeme) → ((p : Progress) → goes p (xs ++ ys) ≡ option_and_then (λ q. goes q ys) (goes p xs)) → option_and_then (λ q. goes q (xs ++ ys)) r ≡ option_and_then (λ q. goes q ys) (option_and_then (λ q. goes q xs) r)
through None xs ys h = refl
through (Some p) xs ys h = h p

pub goes-append : (xs ys : List Lexeme) (p : Progress) → goes p (xs ++ ys) ≡ option_and_then (λ q. goes q ys) (goes p xs)
goes-append [] ys p = refl
goes-append (x ∷ xs) ys p = through (taken p x) xs ys (goes-append xs ys)

-- a tree's tokens add the tree
abbrev pub Adds : Tree → Type 0
Adds t = (lists : List (List Tree)) → nesting t + length lists ≤ 64 → goes (Open lists) (lexemes_of t) ≡ Some (with_tree t lists)

adds_atom : (token : Token) → Adds (tree.Atom token)
adds_atom token lists h = ap (goes (Open lists)) (lexemes_of-Atom token) ∙ refl

adds_all : (trees : List Tree) → AllByRecursion Adds trees → (list : List Tree) (outer : List (List Tree)) → nesting_of_all trees + (length outer + 1) ≤ 64 → goes (Open (list ∷ outer)) (lexemes_of_all trees) ≡ Some (Open ((list ++ trees) ∷ outer))
adds_all [] all list outer h = ap (λ l. Some (Open (l ∷ outer))) (sym (append-nil list))
adds_all (t ∷ ts) all list outer h =
    goes-append (lexemes_of t) (lexemes_of_all ts) (Open (list ∷ outer))
    ∙ ap (option_and_then (λ q. goes q (lexemes_of_all ts))) (all.0 (list ∷ outer) (omega arith))
    ∙ adds_all ts all.1 (list ++ t ∷ []) outer (omega arith)
    ∙ ap (λ l. Some (Open (l ∷ outer))) (append_assoc list (t ∷ []) ts)

adds_list : (trees : List Tree) → AllByRecursion Adds trees → Adds (tree.List trees)
adds_list trees all lists h =
    let n = nesting-List trees in
    let room : length lists < 64 = omega arith in
    let inner : nesting_of_all trees + (length lists + 1) ≤ 64 = omega arith in
    ap (goes (Open lists)) (lexemes_of-List trees)
    ∙ ap (λ b. option_and_then (λ q. goes q (lexemes_of_all trees ++ Closing ∷ [])) (cond b (Some (Open ([] ∷ lists))) None)) (lt-ltb (length lists) 64 room)
    ∙ goes-append (lexemes_of_all trees) (Closing ∷ []) (Open ([] ∷ lists))
    ∙ ap (option_and_then (λ q. goes q (Closing ∷ []))) (adds_all trees all [] lists inner)

pub tree_adds : (t : Tree) → Adds t
tree_adds = tree_induction Adds adds_atom adds_list

-- the tokens that progress stands for
abbrev pub read_so_far : List (List Tree) → List Lexeme
read_so_far [] = []
read_so_far (list ∷ outer) = read_so_far outer ++ Opening ∷ lexemes_of_all list

abbrev pub tokens_of : Progress → List Lexeme
tokens_of (Whole t) = lexemes_of t
tokens_of (Open lists) = read_so_far lists

-- no more brackets are open than may be
abbrev pub ListsFit : List (List Tree) → Type 0
ListsFit [] = Unit {0}
ListsFit (list ∷ outer) = (nesting_of_all list + (length outer + 1) ≤ 64) × ListsFit outer

abbrev pub ProgressFits : Progress → Type 0
ProgressFits (Whole t) = nesting t ≤ 64
ProgressFits (Open lists) = ListsFit lists

joined-append : (xs ys : List (List Lexeme)) → joined (xs ++ ys) ≡ joined xs ++ joined ys
joined-append [] ys = refl
joined-append (x ∷ xs) ys = ap (λ rest. x ++ rest) (joined-append xs ys) ∙ sym (append_assoc x (joined xs) (joined ys))

map-append : {A B : Type 0} (f : A → B) (xs ys : List A) → map f (xs ++ ys) ≡ map f xs ++ map f ys
map-append f [] ys = refl
map-append f (x ∷ xs) ys = ap (λ rest. f x ∷ rest) (map-append f xs ys)

-- a tree more in the innermost list
lexemes_of_all-push : (trees : List Tree) (t : Tree) → lexemes_of_all (trees ++ t ∷ []) ≡ lexemes_of_all trees ++ lexemes_of t
lexemes_of_all-push trees t =
    ap joined (map-append lexemes_of trees (t ∷ [])) ∙ joined-append (map lexemes_of trees) (lexemes_of t ∷ []) ∙ ap (λ rest. lexemes_of_all trees ++ rest) (append-nil (lexemes_of t))

nesting_of_all-push : (trees : List Tree) (t : Tree) → nesting_of_all (trees ++ t ∷ []) ≡ max (nesting_of_all trees) (nesting t)
nesting_of_all-push [] t = omega arith
nesting_of_all-push (u ∷ trees) t = omega (arith, nesting_of_all-push trees t)

tokens-with_tree : (t : Tree) (lists : List (List Tree)) → tokens_of (with_tree t lists) ≡ read_so_far lists ++ lexemes_of t
tokens-with_tree t [] = refl
tokens-with_tree t (list ∷ outer) =
    ap (λ rest. read_so_far outer ++ Opening ∷ rest) (lexemes_of_all-push list t) ∙ sym (append_assoc (read_so_far outer) (Opening ∷ lexemes_of_all list) (lexemes_of t))

pub none_some : {A : Type 0} (y : A) → None ≡ Some y → ⊥
none_some y e = cc

fits-with_tree : (t : Tree) (lists : List (List Tree)) → ListsFit lists → nesting t + length lists ≤ 64 → ProgressFits (with_tree t lists)
fits-with_tree t [] fits h = omega arith
fits-with_tree t (list ∷ outer) fits h = let n = nesting_of_all-push list t in (omega arith, fits.1)

pub lists_fit_count : (lists : List (List Tree)) → ListsFit lists → length lists ≤ 64
lists_fit_count [] fits = omega arith
lists_fit_count (list ∷ outer) fits = let n = fits.0 in omega arith

pub some_same : {A : Type 0} (x y : A) → Some x ≡ Some y → x ≡ y
some_same x y e = cc

pub chosen_some : {A : Type 0} (b : Bool) (x y : A) → cond b (Some x) None ≡ Some y → (b ≡ true) × (x ≡ y)
chosen_some true x y e = (refl, some_same x y e)
chosen_some false x y e = absurd (none_some y e)

pub and_then_some : {A B : Type 0} (r : Option A) (f : A → Option B) (y : B) → option_and_then f r ≡ Some y → (x : A) × ((r ≡ Some x) × (f x ≡ Some y))
and_then_some None f y e = absurd (none_some y e)
and_then_some (Some x) f y e = (x, (refl, e))

-- a bracket closes
close_tokens : (list : List Tree) (outer : List (List Tree)) → tokens_of (with_tree (tree.List list) outer) ≡ read_so_far (list ∷ outer) ++ Closing ∷ []
close_tokens list outer =
    tokens-with_tree (tree.List list) outer
    ∙ ap (λ rest. read_so_far outer ++ rest) (lexemes_of-List list)
    ∙ sym (append_assoc (read_so_far outer) (Opening ∷ lexemes_of_all list) (Closing ∷ []))

leaf_tokens : (token : Token) (lists : List (List Tree)) → tokens_of (with_tree (tree.Atom token) lists) ≡ read_so_far lists ++ Leaf token ∷ []
leaf_tokens token lists = tokens-with_tree (tree.Atom token) lists ∙ ap (λ rest. read_so_far lists ++ rest) (lexemes_of-Atom token)

abbrev Follows : Progress → Lexeme → Progress → Type 0
Follows p x q = (tokens_of q ≡ tokens_of p ++ x ∷ []) × ProgressFits q

-- what progress is worth with one token more
taken_tokens : (p q : Progress) (x : Lexeme) → taken p x ≡ Some q → ProgressFits p → (tokens_of q ≡ tokens_of p ++ x ∷ []) × ProgressFits q
taken_tokens (Whole t) q x e fits = absurd (none_some q e)
taken_tokens (Open lists) q Opening e fits =
    let opens = chosen_some (ltb (length lists) 64) (Open ([] ∷ lists)) q e in
    let room : length lists < 64 = ltb-true (length lists) 64 opens.0 in
    subst (Follows (Open lists) Opening) opens.1 (refl, (omega arith, fits))
taken_tokens (Open []) q Closing e fits = absurd (none_some q e)
taken_tokens (Open (list ∷ outer)) q Closing e fits =
    let n = nesting-List list in
    let within = fits.0 in
    subst (Follows (Open (list ∷ outer)) Closing) (some_same (with_tree (tree.List list) outer) q e)
    (close_tokens list outer, fits-with_tree (tree.List list) outer fits.1 (omega arith))
taken_tokens (Open lists) q (Leaf token) e fits =
    let n = nesting-Atom token in
    let within = lists_fit_count lists fits in
    subst (Follows (Open lists) (Leaf token)) (some_same (with_tree (tree.Atom token) lists) q e)
    (leaf_tokens token lists, fits-with_tree (tree.Atom token) lists fits (omega arith))

pub goes_tokens : (xs : List Lexeme) (p q : Progress) → goes p xs ≡ Some q → ProgressFits p → (tokens_of q ≡ tokens_of p ++ xs) × ProgressFits q
goes_tokens [] p q e fits =
    let same = some_same p q e in
    (ap tokens_of (sym same) ∙ sym (append-nil (tokens_of p)), subst ProgressFits same fits)
goes_tokens (x ∷ xs) p q e fits =
    let step = and_then_some (taken p x) (λ r. goes r xs) q e in
    let first = taken_tokens p step.0 x step.1.0 fits in
    let others = goes_tokens xs step.0 q step.1.1 first.1 in
    (others.0 ∙ ap (λ front. front ++ xs) first.0 ∙ append_assoc (tokens_of p) (x ∷ []) xs, others.1)

-- how many lists are open
abbrev pub open_count : Progress → ℕ
open_count (Whole t) = 0
open_count (Open lists) = length lists

open_count-with_tree : (t : Tree) (lists : List (List Tree)) → open_count (with_tree t lists) ≡ length lists
open_count-with_tree t [] = refl
open_count-with_tree t (list ∷ outer) = refl

taken_count : (p q : Progress) (x : Lexeme) (xs : List Lexeme) → taken p x ≡ Some q → (openings (x ∷ xs) + open_count p) + closings xs ≡ (closings (x ∷ xs) + open_count q) + openings xs
taken_count (Whole t) q x xs e = absurd (none_some q e)
taken_count (Open lists) q Opening xs e =
    let same = ap open_count (chosen_some (ltb (length lists) 64) (Open ([] ∷ lists)) q e).1 in omega arith
taken_count (Open []) q Closing xs e = absurd (none_some q e)
taken_count (Open (list ∷ outer)) q Closing xs e =
    let same = ap open_count (some_same (with_tree (tree.List list) outer) q e) in
    let n = open_count-with_tree (tree.List list) outer in omega arith
taken_count (Open lists) q (Leaf token) xs e =
    let same = ap open_count (some_same (with_tree (tree.Atom token) lists) q e) in
    let n = open_count-with_tree (tree.Atom token) lists in omega arith

pub goes_count : (xs : List Lexeme) (p q : Progress) → goes p xs ≡ Some q → openings xs + open_count p ≡ closings xs + open_count q
goes_count [] p q e = let same = ap open_count (some_same p q e) in omega arith
goes_count (x ∷ xs) p q e =
    let step = and_then_some (taken p x) (λ r. goes r xs) q e in
    omega (arith, taken_count p step.0 x xs step.1.0, goes_count xs step.0 q step.1.1)

regrouped : (front list t more : List Lexeme) → ((front ++ Opening ∷ list) ++ t) ++ Closing ∷ more ≡ (front ++ Opening ∷ ((list ++ t) ++ Closing ∷ [])) ++ more
regrouped front list t more = simp append_assoc

-- open lists can be closed again
pub lists_close : (lists : List (List Tree)) (t : Tree) → ListsFit lists → nesting t + length lists ≤ 64 → (more : List Lexeme) × ((whole : Tree) × (((read_so_far lists ++ lexemes_of t) ++ more ≡ lexemes_of whole) × (nesting whole ≤ 64)))
lists_close [] t fits h = ([], (t, (append-nil (lexemes_of t), omega arith)))
lists_close (list ∷ outer) t fits h =
    let u = tree.List (list ++ t ∷ []) in
    let n = nesting-List (list ++ t ∷ []) in
    let m = nesting_of_all-push list t in
    let within = fits.0 in
    let bound : nesting u + length outer ≤ 64 = omega arith in
    let closed = lists_close outer u fits.1 bound in
    let e : lexemes_of u ≡ Opening ∷ ((lexemes_of_all list ++ lexemes_of t) ++ Closing ∷ []) =
    lexemes_of-List (list ++ t ∷ []) ∙ ap (λ rest. Opening ∷ (rest ++ Closing ∷ [])) (lexemes_of_all-push list t) in (
      Closing ∷ closed.0,
      (
        closed.1.0,
        (
          regrouped (read_so_far outer) (lexemes_of_all list) (lexemes_of t) closed.0
              ∙ ap (λ rest. (read_so_far outer ++ rest) ++ closed.0) (sym e) ∙ closed.1.1.0,
          closed.1.1.1,
        ),
      ),
    )

pub cons_nil : {A : Type 0} (x : A) (xs : List A) → x ∷ xs ≡ [] → ⊥
cons_nil x xs e = cc

pub open_unfinished : (lists : List (List Tree)) → ListsFit lists → IsUnfinished (read_so_far lists)
open_unfinished lists fits =
    let n = nesting-Atom (Number 0) in
    let within = lists_fit_count lists fits in
    let closed = lists_close lists (tree.Atom (Number 0)) fits (omega arith) in
    record {
      more = Leaf (Number 0) ∷ closed.0;
      tree = closed.1.0;
      some = λ e. cons_nil (Leaf (Number 0)) closed.0 e;
      begins = sym (append_assoc (read_so_far lists) (Leaf (Number 0) ∷ []) closed.0)
          ∙ ap (λ rest. (read_so_far lists ++ rest) ++ closed.0) (sym (lexemes_of-Atom (Number 0))) ∙ closed.1.1.0;
      shallow = closed.1.1.1;
    }

still_open : (xs more : List Lexeme) (q end : Progress) → more ≢ [] → goes (Open []) xs ≡ Some q → goes q more ≡ Some end → (lists : List (List Tree)) × (goes (Open []) xs ≡ Some (Open lists))
still_open xs more (Open lists) end some front rest = (lists, front)
still_open xs [] (Whole t) end some front rest = absurd (some refl)
still_open xs (x ∷ more) (Whole t) end some front rest = absurd (none_some end rest)

pub unfinished_open : (xs : List Lexeme) → IsUnfinished xs → (lists : List (List Tree)) × (goes (Open []) xs ≡ Some (Open lists))
unfinished_open xs u =
    let n = u.shallow in
    let all = sym (goes-append xs u.more (Open [])) ∙ ap (goes (Open [])) u.begins ∙ tree_adds u.tree [] (omega arith) in
    let step = and_then_some (goes (Open []) xs) (λ q. goes q u.more) (Whole u.tree) all in
    still_open xs u.more step.0 (Whole u.tree) u.some step.1.0 step.1.1

pub finished_whole : (xs : List Lexeme) (f : IsFinished xs) → goes (Open []) xs ≡ Some (Whole f.tree)
finished_whole xs f = let n = f.shallow in ap (goes (Open [])) f.whole ∙ tree_adds f.tree [] (omega arith)
