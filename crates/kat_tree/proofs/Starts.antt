-- How many trees a text may begin: each takes a character of its own.
use Rattle.std.proofs.Common.{◌≡◌, ℕ, ◌+◌, ◌≤◌, List, [], ◌∷◌, ◌++◌, length, map, sum, ap, arith, length-append}
use Rattle.std.specs.List.{AllByRecursion}
use Rattle.std.specs.Str.{chars}
use Rattle.std.proofs.lemmas.Str.{encodes-chars, length-le-encodes}
use Rattle.kat_tree.specs.declared.tree.Tree.{Tree}
use Rattle.kat_tree.specs.Lexeme.{Lexeme, Opening, Closing, Leaf, lexemes_of, lexemes_of_all}
use Rattle.kat_tree.specs.Preorder.{count_of}
use Rattle.kat_tree.specs.Spelling.{Lexes, nothing, blank, comment, opening, closing, word, Spells}
use Rattle.kat_tree.proofs.Trees.{tree_induction, lexemes_of-Atom, lexemes_of-List}
use Rattle.kat_tree.proofs.Numbers.{sum-cons, count_of-Atom, count_of-List}

-- how many tokens begin a tree
abbrev pub starts : List Lexeme → ℕ
starts [] = 0
starts (Opening ∷ lexemes) = starts lexemes + 1
starts (Closing ∷ lexemes) = starts lexemes
starts (Leaf token ∷ lexemes) = starts lexemes + 1

starts-append : (xs ys : List Lexeme) → starts (xs ++ ys) ≡ starts xs + starts ys
starts-append [] ys = omega arith
starts-append (Opening ∷ xs) ys = omega (arith, starts-append xs ys)
starts-append (Closing ∷ xs) ys = starts-append xs ys
starts-append (Leaf token ∷ xs) ys = omega (arith, starts-append xs ys)

abbrev Started : Tree → Type 0
Started t = starts (lexemes_of t) ≡ count_of t

all_started : (parts : List Tree) → AllByRecursion Started parts → starts (lexemes_of_all parts) ≡ sum (map count_of parts)
all_started [] all = omega arith
all_started (t ∷ parts) all =
    let first = all.0 in
    omega (arith, starts-append (lexemes_of t) (lexemes_of_all parts), all_started parts all.1, sum-cons (count_of t) (map count_of parts))

pub started : (t : Tree) → Started t
started = tree_induction Started
    (λ token. let n = ap starts (lexemes_of-Atom token) in omega (arith, count_of-Atom token))
    (λ parts all.
    let n = ap starts (lexemes_of-List parts) in
    omega (arith, starts-append (lexemes_of_all parts) (Closing ∷ []), all_started parts all, count_of-List parts))

lexes_starts : (text : List ℕ) (lexemes : List Lexeme) (rest : List ℕ) → Lexes text lexemes rest → starts lexemes ≤ length text
lexes_starts text lexemes rest (nothing same) = omega arith
lexes_starts text lexemes rest (blank c more xs last is lexes) = omega (arith, lexes_starts more xs last lexes)
lexes_starts text lexemes rest (comment words more xs last all ends lexes) = omega (arith, lexes_starts more xs last lexes, length-append words more)
lexes_starts text lexemes rest (opening more xs last lexes) = omega (arith, lexes_starts more xs last lexes)
lexes_starts text lexemes rest (closing more xs last lexes) = omega (arith, lexes_starts more xs last lexes)
lexes_starts text lexemes rest (word [] more token xs last is stands ends lexes) = absurd is
lexes_starts text lexemes rest (word (c ∷ cs) more token xs last is stands ends lexes) = omega (arith, lexes_starts more xs last lexes, length-append cs more)

pub fits_text : (bytes : List ℕ) (t : Tree) → Spells bytes t → count_of t ≤ length bytes
fits_text bytes t spells =
    let n = started t in
    let m = ap length (encodes-chars bytes spells.0) in
    omega (arith, lexes_starts (chars bytes) (lexemes_of t) [] spells.1.0, length-le-encodes (chars bytes))
