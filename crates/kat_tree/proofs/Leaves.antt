-- The numbers and names of a text are such as a text can spell.
use Rattle.std.proofs.Common.{◌≡◌, ℕ, true, inl, inr, List, [], ◌∷◌, ◌++◌, map, sym, ap, ◌∙◌, subst, refl, append-nil}
use Rattle.std.proofs.Math.Utf8.{scalar, scalars}
use Rattle.std.specs.List.{AllByRecursion}
use Rattle.std.specs.Str.{chars}
use Rattle.std.proofs.lemmas.Bool.{and_parts, and_from}
use Rattle.std.proofs.lemmas.Str.{scalars-chars}
use Rattle.kat_tree.specs.declared.tree.Token.{Token}
use Rattle.kat_tree.specs.declared.tree.Token.TheVariants.{Number, Name}
use Rattle.kat_tree.specs.declared.tree.Tree.{Tree}
use Rattle.kat_tree.specs.declared.tree.Tree.TheVariants as tree
use Rattle.kat_tree.specs.declared.tree.Tree.TheVariants.{rolls-Atom, rolls-List}
use Rattle.kat_tree.specs.declared.tree.Tree.TheOpen.{Tree-F}
use Rattle.kat_tree.specs.declared.tree.Tree.TheFolds.{fold-roll-Tree}
use Rattle.kat_tree.specs.Lexeme.{Lexeme, Opening, Closing, Leaf, joined, lexemes_of, lexemes_of_all}
use Rattle.kat_tree.specs.Spelling.{Lexes, nothing, blank, comment, opening, closing, word, IsWord, SpellsToken, Spells}
use Rattle.kat_tree.specs.Written.{IsToken, IsWritable, tokens_in, tokens_of}
use Rattle.kat_tree.proofs.Trees.{tree_induction, lexemes_of-Atom, lexemes_of-List}

pub tokens_of-Atom : (token : Token) → tokens_of (tree.Atom token) ≡ token ∷ []
tokens_of-Atom token = ap tokens_of (sym (rolls-Atom token)) ∙ fold-roll-Tree (List Token) tokens_in (Tree-F.Atom token)

pub tokens_of-List : (parts : List Tree) → tokens_of (tree.List parts) ≡ joined (map tokens_of parts)
tokens_of-List parts = ap tokens_of (sym (rolls-List parts)) ∙ fold-roll-Tree (List Token) tokens_in (Tree-F.List parts)

-- the numbers and names among tokens
abbrev leaves : List Lexeme → List Token
leaves [] = []
leaves (Opening ∷ lexemes) = leaves lexemes
leaves (Closing ∷ lexemes) = leaves lexemes
leaves (Leaf token ∷ lexemes) = token ∷ leaves lexemes

leaves-append : (xs ys : List Lexeme) → leaves (xs ++ ys) ≡ leaves xs ++ leaves ys
leaves-append [] ys = refl
leaves-append (Opening ∷ xs) ys = leaves-append xs ys
leaves-append (Closing ∷ xs) ys = leaves-append xs ys
leaves-append (Leaf token ∷ xs) ys = ap (λ tokens. token ∷ tokens) (leaves-append xs ys)

abbrev LeavesAreTokens : Tree → Type 0
LeavesAreTokens t = leaves (lexemes_of t) ≡ tokens_of t

all_leaves : (parts : List Tree) → AllByRecursion LeavesAreTokens parts → leaves (lexemes_of_all parts) ≡ joined (map tokens_of parts)
all_leaves [] all = refl
all_leaves (t ∷ parts) all =
    leaves-append (lexemes_of t) (lexemes_of_all parts)
    ∙ ap (λ tokens. tokens ++ leaves (lexemes_of_all parts)) all.0
    ∙ ap (λ tokens. tokens_of t ++ tokens) (all_leaves parts all.1)

leaves_are_tokens : (t : Tree) → LeavesAreTokens t
leaves_are_tokens = tree_induction LeavesAreTokens
    (λ token. ap leaves (lexemes_of-Atom token) ∙ sym (tokens_of-Atom token))
    (λ parts all.
    ap leaves (lexemes_of-List parts)
    ∙ leaves-append (lexemes_of_all parts) (Closing ∷ [])
    ∙ append-nil (leaves (lexemes_of_all parts))
    ∙ all_leaves parts all
    ∙ sym (tokens_of-List parts))

-- scalar values
pub scalars-parts : (xs ys : List ℕ) → scalars (xs ++ ys) ≡ true → (scalars xs ≡ true) × (scalars ys ≡ true)
scalars-parts [] ys all = (refl, all)
scalars-parts (x ∷ xs) ys all =
    let first = and_parts (scalar x) (scalars (xs ++ ys)) all in
    let more = scalars-parts xs ys first.1 in
    (and_from (scalar x) (scalars xs) first.0 more.0, more.1)

-- a word's token
token_is : (w : List ℕ) (token : Token) → scalars w ≡ true → IsWord w → SpellsToken w token → IsToken token
token_is w (Number n) text is (inl stands) = stands.fits
token_is w (Number n) text is (inr stands) = stands.numeral.fits
token_is w (Name bytes) text is stands = record {
  word = w;
  begins = stands.0;
  is_word = is;
  bytes_are = stands.1;
  utf8 = (w, (text, sym stands.1));
}

lexes_tokens : (text : List ℕ) (lexemes : List Lexeme) (rest : List ℕ) → Lexes text lexemes rest → scalars text ≡ true → AllByRecursion IsToken (leaves lexemes)
lexes_tokens text lexemes rest (nothing same) all = tt
lexes_tokens text lexemes rest (blank c more xs last is lexes) all = lexes_tokens more xs last lexes (scalars-parts (c ∷ []) more all).1
lexes_tokens text lexemes rest (comment words more xs last is ends lexes) all = lexes_tokens more xs last lexes (scalars-parts (59 ∷ words) more all).1
lexes_tokens text lexemes rest (opening more xs last lexes) all = lexes_tokens more xs last lexes (scalars-parts (40 ∷ []) more all).1
lexes_tokens text lexemes rest (closing more xs last lexes) all = lexes_tokens more xs last lexes (scalars-parts (41 ∷ []) more all).1
lexes_tokens text lexemes rest (word w more token xs last is stands ends lexes) all =
    let parts = scalars-parts w more all in
    (token_is w token parts.0 is stands, lexes_tokens more xs last lexes parts.1)

pub writable : (bytes : List ℕ) (t : Tree) → Spells bytes t → IsWritable t
writable bytes t spells = record {
  tokens = subst (AllByRecursion IsToken) (leaves_are_tokens t) (lexes_tokens (chars bytes) (lexemes_of t) [] spells.1.0 (scalars-chars bytes spells.0));
  nesting = spells.1.1;
}
