-- The canonical text of a tree spells it.
use Rattle.std.proofs.Common.{◌≡◌, ℕ, ◌+◌, ◌*◌, ◌^◌, ◌<◌, ◌≤◌, true, false, leb, ◌||◌, inl, List, [], ◌∷◌, ◌++◌, length, map, sym, ap, ◌∙◌, subst, refl, arith, append_assoc, append-nil}
use Rattle.std.specs.Prelude.{encode_utf8_all}
use Rattle.std.specs.Char.{digit_value, is_ascii_digit}
use Rattle.std.specs.Fmt.{decimal}
use Rattle.std.specs.List.{AllByRecursion}
use Rattle.std.specs.Str.{chars}
use Rattle.std.specs.Str.Parse.{AllDigits, digits_value_after}
use Rattle.std.proofs.Math.Utf8.{scalar, scalars}
use Rattle.std.proofs.lemmas.Bool.{and_parts, and_from, leb-true}
use Rattle.std.proofs.lemmas.Fmt.{decimal_is_IsNumeral, IsAscii-decimal}
use Rattle.std.proofs.lemmas.Str.{chars-encodes, encodes-append, encodes-IsAscii, IsUtf8-from_ascii, chars-IsAscii, scalars-chars, encodes_same}
use Rattle.unicode_ident.specs.Ident.{is_xid_continue}
use Rattle.unicode_ident.proofs.IdentLemmas.{is_xid_continue-ascii}
use Rattle.kat_tree.specs.declared.tree.Token.{Token}
use Rattle.kat_tree.specs.declared.tree.Token.TheVariants.{Number, Name}
use Rattle.kat_tree.specs.declared.tree.Tree.{Tree}
use Rattle.kat_tree.specs.declared.tree.Tree.TheVariants as tree
use Rattle.kat_tree.specs.declared.tree.Tree.TheVariants.{rolls-Atom, rolls-List}
use Rattle.kat_tree.specs.declared.tree.Tree.TheOpen.{Tree-F}
use Rattle.kat_tree.specs.declared.tree.Tree.TheFolds.{fold-roll-Tree}
use Rattle.kat_tree.specs.Character.{begins_name, begins_word}
use Rattle.kat_tree.specs.Lexeme.{Lexeme, Opening, Closing, Leaf, joined, lexemes_of, lexemes_of_all}
use Rattle.kat_tree.specs.Spelling.{value_behind, Lexes, nothing, blank, opening, closing, word, IsWord, SpellsToken, EndsWord, Spells}
use Rattle.kat_tree.specs.Written.{IsToken, IsWritable, tokens_of, text_of_token, behind_spaces, spaced, text_in, text_of_tree}
use Rattle.kat_tree.proofs.Trees.{tree_induction, lexemes_of-Atom, lexemes_of-List}
use Rattle.kat_tree.proofs.Words.{decimal-is_digit}
use Rattle.kat_tree.proofs.Text.{encode_utf8_all-ascii}
use Rattle.kat_tree.proofs.Leaves.{tokens_of-Atom, tokens_of-List}

pub text_of_tree-Atom : (token : Token) → text_of_tree (tree.Atom token) ≡ text_of_token token
text_of_tree-Atom token = ap text_of_tree (sym (rolls-Atom token)) ∙ fold-roll-Tree (List ℕ) text_in (Tree-F.Atom token)

pub text_of_tree-List : (parts : List Tree) → text_of_tree (tree.List parts) ≡ 40 ∷ (spaced (map text_of_tree parts) ++ 41 ∷ [])
text_of_tree-List parts = ap text_of_tree (sym (rolls-List parts)) ∙ fold-roll-Tree (List ℕ) text_in (Tree-F.List parts)

-- bytes whose characters are tokens, whatever follows that goes on with no word
record Writes (bytes : List ℕ) (lexemes : List Lexeme) : Type 0 where
  characters : List ℕ
  bytes_are : encode_utf8_all characters ≡ bytes
  text : scalars characters ≡ true
  lexes : (behind : List ℕ) (more : List Lexeme) (rest : List ℕ) → EndsWord behind → Lexes behind more rest → Lexes (characters ++ behind) (lexemes ++ more) rest

scalars-append : (xs ys : List ℕ) → scalars xs ≡ true → scalars ys ≡ true → scalars (xs ++ ys) ≡ true
scalars-append [] ys first others = others
scalars-append (x ∷ xs) ys first others =
    let parts = and_parts (scalar x) (scalars xs) first in
    and_from (scalar x) (scalars (xs ++ ys)) parts.0 (scalars-append xs ys parts.1 others)

writes_nothing : Writes [] []
writes_nothing = record { characters = []; bytes_are = refl; text = refl; lexes = λ behind more rest ends lexes. lexes }

-- a word may stand at the end of the first
writes_both : (first second : List ℕ) (xs ys : List Lexeme) (a : Writes first xs) (b : Writes second ys) → ((behind : List ℕ) → EndsWord behind → EndsWord (b.characters ++ behind)) → Writes (first ++ second) (xs ++ ys)
writes_both first second xs ys a b apart = record {
  characters = a.characters ++ b.characters;
  bytes_are = encodes-append a.characters b.characters
      ∙ ap (λ bytes. bytes ++ encode_utf8_all b.characters) a.bytes_are
      ∙ ap (λ bytes. first ++ bytes) b.bytes_are;
  text = scalars-append a.characters b.characters a.text b.text;
  lexes = λ behind more rest ends lexes.
      subst (λ text. Lexes text ((xs ++ ys) ++ more) rest) (sym (append_assoc a.characters b.characters behind))
      (subst (λ tokens. Lexes (a.characters ++ (b.characters ++ behind)) tokens rest) (sym (append_assoc xs ys more))
      (a.lexes (b.characters ++ behind) (ys ++ more) rest (apart behind ends) (b.lexes behind more rest ends lexes)));
}

writes_opening : (bytes : List ℕ) (xs : List Lexeme) → Writes bytes xs → Writes (40 ∷ bytes) (Opening ∷ xs)
writes_opening bytes xs a = record {
  characters = 40 ∷ a.characters;
  bytes_are = encode_utf8_all-ascii 40 a.characters bytes (omega arith) a.bytes_are;
  text = a.text;
  lexes = λ behind more rest ends lexes. opening (a.characters ++ behind) (xs ++ more) rest (a.lexes behind more rest ends lexes);
}

writes_closing : Writes (41 ∷ []) (Closing ∷ [])
writes_closing = record {
  characters = 41 ∷ [];
  bytes_are = encode_utf8_all-ascii 41 [] [] (omega arith) refl;
  text = refl;
  lexes = λ behind more rest ends lexes. closing behind more rest lexes;
}

writes_space : (bytes : List ℕ) (xs : List Lexeme) → Writes bytes xs → Writes (32 ∷ bytes) xs
writes_space bytes xs a = record {
  characters = 32 ∷ a.characters;
  bytes_are = encode_utf8_all-ascii 32 a.characters bytes (omega arith) a.bytes_are;
  text = a.text;
  lexes = λ behind more rest ends lexes. blank 32 (a.characters ++ behind) (xs ++ more) rest refl (a.lexes behind more rest ends lexes);
}

writes_word : (token : Token) (bytes w : List ℕ) → IsWord w → SpellsToken w token → encode_utf8_all w ≡ bytes → scalars w ≡ true → Writes bytes (Leaf token ∷ [])
writes_word token bytes w is stands bytes_are text = record {
  characters = w;
  bytes_are = bytes_are;
  text = text;
  lexes = λ behind more rest ends lexes. word w behind token more rest is stands ends lexes;
}

-- what ends a word
space_ends : is_xid_continue 32 ≡ false
space_ends = is_xid_continue-ascii 32 (omega arith) ∙ refl

closing_ends : is_xid_continue 41 ≡ false
closing_ends = is_xid_continue-ascii 41 (omega arith) ∙ refl

newline_ends : is_xid_continue 10 ≡ false
newline_ends = is_xid_continue-ascii 10 (omega arith) ∙ refl

-- numbers
digit_begins : (c : ℕ) → is_ascii_digit c ≡ true → begins_word c ≡ true
digit_begins c is = ap (λ b. b || begins_name c) is

digit_continues : (c : ℕ) → is_ascii_digit c ≡ true → is_xid_continue c ≡ true
digit_continues c is =
    let low : c ≤ 57 = leb-true c 57 (and_parts (leb 48 c) (leb c 57) is).1 in
    is_xid_continue-ascii c (omega arith) ∙ rw is refl

digits_below : (ds : List ℕ) → AllDigits 10 ds → AllByRecursion (λ digit. digit_value digit < 10) ds
digits_below [] all = tt
digits_below (d ∷ ds) all = (all.0, digits_below ds all.1)

digits_continue : (ds : List ℕ) → AllDigits 10 ds → AllByRecursion (λ d. is_xid_continue d ≡ true) ds
digits_continue [] all = tt
digits_continue (d ∷ ds) all = (digit_continues d (decimal-is_digit d all.0), digits_continue ds all.1)

digits_word : (ds : List ℕ) → 0 < length ds → AllDigits 10 ds → IsWord ds
digits_word [] some all = absurd (omega arith)
digits_word (d ∷ ds) some all = (digit_begins d (decimal-is_digit d all.0), digits_continue ds all.1)

digits_value_same : (base n : ℕ) (ds : List ℕ) → digits_value_after base n ds ≡ value_behind base n ds
digits_value_same base n [] = refl
digits_value_same base n (d ∷ ds) = digits_value_same base (n * base + digit_value d) ds

number_written : (n : ℕ) → n < 2 ^ 64 → Writes (decimal n) (Leaf (Number n) ∷ [])
number_written n fits =
    let is = decimal_is_IsNumeral n fits in
    let ascii = IsAscii-decimal n fits in
    writes_word (Number n) (decimal n) (decimal n) (digits_word (decimal n) is.0.0 is.0.1)
    (inl (record {
      some = λ none. let e = ap length none in let h = is.0.0 in absurd (omega arith);
      all = digits_below (decimal n) is.0.1;
      value = sym is.1 ∙ digits_value_same 10 0 (decimal n);
      fits = fits;
    }))
    (encodes-IsAscii (decimal n) ascii)
    (subst (λ cs. scalars cs ≡ true) (chars-IsAscii (decimal n) ascii) (scalars-chars (decimal n) (IsUtf8-from_ascii (decimal n) ascii)))

token_written : (token : Token) → IsToken token → Writes (text_of_token token) (Leaf token ∷ [])
token_written (Number n) is = number_written n is
token_written (Name bytes) is =
    let same = encodes_same is.utf8.0 is.word (is.utf8.1.1 ∙ is.bytes_are) in
    writes_word (Name bytes) bytes is.word is.is_word (is.begins, is.bytes_are) (sym is.bytes_are) (subst (λ cs. scalars cs ≡ true) same is.utf8.1.0)

-- trees
abbrev WritesTree : Tree → Type 0
WritesTree t = AllByRecursion IsToken (tokens_of t) → Writes (text_of_tree t) (lexemes_of t)

pub all_parts : (xs ys : List Token) → AllByRecursion IsToken (xs ++ ys) → AllByRecursion IsToken xs × AllByRecursion IsToken ys
all_parts [] ys all = (tt, all)
all_parts (x ∷ xs) ys all = let more = all_parts xs ys all.1 in ((all.0, more.0), more.1)

record WritesBehind (bytes : List ℕ) (lexemes : List Lexeme) : Type 0 where
  writes : Writes bytes lexemes
  apart : (behind : List ℕ) → EndsWord behind → EndsWord (writes.characters ++ behind)

behind_written : (trees : List Tree) → AllByRecursion WritesTree trees → AllByRecursion IsToken (joined (map tokens_of trees)) → WritesBehind (behind_spaces (map text_of_tree trees)) (lexemes_of_all trees)
unfolding writes_nothing writes_space
behind_written [] all tokens = record { writes = writes_nothing; apart = λ behind ends. ends }
behind_written (t ∷ trees) all tokens =
    let parts = all_parts (tokens_of t) (joined (map tokens_of trees)) tokens in
    let more = behind_written trees all.1 parts.1 in
    record {
      writes = writes_space (text_of_tree t ++ behind_spaces (map text_of_tree trees)) (lexemes_of_all (t ∷ trees))
          (writes_both (text_of_tree t) (behind_spaces (map text_of_tree trees)) (lexemes_of t) (lexemes_of_all trees) (all.0 parts.0) more.writes more.apart);
      apart = λ behind ends. space_ends;
    }

spaced_written : (trees : List Tree) → AllByRecursion WritesTree trees → AllByRecursion IsToken (joined (map tokens_of trees)) → Writes (spaced (map text_of_tree trees)) (lexemes_of_all trees)
spaced_written [] all tokens = writes_nothing
spaced_written (t ∷ trees) all tokens =
    let parts = all_parts (tokens_of t) (joined (map tokens_of trees)) tokens in
    let more = behind_written trees all.1 parts.1 in
    writes_both (text_of_tree t) (behind_spaces (map text_of_tree trees)) (lexemes_of t) (lexemes_of_all trees) (all.0 parts.0) more.writes more.apart

atom_written : (token : Token) → WritesTree (tree.Atom token)
atom_written token tokens =
    let is = subst (AllByRecursion IsToken) (tokens_of-Atom token) tokens in
    subst (λ bytes. Writes bytes (lexemes_of (tree.Atom token))) (sym (text_of_tree-Atom token))
    (subst (Writes (text_of_token token)) (sym (lexemes_of-Atom token)) (token_written token is.0))

list_written : (trees : List Tree) → AllByRecursion WritesTree trees → WritesTree (tree.List trees)
unfolding writes_closing
list_written trees all tokens =
    let inside = spaced_written trees all (subst (AllByRecursion IsToken) (tokens_of-List trees) tokens) in
    let bytes = spaced (map text_of_tree trees) in
    let whole = writes_opening (bytes ++ 41 ∷ []) (lexemes_of_all trees ++ Closing ∷ [])
    (writes_both bytes (41 ∷ []) (lexemes_of_all trees) (Closing ∷ []) inside writes_closing (λ behind ends. closing_ends)) in
    subst (λ text. Writes text (lexemes_of (tree.List trees))) (sym (text_of_tree-List trees))
    (subst (Writes (40 ∷ (bytes ++ 41 ∷ []))) (sym (lexemes_of-List trees)) whole)

tree_written : (t : Tree) → WritesTree t
tree_written = tree_induction WritesTree atom_written list_written

pub spelled : (t : Tree) → IsWritable t → Spells (text_of_tree t ++ 10 ∷ []) t
spelled t is =
    let writes = tree_written t is.tokens in
    let characters = writes.characters ++ 10 ∷ [] in
    let text = scalars-append writes.characters (10 ∷ []) writes.text refl in
    let bytes_are : encode_utf8_all characters ≡ text_of_tree t ++ 10 ∷ [] =
    encodes-append writes.characters (10 ∷ [])
    ∙ ap (λ bytes. bytes ++ encode_utf8_all (10 ∷ [])) writes.bytes_are
    ∙ ap (λ bytes. text_of_tree t ++ bytes) (encode_utf8_all-ascii 10 [] [] (omega arith) refl) in
    let lexes = writes.lexes (10 ∷ []) [] [] newline_ends (blank 10 [] [] [] refl (nothing [])) in
    let same : characters ≡ chars (text_of_tree t ++ 10 ∷ []) = sym (chars-encodes characters text) ∙ ap chars bytes_are in (
      (characters, (text, bytes_are)),
      (
        subst (λ cs. Lexes cs (lexemes_of t) []) same (subst (λ xs. Lexes characters xs []) (append-nil (lexemes_of t)) lexes),
        is.nesting,
      ),
    )
