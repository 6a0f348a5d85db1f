-- Names of the language's text are words.
use Rattle.std.proofs.Common.{◌≡◌, ℕ, ◌≤◌, ◌&&◌, ◌||◌, ◌==◌, true, List, [], ◌∷◌, ◌++◌, get_or, map, inl, inr, sym, subst, ◌∙◌, arith, append-nil}
use Rattle.std.specs.Prelude.{IsTrue, encode_utf8, encode_utf8_all, nat_le}
use Rattle.std.specs.Char.{is_ascii_alphanumeric, is_ascii_digit, is_ascii_lowercase, is_ascii_uppercase}
use Rattle.std.specs.List.{AllByRecursion}
use Rattle.std.proofs.lemmas.Bool.{and_parts, cases_lt, eqb-true, leb-true, or_cases}
use Rattle.std.proofs.lemmas.List.Elements.{All-nil, All-append, All-from_get_or}
use Rattle.std.proofs.lemmas.Str.{inside_one}
use Rattle.unicode_ident.proofs.IdentLemmas.{is_xid_continue-ascii, is_xid_start-is_xid_continue}
use Rattle.unicode_ident.specs.Ident.{is_xid_start, is_xid_continue}
use Rattle.kat_tree.specs.declared.tree.Token.{Token}
use Rattle.kat_tree.specs.declared.tree.Tree.{Tree}
use Rattle.kat_tree.specs.declared.tree.Tree.TheVariants as tree
use Rattle.kat_tree.specs.Character.{begins_word, begins_name}
use Rattle.kat_tree.specs.Lexeme.{joined}
use Rattle.kat_tree.specs.Spelling.{IsWord as IsTreeWord}
use Rattle.kat_tree.specs.Written.{IsNameToken, IsToken, tokens_of}
use Rattle.kat_ast.specs.Parts.{word}
use Rattle.kat_syntax.specs.Tables.{Name}
use Rattle.kat_laws.specs.TextLaw.{IsWord}

-- a range from 48 on
from_48 : (lo hi c : ℕ) → 48 ≤ lo → (nat_le lo c && nat_le c hi) ≡ true → 48 ≤ c
from_48 lo hi c low h =
    omega (arith, low, leb-true lo c (and_parts (nat_le lo c) (nat_le c hi) h).0)

letters_from_48 : (c : ℕ) → (is_ascii_alphanumeric c || (c == 95)) ≡ true → 48 ≤ c
letters_from_48 c h =
    elim (or_cases (is_ascii_alphanumeric c) (c == 95) h) [
      | inl a ↦ elim (or_cases (is_ascii_digit c || is_ascii_uppercase c) (is_ascii_lowercase c)
          a) [
            | inl b ↦ elim (or_cases (is_ascii_digit c) (is_ascii_uppercase c) b) [
              | inl d ↦ from_48 48 57 c (omega arith) d
              | inr d ↦ from_48 65 90 c (omega arith) d
            ]
            | inr b ↦ from_48 97 122 c (omega arith) b
          ]
      | inr a ↦ omega (arith, eqb-true c 95 a)
    ]

-- what stands inside a word is at least the digit 0
inside_from_48 : (c : ℕ) → IsTrue (is_xid_continue c) → 48 ≤ c
inside_from_48 c h =
    elim (cases_lt c 128) [
      | inl low ↦ letters_from_48 c (sym (is_xid_continue-ascii c low) ∙ h)
      | inr high ↦ omega (arith, high)
    ]

first_from_48 : (c : ℕ) → IsTrue (begins_word c) → 48 ≤ c
first_from_48 c h =
    elim (or_cases (is_ascii_digit c) (begins_name c) h) [
      | inl a ↦ from_48 48 57 c (omega arith) a
      | inr a ↦ elim (or_cases (c == 95) (is_xid_start c) a) [
        | inl b ↦ omega (arith, eqb-true c 95 b)
        | inr b ↦ inside_from_48 c (is_xid_start-is_xid_continue c b)
      ]
    ]

-- the bytes of a character are at least the digit 0 where it is
bytes_of_one : (c : ℕ) → 48 ≤ c → IsWord (encode_utf8 c)
bytes_of_one c high =
    All-from_get_or (λ byte. 48 ≤ byte) (encode_utf8 c) 0
    (λ i within. elim (cases_lt (get_or (encode_utf8 c) i 0) 48) [
      | inl low ↦
          let same : c ≡ get_or (encode_utf8 c) i 0 =
          inside_one c [] (encode_utf8 c) i (sym (append-nil (encode_utf8 c))) within
          (omega (arith, low)) in
          absurd (omega (arith, low, same, high))
      | inr other ↦ other
    ])

bytes_of : (cs : List ℕ) → AllByRecursion (λ c. IsTrue (is_xid_continue c)) cs →
    IsWord (encode_utf8_all cs)
bytes_of [] h = All-nil (λ byte. 48 ≤ byte)
bytes_of (c ∷ cs) h = All-append (λ byte. 48 ≤ byte) (encode_utf8 c) (encode_utf8_all cs)
    (bytes_of_one c (inside_from_48 c h.0)) (bytes_of cs h.1)

bytes_of_word : (cs : List ℕ) → IsTreeWord cs → IsWord (encode_utf8_all cs)
bytes_of_word [] h = absurd h
bytes_of_word (c ∷ cs) h = All-append (λ byte. 48 ≤ byte) (encode_utf8 c) (encode_utf8_all cs)
    (bytes_of_one c (first_from_48 c h.0)) (bytes_of cs h.1)

-- the name of a token is one word
pub name_is_word : (name : Name) → IsNameToken name → IsWord name
name_is_word name h = subst IsWord (sym h.bytes_are) (bytes_of_word h.word h.is_word)

-- the tokens of a tree are those of its parts, as kat_tree has it
pub record TokensByParts : Type 0 where
  pub atom : (token : Token) → tokens_of (tree.Atom token) ≡ token ∷ []
  pub list : (parts : List Tree) → tokens_of (tree.List parts) ≡ joined (map tokens_of parts)

-- the tokens of a tree are those that its text can spell
abbrev pub IsSpelled : Tree → Type 0
IsSpelled tree = AllByRecursion IsToken (tokens_of tree)

first_of : (xs ys : List Token) → AllByRecursion IsToken (xs ++ ys) → AllByRecursion IsToken xs
first_of [] ys are = tt
first_of (x ∷ xs) ys are = (are.0, first_of xs ys are.1)

second_of : (xs ys : List Token) → AllByRecursion IsToken (xs ++ ys) → AllByRecursion IsToken ys
second_of [] ys are = are
second_of (x ∷ xs) ys are = second_of xs ys are.1

joined_parts : (parts : List Tree) → AllByRecursion IsToken (joined (map tokens_of parts)) →
    AllByRecursion IsSpelled parts
joined_parts [] are = tt
joined_parts (part ∷ parts) are =
    let rest = joined (map tokens_of parts) in
    (first_of (tokens_of part) rest are, joined_parts parts (second_of (tokens_of part) rest are))

-- the parts of a list are spelled
pub spelled_parts : TokensByParts → (parts : List Tree) → IsSpelled (tree.List parts) →
    AllByRecursion IsSpelled parts
spelled_parts tokens parts are =
    joined_parts parts (subst (AllByRecursion IsToken) (tokens.list parts) are)

-- a spelled name is one word
pub spelled_word : TokensByParts → (name : Name) → IsSpelled (word name) → IsWord name
spelled_word tokens name are =
    name_is_word name (subst (AllByRecursion IsToken) (tokens.atom _) are).0
