-- Words of letters, digits and `_` are names of tree text.
use Rattle.std.proofs.Common.{◌≡◌, ◌∙◌, ℕ, zero, suc, ◌+◌, ◌<◌, ◌^◌, ◌%◌, ◌==◌, ◌&&◌, ◌||◌}
use Rattle.std.proofs.Common.{Bool, true, false, not, List, [], ◌∷◌, nat_lt, nat_le, IsTrue}
use Rattle.std.proofs.Common.{ap, refl, sym, arith, lit<, codes, decimal, bytes_eq, IsAscii}
use Rattle.std.proofs.Common.{ltb-true, leb-true, lt-ltb, le-leb}
use Rattle.std.proofs.lemmas.Bool.{and_parts, and_from, or_left, or_right}
use Rattle.std.proofs.lemmas.Fmt.{decimal_by_steps}
use Rattle.std.proofs.lemmas.List.Folds.{list_all-append}
use Rattle.std.proofs.lemmas.Str.{encodes-IsAscii, IsUtf8-from_ascii}
use Rattle.std.specs.Char.{is_ascii_alphabetic, is_ascii_alphanumeric, is_ascii_digit}
use Rattle.std.specs.List.{AllByRecursion, list_all}
use Rattle.unicode_ident.specs.Ident.{is_xid_start, is_xid_continue}
use Rattle.unicode_ident.proofs.IdentLemmas.{is_xid_start-ascii, is_xid_continue-ascii}
use Rattle.kat_tree.specs.Character.{begins_name}
use Rattle.kat_tree.specs.Written.{IsNameToken}
use Rattle.kat_ast.specs.Parts.{is_name}
use Rattle.kat_gen.specs.Generated.{numbered}

-- a letter, a digit or `_`
abbrev pub is_plain : ℕ → Bool
is_plain c = nat_lt c 128 && (is_ascii_alphanumeric c || (c == 95))

-- a letter, and then letters, digits and `_`
abbrev pub is_plain_word : List ℕ → Bool
is_plain_word [] = false
is_plain_word (c ∷ cs) = (nat_lt c 128 && is_ascii_alphabetic c) && list_all is_plain cs

continues : (c : ℕ) → is_plain c ≡ true → is_xid_continue c ≡ true
continues c is =
    let parts = and_parts (nat_lt c 128) (is_ascii_alphanumeric c || (c == 95)) is in
    is_xid_continue-ascii c (ltb-true c 128 parts.0) ∙ parts.1

all_continue : (cs : List ℕ) → list_all is_plain cs ≡ true
    → AllByRecursion (λ d. IsTrue (is_xid_continue d)) cs
all_continue [] are = tt
all_continue (c ∷ cs) are =
    let parts = and_parts (is_plain c) (list_all is_plain cs) are in
    (continues c parts.0, all_continue cs parts.1)

below : (c : ℕ) (b : Bool) → (nat_lt c 128 && b) ≡ true → c < 128
below c b is = let parts = and_parts (nat_lt c 128) b is in ltb-true c 128 parts.0

plain_ascii : (cs : List ℕ) → list_all is_plain cs ≡ true → IsAscii cs
plain_ascii [] are i = lit< tt
plain_ascii (c ∷ cs) are zero =
    let parts = and_parts (is_plain c) (list_all is_plain cs) are in
    below c (is_ascii_alphanumeric c || (c == 95)) parts.0
plain_ascii (c ∷ cs) are (suc i) =
    let parts = and_parts (is_plain c) (list_all is_plain cs) are in plain_ascii cs parts.1 i

word_ascii : (c : ℕ) (cs : List ℕ) → c < 128 → list_all is_plain cs ≡ true → IsAscii (c ∷ cs)
word_ascii c cs lt are zero = lt
word_ascii c cs lt are (suc i) = plain_ascii cs are i

pub word_is_token : (w : List ℕ) → is_plain_word w ≡ true → IsNameToken w
word_is_token [] is = cc
word_is_token (c ∷ cs) is =
    let parts = and_parts (nat_lt c 128 && is_ascii_alphabetic c) (list_all is_plain cs) is in
    let letter = and_parts (nat_lt c 128) (is_ascii_alphabetic c) parts.0 in
    let lt = ltb-true c 128 letter.0 in
    let begins : begins_name c ≡ true =
    or_right (c == 95) (is_xid_start c) (is_xid_start-ascii c lt ∙ letter.1) in
    let ascii = word_ascii c cs lt parts.1 in
    record {
      word = c ∷ cs;
      begins = begins;
      is_word = (or_right (is_ascii_digit c) (begins_name c) begins, all_continue cs parts.1);
      bytes_are = sym (encodes-IsAscii (c ∷ cs) ascii);
      utf8 = IsUtf8-from_ascii (c ∷ cs) ascii;
    }

digit : (d : ℕ) → d < 10 → is_ascii_digit (48 + d) ≡ true
digit d lt = and_from (nat_le 48 (48 + d)) (nat_le (48 + d) 57)
    (le-leb 48 (48 + d) (omega arith)) (le-leb (48 + d) 57 (omega arith))

abbrev AreDigits : List ℕ → Type 0
AreDigits ds = list_all is_ascii_digit ds ≡ true

pub decimal_digits : (n : ℕ) → n < 2 ^ 64 → AreDigits (decimal n)
decimal_digits = decimal_by_steps (λ n ds. AreDigits ds)
    (λ n lt. and_from (is_ascii_digit (48 + n)) true (digit n lt) refl)
    (λ n ds le are. list_all-append is_ascii_digit ds ((48 + n % 10) ∷ [])
    ∙ and_from (list_all is_ascii_digit ds) (is_ascii_digit (48 + n % 10) && true) are
    (and_from (is_ascii_digit (48 + n % 10)) true (digit (n % 10) (omega arith)) refl))

digit_plain : (c : ℕ) → is_ascii_digit c ≡ true → is_plain c ≡ true
digit_plain c is =
    let parts = and_parts (nat_le 48 c) (nat_le c 57) is in
    let le = leb-true c 57 parts.1 in
    and_from (nat_lt c 128) (is_ascii_alphanumeric c || (c == 95)) (lt-ltb c 128 (omega arith))
    (or_left (is_ascii_alphanumeric c) (c == 95) (or_left _ _ (or_left _ _ is)))

digits_plain : (ds : List ℕ) → AreDigits ds → list_all is_plain ds ≡ true
digits_plain [] are = refl
digits_plain (d ∷ ds) are =
    let parts = and_parts (is_ascii_digit d) (list_all is_ascii_digit ds) are in
    and_from (is_plain d) (list_all is_plain ds) (digit_plain d parts.0) (digits_plain ds parts.1)

-- digits are no end of `false`
no_letters : (ds : List ℕ) → AreDigits ds → bytes_eq ds (codes "alse") ≡ false
no_letters [] are = refl
no_letters (d ∷ ds) are =
    let parts = and_parts (is_ascii_digit d) (list_all is_ascii_digit ds) are in
    let within = and_parts (nat_le 48 d) (nat_le d 57) parts.0 in
    let le = leb-true d 57 within.1 in
    grind arith

-- a word that may name something
pub record IsWord (w : List ℕ) : Type 0 where
  pub named : is_name w ≡ true
  pub token : IsNameToken w

-- a constant word
pub constant : (w : List ℕ) → is_name w ≡ true → is_plain_word w ≡ true → IsWord w
constant w named plain = record { named = named; token = word_is_token w plain }

pub register_word : (i : ℕ) → i < 500 → IsWord (numbered (codes "r") i)
unfolding numbered
register_word i lt = record {
  named = refl;
  token = word_is_token (numbered (codes "r") i)
      (digits_plain (decimal i) (decimal_digits i (omega arith)));
}

pub value_word : (i : ℕ) → i < 500 → IsWord (numbered (codes "a") i)
unfolding numbered
value_word i lt = record {
  named = refl;
  token = word_is_token (numbered (codes "a") i)
      (digits_plain (decimal i) (decimal_digits i (omega arith)));
}

pub function_word : (i : ℕ) → i < 500 → IsWord (numbered (codes "f") i)
unfolding numbered
function_word i lt =
    let are = decimal_digits i (omega arith) in
    record {
      named = ap (λ (b : Bool). not b && true) (no_letters (decimal i) are);
      token = word_is_token (numbered (codes "f") i) (digits_plain (decimal i) are);
    }
