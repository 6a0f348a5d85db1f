-- A text from its characters.
use Rattle.std.proofs.Common.{◌≡◌, ℕ, ◌+◌, ◌<◌, List, [], ◌∷◌, ◌++◌, length, take, get_or, sym, ap, ◌∙◌, append-nil}
use Rattle.std.specs.Prelude.{encode_utf8, encode_utf8_all}
use Rattle.std.proofs.lemmas.List.{take_more}
use Rattle.std.specs.Str.{chars, IsUtf8}
use Rattle.std.proofs.lemmas.Str.{encodes-append, encode_ascii, IsUtf8-past_char, chars_past_char}

pub encode_utf8_all-take_more : (cs : List ℕ) (i : ℕ) → i < length cs → encode_utf8_all (take (i + 1) cs) ≡ encode_utf8_all (take i cs) ++ encode_utf8 (get_or cs i 0)
encode_utf8_all-take_more cs i h =
    ap encode_utf8_all (take_more cs i 0 h) ∙ encodes-append (take i cs) (get_or cs i 0 ∷ []) ∙ ap (λ bs. encode_utf8_all (take i cs) ++ bs) (append-nil (encode_utf8 (get_or cs i 0)))

-- an ASCII character in front
pub encode_utf8_all-ascii : (c : ℕ) (cs bytes : List ℕ) → c < 128 → encode_utf8_all cs ≡ bytes → encode_utf8_all (c ∷ cs) ≡ c ∷ bytes
encode_utf8_all-ascii c cs bytes h e = ap (λ front. front ++ encode_utf8_all cs) (encode_ascii c h) ∙ ap (λ rest. c ∷ rest) e

byte_front : (bytes rest : List ℕ) (c : ℕ) → c < 128 → bytes ≡ c ∷ rest → bytes ≡ encode_utf8 c ++ rest
byte_front bytes rest c h e = e ∙ ap (λ front. front ++ rest) (sym (encode_ascii c h))

pub IsUtf8-behind : (bytes rest : List ℕ) (c : ℕ) → c < 128 → IsUtf8 bytes → bytes ≡ c ∷ rest → IsUtf8 rest
IsUtf8-behind bytes rest c h text e = IsUtf8-past_char bytes rest c text (byte_front bytes rest c h e)

pub chars-ascii : (bytes rest : List ℕ) (c : ℕ) → c < 128 → IsUtf8 bytes → bytes ≡ c ∷ rest → chars bytes ≡ c ∷ chars rest
chars-ascii bytes rest c h text e = chars_past_char bytes rest c text (byte_front bytes rest c h e)
