-- Lines, and where a text is cut.
use Rattle.std.proofs.Common.{◌≡◌, ◌≢◌, ℕ, ◌+◌, ◌<◌, List, [], ◌∷◌, ◌++◌, length, take, drop, get_or, eqb, Bool, true, false, cond, Some, None, refl, sym, ap, ◌∙◌, subst, arith}
use Rattle.std.specs.List.{All, onto_first}
use Rattle.std.proofs.lemmas.Bool.{eqb-true, false_from_ne_true, both_ways}
use Rattle.std.proofs.lemmas.Grind.{common_steps}
use Rattle.std.proofs.lemmas.List.{take-append-drop, get_or_default}
use Rattle.std.proofs.lemmas.List.Elements.{All-head, All-tail, All-nil, All-cons}
use Rattle.std.proofs.lemmas.List.Splits.{slice_split_none, slice_split_at}
use Rattle.memchr.specs.Find.{IsFirstByte, Nowhere, Passes, is_byte}
use Rattle.kat_image.specs.Image.{Lacks, lines_of}

-- a byte that stands at none of the first places
before : (bytes : List ℕ) (at : ℕ) → Nowhere (Passes (is_byte 10) bytes) 0 at → (k d : ℕ) → k < at →
    k < length bytes → eqb (get_or bytes k d) 10 ≡ false
before bytes at none k d lt within =
    false_from_ne_true (eqb (get_or bytes k d) 10)
    (λ e. none k (omega arith) lt (subst (λ b. eqb b 10 ≡ true)
    (get_or_default bytes k d 0 within) e))

pub no_newline : (bytes : List ℕ) → IsFirstByte (is_byte 10) bytes None → lines_of bytes ≡ bytes ∷
    []
no_newline bytes none = slice_split_none (λ b. eqb b 10) bytes
    (λ k d lt. before bytes (length bytes) none k d lt lt)

pub newline_at : (bytes front rest : List ℕ) (at : ℕ) → IsFirstByte (is_byte 10) bytes (Some at) →
    front ≡ take at bytes → rest ≡ drop (at + 1) bytes → lines_of bytes ≡ front ∷ lines_of rest
newline_at bytes front rest at found front_is rest_is =
    let within : at < length bytes = found.0.high in
    let ten : get_or bytes at 0 ≡ 10 = eqb-true (get_or bytes at 0) 10 found.1 in
    let behind : drop at bytes ≡ 10 ∷ drop (at + 1) bytes = grind (arith, common_steps) in
    let whole : bytes ≡ take at bytes ++ 10 ∷ drop (at + 1) bytes = sym (take-append-drop at bytes)
    ∙ ap (λ more. take at bytes ++ more) behind in
    let lacks : All (λ b. eqb b 10 ≡ false) (take at bytes) =
    λ k d lt.
    let low : k < at = grind (arith, common_steps) in
    let same : get_or (take at bytes) k d ≡ get_or bytes k d = grind (arith, common_steps) in
    ap (λ b. eqb b 10) same ∙ before bytes at found.0.before k d low (omega arith)
    in
    ap lines_of whole ∙ slice_split_at (λ b. eqb b 10) (take at bytes) 10 (drop (at + 1) bytes)
    lacks refl ∙ ap (λ l. l ∷ lines_of (drop (at + 1) bytes)) (sym front_is)
    ∙ ap (λ more. front ∷ lines_of more) (sym rest_is)

-- a text is cut in one way at the first of a byte
pub cut : (k : ℕ) (a b xs ys : List ℕ) → Lacks k a → Lacks k b → a ++ k ∷ xs ≡ b ++ k ∷ ys →
    (a ≡ b) × (xs ≡ ys)
cut k [] [] xs ys la lb e = (refl, cc)
cut k [] (d ∷ b) xs ys la lb e = let h : d ≡ k = cc in absurd (All-head (λ c. c ≢ k) d b lb h)
cut k (c ∷ a) [] xs ys la lb e = let h : c ≡ k = cc in absurd (All-head (λ d. d ≢ k) c a la h)
cut k (c ∷ a) (d ∷ b) xs ys la lb e =
    let head : c ≡ d = cc in
    let tail : a ++ k ∷ xs ≡ b ++ k ∷ ys = cc in
    let more = cut k a b xs ys (All-tail (λ x. x ≢ k) c a la) (All-tail (λ x. x ≢ k) d b lb) tail in
    (ap (λ x. x ∷ a) head ∙ ap (λ l. d ∷ l) more.0, more.1)

-- no line has a newline
with_first : (b : ℕ) (lines : List (List ℕ)) → b ≢ 10 → All (Lacks 10) lines → All (Lacks 10)
    (onto_first b lines)
with_first b [] ne all = All-cons (Lacks 10) (b ∷ []) [] (All-cons (λ c. c ≢ 10) b [] ne
    (All-nil (λ c. c ≢ 10))) (All-nil (Lacks 10))
with_first b (line ∷ lines) ne all =
    All-cons (Lacks 10) (b ∷ line) lines (All-cons (λ c. c ≢ 10) b line ne
    (All-head (Lacks 10) line lines all)) (All-tail (Lacks 10) line lines all)

one_more : (b : ℕ) (lines : List (List ℕ)) (t : Bool) → eqb b 10 ≡ t → All (Lacks 10) lines →
    All (Lacks 10) (cond t ([] ∷ lines) (onto_first b lines))
one_more b lines true test all = All-cons (Lacks 10) [] lines (All-nil (λ c. c ≢ 10)) all
one_more b lines false test all =
    with_first b lines
    (λ e.
    let is : eqb b 10 ≡ true = ap (λ c. eqb c 10) e in
    both_ways (eqb b 10) test is)
    all

pub lines_whole : (bytes : List ℕ) → All (Lacks 10) (lines_of bytes)
lines_whole [] = All-cons (Lacks 10) [] [] (All-nil (λ c. c ≢ 10)) (All-nil (Lacks 10))
lines_whole (b ∷ bytes) = one_more b (lines_of bytes) (eqb b 10) refl (lines_whole bytes)
