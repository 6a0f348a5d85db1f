-- Words, and the numbers that they spell.
use Rattle.std.proofs.Common.{◌≡◌, ◌⊎◌, ℕ, zero, suc, ◌+◌, ◌<◌, ◌≤◌, ◌^◌, ◌&&◌, Bool, true, false, if◌then◌else◌, List, [], ◌∷◌, ◌++◌, length, take, drop, get_or, Option, None, Some, inl, inr, ⊎_elim, refl, sym, ap, ◌∙◌, subst, arith}
use Rattle.std.specs.Prelude.{IfSome, nat_lt, unwrap_or}
use Rattle.std.specs.Char.{digit_value}
use Rattle.std.specs.List.{AllByRecursion}
use Rattle.std.specs.Str.{is_utf8, IsUtf8}
use Rattle.std.proofs.lemmas.Bool.{and_parts, and_from, cond-true, cond-false, false_from_ne_true, lt-ltb, ltb-true}
use Rattle.std.proofs.lemmas.List.{take-append-drop}
use Rattle.std.proofs.lemmas.Slice.Eq.{bytes_eq-Decides}
use Rattle.std.proofs.lemmas.Str.{IsUtf8-from_is_utf8, is_utf8-from_IsUtf8}
use Rattle.memchr.specs.Find.{IsFirstByte, is_byte2}
use Rattle.kat_tree.specs.declared.tree.Token.TheVariants.{Number}
use Rattle.kat_tree.specs.Spelling.{IsNumeral, SpellsToken, value_behind}
use Rattle.kat_image.specs.Words.{ends_word, word_length, word_front, are_digits, numeral, is_marked, number_spelled}

-- the word goes up to the first byte that ends one
ends_at : (text : List ℕ) (n : ℕ) → n ≤ length text →
    ((k : ℕ) → k < n → ends_word (get_or text k 0) ≡ true → ⊥) →
    (n ≡ length text) ⊎ (ends_word (get_or text n 0) ≡ true) → n ≡ word_length text
ends_at [] n within before end = omega arith
ends_at (b ∷ text) zero within before (inl none) = absurd (omega (arith, none))
ends_at (b ∷ text) zero within before (inr ends) =
    sym (cond-true (ends_word b) 0 (word_length text + 1) ends)
ends_at (b ∷ text) (suc n) within before end =
    let goes : ends_word b ≡ false = false_from_ne_true (ends_word b) (before 0 (omega arith)) in
    let rest : n ≡ word_length text =
    ends_at text n (omega arith) (λ k less. before (suc k) (omega arith))
    (⊎_elim (λ e. inl (omega (arith, e))) (λ e. inr e) end) in
    let step : word_length (b ∷ text) ≡ word_length text + 1 =
    cond-false (ends_word b) 0 (word_length text + 1) goes in
    omega (arith, rest, step)

pub word_ends : (text : List ℕ) (r : Option ℕ) → IsFirstByte (is_byte2 32 41) text r →
    unwrap_or r (length text) ≡ word_length text
word_ends text None none =
    ends_at text (length text) (omega arith) (λ k less. none k (omega arith) less) (inl refl)
word_ends text (Some at) found =
    ends_at text at (omega (arith, found.0.high)) (λ k less. found.0.before k (omega arith) less)
    (inr found.1)

pub word_within : (text : List ℕ) → word_length text ≤ length text
word_within [] = omega arith
word_within (b ∷ text) = within (ends_word b) (word_within text)
  where
    within : (e : Bool) → word_length text ≤ length text →
        (if e then 0 else word_length text + 1) ≤ length (b ∷ text)
    within true h = omega arith
    within false h = omega (arith, h)

-- what was split off at the first byte that ends a word
pub word_found : (text word rest : List ℕ) (at : Option ℕ) (end : ℕ) →
    IsFirstByte (is_byte2 32 41) text at → end ≡ unwrap_or at (length text) →
    word ≡ take end text → rest ≡ drop end text → IsUtf8 word → Some (word, rest) ≡ word_front text
word_found text word rest at end first end_is word_is rest_is utf8 =
    let n = word_length text in
    let ends : end ≡ n = end_is ∙ word_ends text at first in
    let front : word ≡ take n text = word_is ∙ ap (λ k. take k text) ends in
    let back : rest ≡ drop n text = rest_is ∙ ap (λ k. drop k text) ends in
    ap (λ w. Some (w, rest)) front ∙ ap (λ r. Some (take n text, r)) back
    ∙ sym (cond-true (is_utf8 (take n text)) (Some (take n text, drop n text)) None
    (is_utf8-from_IsUtf8 (take n text) (subst IsUtf8 front utf8)))

pub word_none : (text word : List ℕ) (at : Option ℕ) (end : ℕ) →
    IsFirstByte (is_byte2 32 41) text at → end ≡ unwrap_or at (length text) →
    word ≡ take end text → (IsUtf8 word → ⊥) → None ≡ word_front text
word_none text word at end first end_is word_is not_utf8 =
    let n = word_length text in
    let front : word ≡ take n text =
    word_is ∙ ap (λ k. take k text) (end_is ∙ word_ends text at first) in
    sym (cond-false (is_utf8 (take n text)) (Some (take n text, drop n text)) None
    (false_from_ne_true (is_utf8 (take n text))
    (λ e. not_utf8 (subst IsUtf8 (sym front) (IsUtf8-from_is_utf8 (take n text) e)))))

-- digits
digits_all : (base : ℕ) (cs : List ℕ) → are_digits base cs ≡ true →
    AllByRecursion (λ d. digit_value d < base) cs
digits_all base [] e = tt
digits_all base (c ∷ cs) e =
    let parts = and_parts (nat_lt (digit_value c) base) (are_digits base cs) e in
    (ltb-true (digit_value c) base parts.0, digits_all base cs parts.1)

all_digits : (base : ℕ) (cs : List ℕ) → AllByRecursion (λ d. digit_value d < base) cs →
    are_digits base cs ≡ true
all_digits base [] h = refl
all_digits base (c ∷ cs) h =
    and_from (nat_lt (digit_value c) base) (are_digits base cs) (lt-ltb (digit_value c) base h.0)
    (all_digits base cs h.1)

some_same : (x y : ℕ) → Some x ≡ Some y → x ≡ y
some_same x y e = cc

chosen : (b : Bool) (x n : ℕ) → (if b then Some x else None) ≡ Some n → (b ≡ true) × (x ≡ n)
chosen true x n e = (refl, some_same x n e)
chosen false x n e = absurd (cc)

numeral_is : (base : ℕ) (cs : List ℕ) (n : ℕ) → numeral base cs ≡ Some n → IsNumeral base cs n
numeral_is base [] n e = absurd (cc)
numeral_is base (c ∷ cs) n e =
    let v = value_behind base 0 (c ∷ cs) in
    let h = chosen (are_digits base (c ∷ cs) && nat_lt v (2 ^ 64)) v n e in
    let parts = and_parts (are_digits base (c ∷ cs)) (nat_lt v (2 ^ 64)) h.0 in
    record {
      some = λ none. let clash : c ∷ cs ≡ [] = none in cc;
      all = digits_all base (c ∷ cs) parts.0;
      value = sym h.1;
      fits = subst (λ k. k < 2 ^ 64) h.1 (ltb-true v (2 ^ 64) parts.1);
    }

numeral_from : (base : ℕ) (cs : List ℕ) (n : ℕ) → IsNumeral base cs n → numeral base cs ≡ Some n
numeral_from base [] n h = absurd (h.some refl)
numeral_from base (c ∷ cs) n h =
    let v = value_behind base 0 (c ∷ cs) in
    cond-true (are_digits base (c ∷ cs) && nat_lt v (2 ^ 64)) (Some v) None
    (and_from (are_digits base (c ∷ cs)) (nat_lt v (2 ^ 64)) (all_digits base (c ∷ cs) h.all)
    (lt-ltb v (2 ^ 64) (subst (λ k. k < 2 ^ 64) h.value h.fits)))
    ∙ ap Some (sym h.value)

marked_is : (cs : List ℕ) → is_marked cs ≡ true → cs ≡ 48 ∷ 120 ∷ drop 2 cs
marked_is cs e =
    let front : take 2 cs ≡ 48 ∷ 120 ∷ [] = (bytes_eq-Decides (take 2 cs) (48 ∷ 120 ∷ [])).0 e in
    sym (take-append-drop 2 cs) ∙ ap (λ l. l ++ drop 2 cs) front

-- what begins with `0x` are no decimal digits
not_both : (cs : List ℕ) (n : ℕ) → IsNumeral 10 cs n → is_marked cs ≡ true → ⊥
not_both cs n h e =
    let all = subst (AllByRecursion (λ d. digit_value d < 10)) (marked_is cs e) h.all in
    let digit : digit_value 120 < 10 = all.1.0 in
    absurd (omega arith)

by_mark : (cs : List ℕ) (n : ℕ) (b : Bool) → is_marked cs ≡ b →
    (if b then numeral 16 (drop 2 cs) else numeral 10 cs) ≡ Some n → SpellsToken cs (Number n)
by_mark cs n true e h =
    inr (record {
      digits = drop 2 cs;
      marked = marked_is cs e;
      numeral = numeral_is 16 (drop 2 cs) n h;
    })
by_mark cs n false e h = inl (numeral_is 10 cs n h)

pub spelled_is : (cs : List ℕ) (n : ℕ) → number_spelled cs ≡ Some n → SpellsToken cs (Number n)
spelled_is cs n h = by_mark cs n (is_marked cs) refl h

pub spelled_from : (cs : List ℕ) (n : ℕ) → SpellsToken cs (Number n) → number_spelled cs ≡ Some n
spelled_from cs n (inl h) =
    cond-false (is_marked cs) (numeral 16 (drop 2 cs)) (numeral 10 cs)
    (false_from_ne_true (is_marked cs) (not_both cs n h))
    ∙ numeral_from 10 cs n h
spelled_from cs n (inr h) =
    ap number_spelled h.marked ∙ numeral_from 16 h.digits n h.numeral

-- an answer that is the number that is spelled, if there is one
pub number_is : (cs : List ℕ) (r : Option ℕ) → IfSome r (λ n. SpellsToken cs (Number n)) →
    ((n : ℕ) → SpellsToken cs (Number n) → r ≡ Some n) → r ≡ number_spelled cs
number_is cs (Some n) found only = sym (spelled_from cs n found)
number_is cs None found only = none (number_spelled cs) refl
  where
    none : (o : Option ℕ) → number_spelled cs ≡ o → None ≡ number_spelled cs
    none None e = sym e
    none (Some n) e = absurd (let no : None ≡ Some n = only n (spelled_is cs n e) in cc)
