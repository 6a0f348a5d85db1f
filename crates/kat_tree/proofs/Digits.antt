-- Digits that come one after another.
use Rattle.std.proofs.Common.{◌≡◌, ℕ, List, [], ◌∷◌, Option, Some, None, Iter, sym, ap, ◌∙◌, subst, refl}
use Rattle.std.specs.Iterator.{AlwaysYields}
use Rattle.std.specs.Iterator.Adapters.{copied_source}
use Rattle.std.specs.Option.{option_and_then}
use Rattle.std.specs.Slice.Iter.{iter_rest}
use Rattle.std.specs.Str.{chars, IsUtf8}
use Rattle.std.specs.Str.Iter.{chars_rest, chars_steps}
use Rattle.std.specs.declared.iter.Copied.{Copied}
use Rattle.std.specs.declared.str.Chars.{Chars}
use Rattle.std.proofs.iter.Yields.{fronts, copies, Copied-slice}
use Rattle.std.proofs.lemmas.Str.{Chars-gives, encodes-chars}
use Rattle.kat_tree.specs.Number.{with_digit, with_digits, digits_number}
use Rattle.kat_tree.proofs.Words.{digits_number-cons}

-- an iterator gives these characters
abbrev pub Gives : {I : Type 0} → (I → Option ℕ → I → Type 0) → I → List ℕ → Type 0
Gives steps it cs = AlwaysYields steps (λ c. c) it cs

-- the first of them came, and the others are left
abbrev IsFirst : {I : Type 0} → (I → Option ℕ → I → Type 0) → I → ℕ → List ℕ → Type 0
IsFirst steps it c cs = (rest : List ℕ) × ((cs ≡ c ∷ rest) × Gives steps it rest)

gives-next : {I : Type 0} (steps : I → Option ℕ → I → Type 0) (s t : I) (c : ℕ) (cs : List ℕ) → steps s (Some c) t → Gives steps s cs → IsFirst steps t c cs
gives-next steps s t c [] step gives = absurd (gives c t step)
gives-next steps s t c (d ∷ cs) step gives = let parts = gives.1 c t step in (cs, (ap (λ x. x ∷ cs) (sym parts.0), parts.1))

gives-end : {I : Type 0} (steps : I → Option ℕ → I → Type 0) (s t : I) (cs : List ℕ) → steps s None t → Gives steps s cs → cs ≡ []
gives-end steps s t [] step gives = refl
gives-end steps s t (c ∷ cs) step gives = absurd (gives.0 t step)

-- the characters of a slice, and those of a text
pub gives-slice : (s : Copied (Iter ℕ)) (cs : List ℕ) → iter_rest (copied_source s) ≡ cs → Gives (copies fronts) s cs
gives-slice s cs rest = subst (Gives (copies fronts) s) rest (Copied-slice s)

pub gives-text : (s : Chars) (bytes : List ℕ) → IsUtf8 bytes → chars_rest s ≡ bytes → Gives chars_steps s (chars bytes)
gives-text s bytes text rest = Chars-gives (chars bytes) s (encodes-chars bytes text ∙ sym rest)

with_digits-cons : (base n digit : ℕ) (digits : List ℕ) (r : Option ℕ) → with_digit base n digit ≡ r → with_digits base n (digit ∷ digits) ≡ option_and_then (λ k. with_digits base k digits) r
unfolding with_digits
with_digits-cons base n digit digits r e = ap (option_and_then (λ k. with_digits base k digits)) e

with_digits-nil : (base n : ℕ) → with_digits base n [] ≡ Some n
unfolding with_digits
with_digits-nil base n = refl

-- behind the number so far the digits are left that an iterator still gives
abbrev pub IsLeft : {I : Type 0} → (I → Option ℕ → I → Type 0) → I → ℕ → ℕ → List ℕ → Type 0
IsLeft steps it base n cs = (rest : List ℕ) × (Gives steps it rest × (digits_number base cs ≡ with_digits base n rest))

module _ {I : Type 0} (steps : I → Option ℕ → I → Type 0) (s t : I) (base : ℕ) (cs : List ℕ) where
  pub no_digits : steps s None t → Gives steps s cs → None ≡ digits_number base cs
  no_digits step gives = ap (digits_number base) (sym (gives-end steps s t cs step gives))

  first_step : (digit : ℕ) (r : Option ℕ) (first : IsFirst steps t digit cs) → r ≡ with_digit base 0 digit → digits_number base cs ≡ option_and_then (λ k. with_digits base k first.0) r
  first_step digit r first e = ap (digits_number base) first.1.0 ∙ digits_number-cons base digit first.0 ∙ with_digits-cons base 0 digit first.0 r (sym e)

  pub first_refused : (digit : ℕ) → steps s (Some digit) t → Gives steps s cs → None ≡ with_digit base 0 digit → None ≡ digits_number base cs
  first_refused digit step gives e = sym (first_step digit None (gives-next steps s t digit cs step gives) e)

  pub first_taken : (digit m : ℕ) → steps s (Some digit) t → Gives steps s cs → Some m ≡ with_digit base 0 digit → IsLeft steps t base m cs
  first_taken digit m step gives e =
      let first = gives-next steps s t digit cs step gives in (first.0, (first.1.1, first_step digit (Some m) first e))

  next_step : (n digit : ℕ) (r : Option ℕ) (rest : List ℕ) (next : IsFirst steps t digit rest) → digits_number base cs ≡ with_digits base n rest → r ≡ with_digit base n digit → digits_number base cs ≡ option_and_then (λ k. with_digits base k next.0) r
  next_step n digit r rest next so_far e = so_far ∙ ap (with_digits base n) next.1.0 ∙ with_digits-cons base n digit next.0 r (sym e)

  pub next_refused : (n digit : ℕ) → steps s (Some digit) t → IsLeft steps s base n cs → None ≡ with_digit base n digit → None ≡ digits_number base cs
  next_refused n digit step left e = sym (next_step n digit None left.0 (gives-next steps s t digit left.0 step left.1.0) left.1.1 e)

  pub next_taken : (n digit m : ℕ) → steps s (Some digit) t → IsLeft steps s base n cs → Some m ≡ with_digit base n digit → IsLeft steps t base m cs
  next_taken n digit m step left e =
      let next = gives-next steps s t digit left.0 step left.1.0 in (next.0, (next.1.1, next_step n digit (Some m) left.0 next left.1.1 e))

  pub all_taken : (n : ℕ) → steps s None t → IsLeft steps s base n cs → Some n ≡ digits_number base cs
  all_taken n step left = sym (left.1.1 ∙ ap (with_digits base n) (gives-end steps s t left.0 step left.1.0) ∙ with_digits-nil base n)
