-- Where a name stands among others: at the first place that has it.
use Rattle.std.proofs.Common.{◌≡◌, ◌∙◌, ℕ, zero, suc, ◌<◌, Bool, true, false, cond, get_or, List, [], ◌∷◌, length, slice_get, Some, None, refl, ap, sym, subst, arith}
use Rattle.std.specs.Prelude.{nat_lt}
use Rattle.std.specs.List.{AllByRecursion, position_or_len}
use Rattle.std.specs.Str.{bytes_eq}
use Rattle.std.proofs.lemmas.Bool.{lt-ltb}
use Rattle.std.proofs.lemmas.Bool.Decides.{nat_tests}
use Rattle.std.proofs.lemmas.List.Sums.{position_or_len_is}
use Rattle.std.proofs.lemmas.Option.{get_or_from_slice_get, none-some, same_Some, slice_get-get_or, slice_get_within}
use Rattle.std.proofs.lemmas.Slice.Eq.{bytes_eq-Decides}
use Rattle.kat_names.specs.Names.{AllDiffer, position_of}
use Rattle.kat_value.specs.declared.types.Field.{Field}
use Rattle.kat_syntax.specs.NamedValues.{names_of_fields}
use Rattle.kat_syntax.specs.Tables.{Name}

-- a test that is never passed
failed : (b : Bool) → (b ≡ true → ⊥) → b ≡ false
failed true never = absurd (never refl)
failed false never = refl

not_below : (n : ℕ) → nat_lt n n ≡ false
not_below n = grind (arith, nat_tests)

-- the place of a name is the first that has it
pub found_at : (names : List Name) (x : Name) (i : ℕ) → slice_get names i ≡ Some x →
    ((k : ℕ) → k < i → slice_get names k ≡ Some x → ⊥) → position_of names x ≡ Some i
found_at names x i at first =
    let within : i < length names = slice_get_within names i x at in
    let is : position_or_len (bytes_eq x) names ≡ i =
    position_or_len_is (bytes_eq x) names i [] (omega (arith, within))
    (λ k less. failed (bytes_eq x (get_or names k []))
    (λ e. first k less (slice_get-get_or names k [] (omega (arith, within, less))
    ∙ ap (λ n. Some n) (sym ((bytes_eq-Decides x (get_or names k [])).0 e)))))
    (λ w. (bytes_eq-Decides x (get_or names i [])).1
    (sym (get_or_from_slice_get names i x [] at))) in
    ap (λ n. cond (nat_lt n (length names)) (Some n) None) is
    ∙ ap (λ b. cond b (Some i) None) (lt-ltb i (length names) within)

-- a name that no place has
pub found_nowhere : (names : List Name) (x : Name) →
    ((k : ℕ) → slice_get names k ≡ Some x → ⊥) → position_of names x ≡ None
found_nowhere names x never =
    let is : position_or_len (bytes_eq x) names ≡ length names =
    position_or_len_is (bytes_eq x) names (length names) [] (omega arith)
    (λ k less. failed (bytes_eq x (get_or names k []))
    (λ e. never k (slice_get-get_or names k [] less
    ∙ ap (λ n. Some n) (sym ((bytes_eq-Decides x (get_or names k [])).0 e)))))
    (λ w. absurd (omega (arith, w))) in
    ap (λ n. cond (nat_lt n (length names)) (Some n) None) is
    ∙ ap (λ b. cond b (Some (length names)) None) (not_below (length names))

-- names that differ are each found at their own place
pub found_apart : (names : List Name) (x : Name) (i : ℕ) → AllDiffer names →
    slice_get names i ≡ Some x → position_of names x ≡ Some i
found_apart names x i differ at =
    found_at names x i at
    (λ k less here. differ k i [] less (slice_get_within names i x at)
    (get_or_from_slice_get names k x [] here ∙ sym (get_or_from_slice_get names i x [] at)))

-- what holds of all holds of each
pub one_of : {A : Type 0} (P : A → Type 0) (xs : List A) (i : ℕ) (x : A) → AllByRecursion P xs →
    slice_get xs i ≡ Some x → P x
one_of P [] i x are at = absurd (none-some x at)
one_of P (y ∷ ys) zero x are at = subst P (same_Some y x at) are.0
one_of P (y ∷ ys) (suc i) x are at = one_of P ys i x are.1 at

-- the name of a part that is there
pub name_of_part : (parts : List Field) (i : ℕ) (part : Field) → slice_get parts i ≡ Some part →
    slice_get (names_of_fields parts) i ≡ Some part.name
name_of_part [] i part at = absurd (none-some part at)
name_of_part (one ∷ parts) zero part at = ap (λ (o : Field). Some o.name) (same_Some one part at)
name_of_part (one ∷ parts) (suc i) part at = name_of_part parts i part at
