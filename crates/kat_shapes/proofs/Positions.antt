-- The sort at a position of a form.
use Rattle.std.proofs.Common.{◌≡◌, ℕ, ◌+◌, ◌-◌, ◌<◌, ◌≤◌, List, [], ◌++◌, length, get_or, Option, Some, None, refl, ap, ◌∙◌, arith, length-append}
use Rattle.std.specs.Prelude.{replicate, slice_get}
use Rattle.std.specs.Option.{option_and_then}
use Rattle.std.proofs.lemmas.Option.{slice_get-get_or}
use Rattle.std.proofs.lemmas.List.{get_or-append-add}
use Rattle.std.proofs.lemmas.List.{length-replicate}
use Rattle.std.proofs.lemmas.Bool.{le-leb}
use Rattle.kat_shapes.specs.declared.sort.Sort.{Sort}
use Rattle.kat_shapes.specs.Forms.{sorts_of}

-- the parts behind others
behind : (xs ys : List Sort) (at k : ℕ) (d : Sort) → at ≡ length xs + k → k < length ys → slice_get (xs ++ ys) at ≡ Some (get_or ys k d)
behind xs ys at k d e within =
    slice_get-get_or (xs ++ ys) at d (omega (arith, length-append xs ys))
    ∙ ap Some (ap (λ i. get_or (xs ++ ys) i d) e ∙ get_or-append-add xs ys k d)

-- a last part of a list
pub last_sort : (since : ℕ) (first last : List Sort) (middle : Option Sort) (count at k : ℕ) (d : Sort) →
    length first + length last ≤ count → at ≡ (count - length last) + k → k < length last →
    (middle ≡ None → count ≤ length first + length last) →
    option_and_then (λ sorts. slice_get sorts at) (sorts_of (record { since = since; first = first; middle = middle; last = last }) count) ≡ Some (get_or last k d)
last_sort since first last None count at k d enough at_is within none =
    let e : count ≡ length first + length last = omega (arith, none refl) in
    let f : length first + length last - (length first + length last) ≡ 0 = omega arith in
    rw (e, le-leb (length first + length last) (length first + length last) (omega arith), f)
    (behind (first ++ []) last at k d (omega (arith, length-append {A = Sort} first [])) within)
last_sort since first last (Some sort) count at k d enough at_is within none =
    rw (le-leb (length first + length last) count enough)
    (behind (first ++ replicate (count - (length first + length last)) sort) last at k d
    (omega (arith, length-append first (replicate (count - (length first + length last)) sort), length-replicate (count - (length first + length last)) sort)) within)
