-- How far the parts of a list have been gone over.
use Rattle.std.proofs.Common.{◌≡◌, ℕ, ◌+◌, ◌<◌, ◌≤◌, ◌^◌, true, false, List, [], length, map, sum, get_or, Option, Some, None, refl, ap, ◌∙◌, arith}
use Rattle.std.specs.Prelude.{slice_get, IsSome}
use Rattle.std.specs.Option.{is_some, option_and_then, unwrap_or}
use Rattle.std.proofs.lemmas.Option.{slice_get-get_or, slice_get_read}
use Rattle.std.proofs.lemmas.List.{take_all}
use Rattle.kat_tree.specs.declared.tree.Token.{Token}
use Rattle.kat_tree.specs.declared.tree.Tree.{Tree}
use Rattle.kat_tree.specs.declared.tree.Tree.TheVariants as tree
use Rattle.kat_tree.specs.Preorder.{count_of, place_of_part}
use Rattle.kat_shapes.specs.declared.sort.Sort.{Sort}
use Rattle.kat_shapes.specs.declared.sort.Sort.TheVariants.{Word}
use Rattle.kat_shapes.specs.declared.misfit.Misfit.{Misfit}
use Rattle.kat_shapes.specs.Sorts.{wanted_of}
use Rattle.kat_shapes.specs.Forms.{Form, form_of, sorts_of, fits_token}
use Rattle.kat_shapes.specs.Fits.{fits_in}
use Rattle.kat_shapes.specs.Places.{word_before, sorts_of_parts, has_form, IsMisfitFrom, capped_place}
use Rattle.kat_shapes.proofs.Layers.{count_of-Atom, count_of-List, fits-Atom, has_form-Atom, has_form-List}
use Rattle.kat_shapes.proofs.Parts.{before, before_more, before_whole}
use Rattle.kat_shapes.proofs.Misfits.{Below, below_none, below_fit, below_all, list_fit, formless_here, formless_inside, sorts_length}

-- numbers that stand still
pub capped_more : (a b : ℕ) → capped_place (capped_place a + b) ≡ capped_place (a + b)
capped_more a b = omega arith

pub capped_small : (a : ℕ) → a < 2 ^ 64 → a ≡ capped_place a
capped_small a small = omega arith

-- the parts before a position fit, and the next of them has this number
pub record Going (v : ℕ) (sorts : List Sort) (parts : List Tree) (place next at : ℕ) : Type 0 where
  pub below : Below v sorts parts at
  pub next_is : next ≡ capped_place (place_of_part place parts at)

pub start : (v : ℕ) (sorts : List Sort) (parts : List Tree) (place next : ℕ) → next ≡ capped_place (place + 1) → Going v sorts parts place next 0
start v sorts parts place next e = record {
  below = below_none v sorts parts;
  next_is = e ∙ ap capped_place (let f : place + 1 ≡ place + 1 + 0 = omega arith in f);
}

-- the sorts of the parts of a list of this form
abbrev pub sorts_here : Form → ℕ → List Sort
sorts_here form count = unwrap_or (sorts_of form count) []

some_of : {A : Type 0} (found : Option (List A)) → IsSome found → found ≡ Some (unwrap_or found [])
some_of None some = absurd (cc)
some_of (Some xs) some = refl

-- the sort of a part
pub sort_here : (found : Option (List Sort)) (at : ℕ) (sort : Sort) →
    option_and_then (λ sorts. slice_get sorts at) found ≡ Some sort → slice_get (unwrap_or found []) at ≡ Some sort
sort_here None at sort e = absurd (cc)
sort_here (Some sorts) at sort e = e

no_sort : (found : Option (List Sort)) (count at : ℕ) → IsSome found → length (unwrap_or found []) ≡ count → at < count →
    option_and_then (λ sorts. slice_get sorts at) found ≡ None → ⊥
no_sort None count at some long within none = absurd (cc)
no_sort (Some xs) count at some long within none =
    let f : slice_get xs at ≡ Some (get_or xs at Word) = slice_get-get_or xs at Word (omega arith) in let g : slice_get xs at ≡ None = none in cc

-- each part has one
pub has_sort : (form : Form) (count at : ℕ) → IsSome (sorts_of form count) → at < count →
    option_and_then (λ sorts. slice_get sorts at) (sorts_of form count) ≡ None → ⊥
has_sort form count at some within none =
    no_sort (sorts_of form count) count at some (sorts_length form count (sorts_here form count) (some_of (sorts_of form count) some)) within none

-- a part at a position
pub part_here : (parts : List Tree) (at : ℕ) (part : Tree) → at < length parts → part ≡ get_or parts at part → slice_get parts at ≡ Some part
part_here parts at part within is = slice_get_read parts (length parts) at part refl within is

-- a list whose form is known, and has as many parts
pub formed_of : (v : ℕ) (sort : Sort) (parts : List Tree) (form : Form) → form_of v sort (word_before parts) ≡ Some form → IsSome (sorts_of form (length parts)) →
    sorts_of_parts v sort parts ≡ Some (sorts_here form (length parts))
formed_of v sort parts form shaped counted =
    ap (λ found. option_and_then (λ f. sorts_of f (length parts)) found) shaped ∙ some_of (sorts_of form (length parts)) counted

-- one that has none, or not as many
pub formless_list : (v : ℕ) (sort : Sort) (t : Tree) (parts : List Tree) → t ≡ tree.List parts → form_of v sort (word_before parts) ≡ None → has_form v sort t ≡ false
formless_list v sort t parts is none =
    ap (has_form v sort) is ∙ has_form-List v sort parts ∙ ap (λ found. is_some (option_and_then (λ f. sorts_of f (length parts)) found)) none

not_some : {A : Type 0} (found : Option A) → (IsSome found → ⊥) → is_some found ≡ false
not_some None no_one = refl
not_some (Some x) no_one = absurd (no_one refl)

pub uncounted_list : (v : ℕ) (sort : Sort) (t : Tree) (parts : List Tree) (form : Form) → t ≡ tree.List parts → form_of v sort (word_before parts) ≡ Some form →
    (IsSome (sorts_of form (length parts)) → ⊥) → has_form v sort t ≡ false
uncounted_list v sort t parts form is shaped uncounted =
    ap (has_form v sort) is ∙ has_form-List v sort parts ∙ ap (λ found. is_some (option_and_then (λ f. sorts_of f (length parts)) found)) shaped
    ∙ not_some (sorts_of form (length parts)) uncounted

pub formless_atom : (v : ℕ) (sort : Sort) (t : Tree) (token : Token) → t ≡ tree.Atom token → fits_token v sort token ≡ false → has_form v sort t ≡ false
formless_atom v sort t token is none = ap (has_form v sort) is ∙ has_form-Atom v sort token ∙ none

-- the misfit at a tree that has no form itself
pub misfit_here : (v : ℕ) (sort : Sort) (t : Tree) (place : ℕ) (misfit : Misfit) → place < 2 ^ 64 → has_form v sort t ≡ false →
    misfit ≡ record { place = place; wanted = wanted_of sort } → IsMisfitFrom v sort t place misfit
misfit_here v sort t place misfit small none is = record {
  place = 0;
  found = t;
  sort = sort;
  is = formless_here v sort t none;
  at = ap (λ m. m.place) is ∙ (let e : place ≡ capped_place (place + 0) = omega arith in e);
  wanted = ap (λ m. m.wanted) is;
}

-- an atom that fits
pub atom_fits : (v : ℕ) (sort : Sort) (t : Tree) (token : Token) → t ≡ tree.Atom token → fits_token v sort token ≡ true → (fits_in v sort t ≡ true) × (count_of t ≡ 1)
atom_fits v sort t token is fit = (ap (fits_in v sort) is ∙ fits-Atom v sort token ∙ fit, ap count_of is ∙ count_of-Atom token)

module _ (v : ℕ) (sort : Sort) (t : Tree) (parts : List Tree) (sorts : List Sort) (is : t ≡ tree.List parts) (formed : sorts_of_parts v sort parts ≡ Some sorts)
    (place next at : ℕ) (going : Going v sorts parts place next at) where
  module _ (part : Tree) (s : Sort) (here : slice_get parts at ≡ Some part) (sorted : slice_get sorts at ≡ Some s) where
    -- the next part fits
    pub step : (then : ℕ) → fits_in v s part ≡ true → then ≡ capped_place (next + count_of part) → Going v sorts parts place then (at + 1)
    step then fit e = record {
      below = below_fit v sorts parts at part s going.below here sorted fit;
      next_is =
          e ∙ ap (λ n. capped_place (n + count_of part)) going.next_is ∙ capped_more (place_of_part place parts at) (count_of part)
          ∙ ap capped_place (let m = before_more parts at part here in let f : place_of_part place parts at + count_of part ≡ place_of_part place parts (at + 1) = omega arith in f);
    }

    -- the next part has the first misfit
    pub refused : (misfit : Misfit) → IsMisfitFrom v s part next misfit → IsMisfitFrom v sort t place misfit
    refused misfit from = record {
      place = 1 + before at parts + from.place;
      found = from.found;
      sort = from.sort;
      is = formless_inside v sort t parts sorts is formed at part s here sorted going.below from.place from.found from.sort from.is;
      at =
          from.at ∙ ap (λ n. capped_place (n + from.place)) going.next_is ∙ capped_more (place_of_part place parts at) from.place
          ∙ ap capped_place (let f : place_of_part place parts at + from.place ≡ place + (1 + before at parts + from.place) = omega arith in f);
      wanted = from.wanted;
    }

  -- all parts fit
  pub end : length parts ≤ at → (fits_in v sort t ≡ true) × (next ≡ capped_place (place + count_of t))
  end past = (
    list_fit v sort t parts sorts is formed (below_all v sorts parts at past going.below),
    going.next_is ∙ ap capped_place (
        let m = ap (λ ps. sum (map count_of ps)) (take_all at parts past) in
        let n = ap count_of is ∙ count_of-List parts in
        let f : place_of_part place parts at ≡ place + count_of t = omega arith in f),
  )

-- a part has fewer trees than the tree
pub fewer : (t : Tree) (parts : List Tree) (at : ℕ) (part : Tree) → t ≡ tree.List parts → slice_get parts at ≡ Some part → count_of part < count_of t
fewer t parts at part is here = omega (arith, ap count_of is, count_of-List parts, before_whole parts at part here)
