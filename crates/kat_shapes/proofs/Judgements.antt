-- A text has right form, or one first misfit.
use Rattle.std.proofs.Common.{◌≡◌, ℕ, ◌+◌, ◌<◌, ◌≤◌, ◌⊎◌, inl, inr, ⊎_elim, true, false, refl, ap, sym, ◌∙◌, subst, arith}
use Rattle.std.proofs.lemmas.Bool.{cases_lt, true≢false}
use Rattle.kat_tree.specs.declared.tree.Tree.{Tree}
use Rattle.kat_tree.specs.Preorder.{count_of}
use Rattle.kat_shapes.specs.declared.sort.Sort.{Sort}
use Rattle.kat_shapes.specs.declared.misfit.Misfit.{Misfit}
use Rattle.kat_shapes.specs.Sorts.{wanted_of}
use Rattle.kat_shapes.specs.Fits.{fits_in}
use Rattle.kat_shapes.specs.Version.{version_of}
use Rattle.kat_shapes.specs.Places.{IsRead, capped_place, has_form, AllHaveForm, IsFirstMisfit, IsMisfitFrom}
use Rattle.kat_shapes.proofs.Reading.{one_reading}
use Rattle.kat_shapes.proofs.Misfits.{First, outcome, fit_everywhere}

pub some_judgement : (root : Sort) (text : Tree) → AllHaveForm root text ⊎ ((misfit : Misfit) × IsFirstMisfit root text misfit)
some_judgement root text = ⊎_elim
    (λ (fit : fits_in (version_of root text) root text ≡ true). inl (fit_everywhere (version_of root text) root text fit))
    (λ (first : First (version_of root text) root text).
    let misfit : Misfit = record { place = capped_place first.place; wanted = wanted_of first.sort } in
    let is : IsFirstMisfit root text misfit = record { place = first.place; found = first.found; sort = first.sort; is = first.is; at = refl; wanted = refl } in
    inr (misfit, is))
    (outcome (count_of text) (version_of root text) root text (omega arith))

clash : (v : ℕ) (s : Sort) (t : Tree) → has_form v s t ≡ true → has_form v s t ≡ false → ⊥
clash v s t formed formless = true≢false (sym formed ∙ formless)

pub never_both : (root : Sort) (text : Tree) (misfit : Misfit) → AllHaveForm root text → IsFirstMisfit root text misfit → ⊥
never_both root text misfit all first =
    clash (version_of root text) first.sort first.found (all first.place first.found first.sort first.is.read) first.is.formless

one_place : (root : Sort) (text : Tree) (a b : Misfit) (first : IsFirstMisfit root text a) (second : IsFirstMisfit root text b) → first.place ≡ second.place
one_place root text a b first second = ⊎_elim
    (λ (less : first.place < second.place).
    absurd (clash (version_of root text) first.sort first.found (second.is.first first.place first.found first.sort first.is.read less) first.is.formless))
    (λ (le : second.place ≤ first.place). ⊎_elim
    (λ (less : second.place < first.place).
    absurd (clash (version_of root text) second.sort second.found (first.is.first second.place second.found second.sort second.is.read less) second.is.formless))
    (λ (ge : first.place ≤ second.place). let e : first.place ≡ second.place = omega arith in e)
    (cases_lt second.place first.place))
    (cases_lt first.place second.place)

misfit_same : (a b : Misfit) → a.place ≡ b.place → a.wanted ≡ b.wanted → a ≡ b
misfit_same a b e f = ap (λ p. record { place = p; wanted = a.wanted }) e ∙ ap (λ w. record { place = b.place; wanted = w }) f

pub one_misfit : (root : Sort) (text : Tree) (a b : Misfit) → IsFirstMisfit root text a → IsFirstMisfit root text b → a ≡ b
one_misfit root text a b first second =
    let e = one_place root text a b first second in
    let read = subst (λ n. IsRead (version_of root text) root text n first.found first.sort) e first.is.read in
    let same = one_reading (count_of text) (version_of root text) root text (omega arith) second.place first.found second.found first.sort second.sort read second.is.read in
    misfit_same a b (first.at ∙ ap capped_place e ∙ sym second.at) (first.wanted ∙ ap wanted_of same.1 ∙ sym second.wanted)

-- a misfit that is counted from the root on
pub from_root : (root : Sort) (text : Tree) (misfit : Misfit) → IsMisfitFrom (version_of root text) root text 0 misfit → IsFirstMisfit root text misfit
from_root root text misfit from = record {
  place = from.place;
  found = from.found;
  sort = from.sort;
  is = from.is;
  at = from.at ∙ ap capped_place (let e : 0 + from.place ≡ from.place = omega arith in e);
  wanted = from.wanted;
}
