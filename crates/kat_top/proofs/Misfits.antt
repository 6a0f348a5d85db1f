-- A tree with a misfit is refused with it.
use Rattle.std.proofs.Common.{◌≡◌, ℕ, inr, List, Err, refl, sym, subst}
use Rattle.kat_tree.specs.declared.tree.Tree.{Tree}
use Rattle.kat_tree.specs.Spelling.{Spells}
use Rattle.kat_forms.specs.declared.error.FormError.{FormError}
use Rattle.kat_forms.specs.declared.error.FormError.TheVariants as form
use Rattle.kat_forms.specs.Reading.{IsFirstMisfit, Names}
use Rattle.kat_top.specs.declared.inputs.InputError.{InputError}
use Rattle.kat_top.specs.Inputs.{Thing, ASpec}
use Rattle.kat_top.specs.Loading.{ComesOf, error_of_form}

misfit_told : (earlier : List Thing) (bytes : List ℕ) (tree : Tree) (error : FormError) → Spells bytes tree → Names error (IsFirstMisfit tree) →
    ComesOf earlier ASpec bytes (Err (error_of_form error))
misfit_told earlier bytes tree (form.Wanted place wanted) spelled first =
    inr (record { tree = tree; place = place; wanted = wanted; said_is = refl; spelled = spelled; first = first })
misfit_told earlier bytes tree form.Memory spelled first = tt

pub misfit_comes : (earlier : List Thing) (bytes : List ℕ) (tree : Tree) (error : FormError) (said : InputError) → said ≡ error_of_form error →
    Spells bytes tree → Names error (IsFirstMisfit tree) → ComesOf earlier ASpec bytes (Err said)
misfit_comes earlier bytes tree error said is spelled first =
    subst (λ s. ComesOf earlier ASpec bytes (Err s)) (sym is) (misfit_told earlier bytes tree error spelled first)
