-- Settling goes on from formulas that are settled.
use Rattle.std.proofs.Common.{◌≡◌, ◌∙◌, ◌++◌, List, [], ◌∷◌, Option, refl, sym, ap}
use Rattle.kat_value.specs.declared.types.Ty.{Ty}
use Rattle.kat_term.specs.declared.term.Term.{Term}
use Rattle.kat_known.specs.Normal.{norm_in}
use Rattle.kat_solver.specs.Add.{added, all_added, settled_of}
use Rattle.kat_solver.specs.Settled.{unsettled}
use Rattle.kat_solver.specs.declared.settled.Settled.{Settled}

module _ (vars : List Ty) (norm : Term → Option Term) where
  -- formulas added are the first ones added, and then the others
  pub added_behind : (settled : Settled) (first rest : List Term) →
      all_added vars norm (all_added vars norm settled first) rest
      ≡ all_added vars norm settled (first ++ rest)
  added_behind settled [] rest = refl
  added_behind settled (f ∷ fs) rest = added_behind (added vars norm settled f) fs rest

-- what is settled, with the others added, is all of it settled
pub settled_on : (vars seen : List Ty) (kept rest whole : List Term) (begun now : Settled) →
    vars ≡ seen → begun ≡ settled_of vars (norm_in vars) kept →
    now ≡ all_added seen (norm_in seen) begun rest → whole ≡ kept ++ rest →
    now ≡ settled_of vars (norm_in vars) whole
settled_on vars seen kept rest whole begun now same is on made =
    on ∙ ap (λ us. all_added us (norm_in us) begun rest) (sym same)
    ∙ ap (λ world. all_added vars (norm_in vars) world rest) is
    ∙ added_behind vars (norm_in vars) unsettled kept rest
    ∙ ap (settled_of vars (norm_in vars)) (sym made)
