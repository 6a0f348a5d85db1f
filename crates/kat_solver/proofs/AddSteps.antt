-- Steps of the code that adds formulas.
use Rattle.std.proofs.Common.{◌≡◌, ◌∙◌, ◌++◌, ◌-◌, ◌<◌, ℕ, zero, suc, Bool, true, false, List, [], ◌∷◌, Option, Some, None, refl, ap, sym, arith, if◌then◌else◌}
use Rattle.std.proofs.lemmas.List.{append-nil}
use Rattle.kat_value.specs.declared.types.Ty.{Ty}
use Rattle.kat_term.specs.declared.term.Term.{Term}
use Rattle.kat_norm.specs.Substitution.{Substitution}
use Rattle.kat_known.specs.Known.{known}
use Rattle.kat_known.specs.Views.{where_so, is_atom}
use Rattle.kat_solver.specs.Add.{max_members, stage_of, stays, staying, moving, appended, reduced_by, atom_known, taken, and_on, added_from}
use Rattle.kat_solver.specs.declared.add.Stage.{Stage}
use Rattle.kat_solver.specs.declared.settled.Settled.TheVariants.{Closed, Open}

pub all_members : 100000 ≡ max_members
unfolding max_members
all_members = refl

pub no_where : {B : Type 0} (b : Bool) (o : Option B) → b ≡ false → None ≡ where_so b o
no_where true o e = cc
no_where false o e = refl

module _ (vars : List Ty) (norm : Term → Option Term) where
  pub no_atom : (list : List Term) (t : Term) → is_atom vars t ≡ false →
      None ≡ atom_known vars norm list t
  no_atom list t e = no_where (is_atom vars t) (known vars norm list t) e

  -- where nothing moves, all stay
  pub all_stay : (list ts : List Term) → moving vars norm list ts ≡ [] →
      staying vars norm list ts ≡ ts
  all_stay list [] e = refl
  all_stay list (t ∷ ts) e = by (stays vars norm list t) (λ h. all_stay list ts h) e where
    by : (b : Bool) → (moving vars norm list ts ≡ [] → staying vars norm list ts ≡ ts) →
        (if b then moving vars norm list ts else reduced_by vars norm list t ∷ moving vars norm list
        ts) ≡ [] →
        (if b then t ∷ staying vars norm list ts else staying vars norm list ts) ≡ t ∷ ts
    by true go h = ap (λ us. t ∷ us) (go h)
    by false go h = cc

  pub no_atom_at : (list : List Term) (t : Term) (seen : List Ty) (b : Bool) → b ≡ is_atom seen t →
      seen ≡ vars → b ≡ false →
      None ≡ atom_known vars norm list t
  no_atom_at list t seen b test same is =
      no_atom list t (ap (λ us. is_atom us t) (sym same) ∙ sym test ∙ is)

  pub nothing_moves : (agenda : List Term) (pairs : Substitution)
      (whole list seen found : List Term) → list ≡ whole → seen ≡ list →
      found ≡ moving vars norm seen seen → found ≡ [] →
      stage_of agenda pairs list ≡ appended vars norm agenda pairs whole
  nothing_moves agenda pairs whole list seen found same shown is none =
      let nothing : moving vars norm list list ≡ [] =
      ap (λ us. moving vars norm us us) (sym shown) ∙ sym is ∙ none in
      ap (λ us. stage_of us pairs list)
      (sym (append-nil agenda) ∙ ap (λ us. agenda ++ us) (sym nothing))
      ∙ ap (λ us. stage_of (agenda ++ moving vars norm list list) pairs us)
      (sym (all_stay list list nothing))
      ∙ ap (λ us. appended vars norm agenda pairs us) same
