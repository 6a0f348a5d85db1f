-- Chunks as the valuation is extended.
use Rattle.std.proofs.Common.{◌≡◌, List, [], ◌∷◌, ◌++◌, Option, None, Some, refl, ap, ◌∙◌}
use Rattle.std.specs.Prelude.{option_and_then}
use Rattle.std.specs.Option.{option_map}
use Rattle.kat_value.specs.declared.value.Value.{Value}
use Rattle.kat_ast.specs.declared.decl.DeclForm.{DeclForm}
use Rattle.kat_syntax.specs.Fragments.{Fragment}
use Rattle.kat_syntax.specs.TypeTable.{types_of_decls}
use Rattle.kat_term.specs.declared.term.Term.{Term}
use Rattle.kat_term.specs.Growth.{ValuesStay}
use Rattle.kat_term.specs.Values.{Valuation}
use Rattle.kat_chunk.specs.declared.chunk.Chunk.{Chunk}
use Rattle.kat_chunk.specs.declared.chunk.Chunk.TheVariants.{Reg, Cell, Pred, Region}
use Rattle.kat_chunk.specs.Chunks.{HasParts, HaveValues, IsPart}
use Rattle.kat_chunk.proofs.Options.{none_some}

-- a list with one more before it, where all is there
front : {A : Type 0} → A → Option (List A) → Option (List A)
front x o = option_map (λ xs. x ∷ xs) o

-- where a list of options is there, and another has the same in each place, so is the other
kept_front :
    {A : Type 0} (a b : Option A) (as_ bs : Option (List A)) (xs : List A) →
    ((x : A) → a ≡ Some x → b ≡ Some x) → ((ys : List A) → as_ ≡ Some ys → bs ≡ Some ys) →
    option_and_then (λ x. option_map (λ ys. x ∷ ys) as_) a ≡ Some xs →
    option_and_then (λ x. option_map (λ ys. x ∷ ys) bs) b ≡ Some xs
kept_front None b as_ bs xs one all e = none_some e
kept_front (Some x) b None bs xs one all e = none_some e
kept_front (Some x) b (Some ys) bs xs one all e =
    ap (λ o. option_and_then (λ y. option_map (λ zs. y ∷ zs) bs) o) (one x refl)
    ∙ ap (λ o. option_map (λ zs. x ∷ zs) o) (all ys refl) ∙ e

module _ (stays : ValuesStay) (decls : List DeclForm) (ρ more : Valuation) where
  -- lists of values stay
  values_stay :
      (terms : List Term) (values : List Value) →
      HaveValues decls ρ terms values → HaveValues decls (ρ ++ more) terms values
  values_stay [] values e = e
  values_stay (t ∷ terms) values e =
      kept_front _ _ _ _ values (stays (types_of_decls decls) ρ more t) (values_stay terms) e

  -- a part stays one
  part_stays :
      (chunk : Chunk) (f : Fragment) →
      IsPart decls ρ chunk f → IsPart decls (ρ ++ more) chunk f
  part_stays (Reg at t) f h =
      (h.0, stays (types_of_decls decls) ρ more t h.0 h.1, h.2, h.3)
  part_stays (Cell key t) f h = (
    h.0,
    h.1,
    stays (types_of_decls decls) ρ more key _ h.2,
    stays (types_of_decls decls) ρ more t _ h.3,
    h.4,
    h.5,
  )
  part_stays (Pred at args) f h = (h.0, h.1, h.2, values_stay args h.1 h.3, h.4)
  part_stays (Region at args holes) f h =
      (h.0, h.1, h.2, h.3, values_stay args h.1 h.4, values_stay holes h.2 h.5, h.6)

  -- all parts stay
  pub parts_stay :
      (chunks : List Chunk) (p : Fragment) →
      HasParts decls ρ chunks p → HasParts decls (ρ ++ more) chunks p
  parts_stay [] p h = tt
  parts_stay (chunk ∷ chunks) p h =
      (h.0, h.1, h.2, part_stays chunk h.0 h.3, parts_stay chunks h.1 h.4)
