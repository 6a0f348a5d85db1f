-- A substitution keeps the value and the type of a term, and whatever else goes by its parts.
use Rattle.std.proofs.Common.{◌≡◌, ◌∙◌, ℕ, Bool, true, false, List, [], ◌∷◌, map, Option, refl, ap, sym, subst, if◌then◌else◌}
use Rattle.std.specs.Prelude.{◌==◌}
use Rattle.std.proofs.lemmas.Bool.{eqb-true}
use Rattle.kat_value.specs.declared.types.Ty.{Ty}
use Rattle.kat_value.specs.declared.types.TypeDecl.{TypeDecl}
use Rattle.kat_value.specs.declared.value.Value.{Value}
use Rattle.kat_term.specs.declared.term.Term.{Term}
use Rattle.kat_term.specs.declared.term.Term.TheOpen.{Term-F, Var, Lit, Apply, Make, Rec}
use Rattle.kat_term.specs.declared.term.Term.TheViews.{roll-Term}
use Rattle.kat_term.specs.declared.term.Term.TheFolds.{map-Term, fold-Term, fold-roll-Term, ind-Term}
use Rattle.kat_term.specs.Types.{type_layer, type_of}
use Rattle.kat_term.specs.Values.{value_layer}
use Rattle.kat_norm.specs.Kept.{KeptBySubstitution}
use Rattle.kat_norm.specs.Substitution.{Substitution, put_layer, put, substituted, ArePairsOf}

-- what a term means, where each layer means what it makes of the meanings of the parts
module _ {A : Type 0} (layer : Term-F A → A) where
  abbrev meant : Term → A
  meant = fold-Term A layer

  meant_roll : (x : Term-F Term) → meant (roll-Term x) ≡ layer (map-Term Term A meant x)
  meant_roll x = fold-roll-Term A layer x

  -- a term that means what a variable means stands in its place
  module _ (number : ℕ) (term : Term) (equal : meant (roll-Term (Var number)) ≡ meant term) where
    abbrev IsPut : Term → Type 0
    IsPut t = meant (put number term t) ≡ meant t

    abbrev PutPart : Type 0
    PutPart = (t : Term) × IsPut t

    all_put : (ts : List PutPart) → map meant (map (put number term) (map (λ e. e.0) ts)) ≡ map meant (map (λ e. e.0) ts)
    all_put [] = refl
    all_put (e ∷ ts) = let head : meant (put number term e.0) ≡ meant e.0 = e.1 in let tail = all_put ts in cc

    variable : (i : ℕ) → meant (if i == number then term else roll-Term (Var i)) ≡ meant (roll-Term (Var i))
    variable i = by (i == number) refl where
      by : (b : Bool) → (i == number) ≡ b → meant (if b then term else roll-Term (Var i)) ≡ meant (roll-Term (Var i))
      by true is = sym equal ∙ ap (λ n. meant (roll-Term (Var n))) (sym (eqb-true i number is))
      by false is = refl

    layer_put : (y : Term-F PutPart) →
        meant (put_layer number term (map-Term Term Term (put number term) (map-Term PutPart Term (λ e. e.0) y)))
        ≡ meant (roll-Term (map-Term PutPart Term (λ e. e.0) y))
    layer_put (Var i) = variable i
    layer_put (Lit x) = refl
    layer_put (Apply op ts) =
        meant_roll (Apply op (map (put number term) (map (λ e. e.0) ts))) ∙ ap (λ ms. layer (Apply op ms)) (all_put ts)
        ∙ sym (meant_roll (Apply op (map (λ e. e.0) ts)))
    layer_put (Make of ctor e) =
        meant_roll (Make of ctor (put number term e.0)) ∙ ap (λ m. layer (Make of ctor m)) e.1 ∙ sym (meant_roll (Make of ctor e.0))
    layer_put (Rec of ts) =
        meant_roll (Rec of (map (put number term) (map (λ e. e.0) ts))) ∙ ap (λ ms. layer (Rec of ms)) (all_put ts)
        ∙ sym (meant_roll (Rec of (map (λ e. e.0) ts)))

    pub put_kept : (t : Term) → IsPut t
    put_kept = ind-Term IsPut (λ x y is.
        ap meant (fold-roll-Term Term (put_layer number term) x)
        ∙ subst (λ z. meant (put_layer number term (map-Term Term Term (put number term) z)) ≡ meant (roll-Term z)) is (layer_put y))

-- the value is kept where the pairs are equal
pub substituted_kept : KeptBySubstitution
substituted_kept types v [] t equal = refl
substituted_kept types v (pair ∷ pairs) t equal =
    substituted_kept types v pairs (put pair.number pair.term t) equal.1
    ∙ put_kept (value_layer types v) pair.number pair.term
    (fold-roll-Term (Option Value) (value_layer types v) (Var pair.number) ∙ equal.0) t

-- the type is kept where the terms are of the types of the variables
pub substituted_typed : (types : List TypeDecl) (vars : List Ty) (pairs : Substitution) (t : Term) →
    ArePairsOf types vars pairs → type_of types vars (substituted pairs t) ≡ type_of types vars t
substituted_typed types vars [] t typed = refl
substituted_typed types vars (pair ∷ pairs) t typed =
    substituted_typed types vars pairs (put pair.number pair.term t) typed.1
    ∙ put_kept (type_layer types vars) pair.number pair.term
    (fold-roll-Term (Option Ty) (type_layer types vars) (Var pair.number) ∙ typed.0.var ∙ sym typed.0.term) t
