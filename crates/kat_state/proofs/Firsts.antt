-- The first values of declared types, one after another.
use Rattle.std.proofs.Common.{◌≡◌, ◌∙◌, ℕ, suc, ◌+◌, ◌<◌, ◌^◌, List, [], ◌∷◌, ◌++◌, length, drop, get_or, Option, refl, ap, sym, arith}
use Rattle.std.proofs.Math.Seq.{drop-cons}
use Rattle.std.proofs.lemmas.List.{length-append}
use Rattle.kat_value.specs.declared.types.TypeDecl.{TypeDecl}
use Rattle.kat_value.specs.declared.value.Value.{Value}
use Rattle.kat_syntax.specs.FirstValues.{first_of_decl, firsts_with}

-- the values of the types before a place are there, and with those from it on they are all
pub record SoFar (types : List TypeDecl) (firsts : List (Option Value)) (place : ℕ) : Type 0 where
  pub whole : firsts_with firsts (drop place types) ≡ firsts_with [] types
  pub counted : length firsts ≡ place

pub begins : (types : List TypeDecl) → SoFar types [] 0
begins types = record { whole = refl; counted = refl }

-- with the value of one more type they have come one further
pub goes_on : (types items : List TypeDecl) (firsts : List (Option Value)) (place : ℕ) (decl : TypeDecl) (first : Option Value) → SoFar types firsts place →
    items ≡ types → place < length items → decl ≡ get_or items place decl → (position : ℕ) → position ≡ length firsts → first ≡ first_of_decl position firsts decl →
    SoFar types (firsts ++ first ∷ []) (suc place)
goes_on types items firsts place decl first so same within is position at first_is =
    let here : drop place types ≡ decl ∷ drop (suc place) types =
    ap (drop place) (sym same) ∙ drop-cons items place decl within ∙ ap (λ d. d ∷ drop (suc place) items) (sym is) ∙ ap (λ ds. decl ∷ drop (suc place) ds) same in
    record {
      whole =
          ap (λ f. firsts_with (firsts ++ f ∷ []) (drop (suc place) types)) (first_is ∙ ap (λ p. first_of_decl p firsts decl) at)
          ∙ ap (firsts_with firsts) (sym here) ∙ so.whole;
      counted = omega (arith, length-append firsts (first ∷ []), so.counted);
    }
