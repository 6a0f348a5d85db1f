-- The first values of fields, one after another.
use Rattle.std.proofs.Common.{◌≡◌, ◌∙◌, ℕ, suc, ◌<◌, List, [], ◌∷◌, ◌++◌, length, drop, get_or, map, Option, Some, None, refl, ap, sym}
use Rattle.std.proofs.Math.Seq.{drop-cons}
use Rattle.std.specs.Prelude.{option_and_then}
use Rattle.std.specs.Option.{option_map}
use Rattle.std.proofs.lemmas.List.{append-nil, append_assoc}
use Rattle.kat_value.specs.declared.types.Field.{Field}
use Rattle.kat_value.specs.declared.value.Value.{Value}
use Rattle.kat_value.specs.Making.{all_there}
use Rattle.kat_syntax.specs.FirstValues.{first_by}

-- the first values of the types of fields, where each has one
abbrev pub firsts_of : List (Option Value) → List Field → Option (List Value)
firsts_of firsts fields = all_there (map (λ (field : Field). first_by firsts field.ty) fields)

-- the values that are there, and those of the fields from a place on, are all of them
abbrev pub SoFar : List (Option Value) → List Field → List Value → ℕ → Type 0
SoFar firsts fields values place =
    firsts_of firsts fields ≡ option_map (λ more. values ++ more) (firsts_of firsts (drop place fields))

nothing_before : (o : Option (List Value)) → o ≡ option_map (λ more. [] ++ more) o
nothing_before None = refl
nothing_before (Some values) = refl

pub begins : (firsts : List (Option Value)) (fields : List Field) → SoFar firsts fields [] 0
begins firsts fields = nothing_before (firsts_of firsts fields)

-- the field at a place, and those behind it
pub field_here : (fields items : List Field) (place : ℕ) (field : Field) → items ≡ fields → place < length items → field ≡ get_or items place field → drop place fields ≡ field ∷ drop (suc place) fields
field_here fields items place field same within is =
    ap (drop place) (sym same) ∙ drop-cons items place field within ∙ ap (λ f. f ∷ drop (suc place) items) (sym is) ∙ ap (λ fs. field ∷ drop (suc place) fs) same

one_more : (values : List Value) (value : Value) (rest : Option (List Value)) →
    option_map (λ more. values ++ more) (option_map (λ xs. value ∷ xs) rest) ≡ option_map (λ more. (values ++ value ∷ []) ++ more) rest
one_more values value None = refl
one_more values value (Some rest) = ap Some (sym (append_assoc values (value ∷ []) rest))

module _ (firsts : List (Option Value)) (fields : List Field) (values : List Value) (place : ℕ) (so : SoFar firsts fields values place) (field : Field) (here : drop place fields ≡ field ∷ drop (suc place) fields) where
  unrolled : firsts_of firsts fields
      ≡ option_map (λ more. values ++ more) (option_and_then (λ x. option_map (λ xs. x ∷ xs) (firsts_of firsts (drop (suc place) fields))) (first_by firsts field.ty))
  unrolled = so ∙ ap (λ fs. option_map (λ more. values ++ more) (firsts_of firsts fs)) here

  -- with a value they have come one further
  pub goes_on : (value : Value) → Some value ≡ first_by firsts field.ty → SoFar firsts fields (values ++ value ∷ []) (suc place)
  goes_on value is =
      unrolled
      ∙ ap (λ o. option_map (λ more. values ++ more) (option_and_then (λ x. option_map (λ xs. x ∷ xs) (firsts_of firsts (drop (suc place) fields))) o)) (sym is)
      ∙ one_more values value (firsts_of firsts (drop (suc place) fields))

  -- where a field has none, there are none
  pub stops : None ≡ first_by firsts field.ty → None ≡ firsts_of firsts fields
  stops is =
      sym (unrolled
      ∙ ap (λ o. option_map (λ more. values ++ more) (option_and_then (λ x. option_map (λ xs. x ∷ xs) (firsts_of firsts (drop (suc place) fields))) o)) (sym is))

-- where no field is left, they are all
pub ends : (firsts : List (Option Value)) (fields : List Field) (values : List Value) (place : ℕ) → SoFar firsts fields values place → drop place fields ≡ [] → Some values ≡ firsts_of firsts fields
ends firsts fields values place so none =
    sym (so ∙ ap (λ fs. option_map (λ more. values ++ more) (firsts_of firsts fs)) none ∙ ap Some (append-nil values))
