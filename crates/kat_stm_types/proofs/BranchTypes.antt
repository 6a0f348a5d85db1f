-- One branch more: the first type that is known, and whether all agree.
use Rattle.std.proofs.Common.{◌≡◌, ℕ, List, [], ◌∷◌, ◌++◌, Bool, true, false, ◌&&◌, sym, ap, ◌∙◌, refl, Option, None, Some}
use Rattle.std.specs.List.{list_all}
use Rattle.std.specs.Option.{option_or}
use Rattle.std.proofs.lemmas.Bool.{eq-eqb}
use Rattle.std.proofs.lemmas.List.Folds.{list_all-append}
use Rattle.kat_value.specs.declared.types.Ty.{Ty}
use Rattle.kat_value.specs.declared.types.Ty.TheVariants.{Unit as UnitTy, Bool as BoolTy, Bits, Enum, Union, Rec}
use Rattle.kat_value.specs.Signatures.{agree, same_type}
use Rattle.kat_syntax.specs.TypingStatements.{first_known, all_agree}
use Rattle.kat_stm_types.specs.declared.branches.Branches.{Branches}
use Rattle.kat_stm_types.specs.Branches.{IsBranches}

same_itself : (t : Ty) → same_type t t ≡ true
same_itself UnitTy = refl
same_itself BoolTy = refl
same_itself (Bits w) = eq-eqb w w refl
same_itself (Enum p) = eq-eqb p p refl
same_itself (Union p) = eq-eqb p p refl
same_itself (Rec p) = eq-eqb p p refl

and_true : (b : Bool) → (b && true) ≡ b
and_true true = refl
and_true false = refl

agrees_itself : (t : Option Ty) → agree t t ≡ true
agrees_itself None = refl
agrees_itself (Some t) = same_itself t

first_with : (types : List (Option Ty)) (type : Option Ty) →
    first_known (types ++ type ∷ []) ≡ option_or (first_known types) type
first_with [] None = refl
first_with [] (Some t) = refl
first_with (None ∷ types) type = first_with types type
first_with (Some t ∷ types) type = refl

-- where none is known, all agree with any
none_differ : (types : List (Option Ty)) (type : Option Ty) → first_known types ≡ None →
    list_all (agree type) types ≡ true
none_differ [] type is = refl
none_differ (None ∷ types) None is = none_differ types None is
none_differ (None ∷ types) (Some t) is = none_differ types (Some t) is
none_differ (Some t ∷ types) type is = cc

all_with : (types : List (Option Ty)) (type : Option Ty) (first : Option Ty) →
    first_known types ≡ first →
    list_all (agree (option_or first type)) (types ++ type ∷ [])
    ≡ (list_all (agree first) types && agree first type)
all_with types type None is =
    list_all-append (agree type) types (type ∷ [])
    ∙ ap (λ b. b && list_all (agree type) (type ∷ [])) (none_differ types type is)
    ∙ and_true (agree type type) ∙ agrees_itself type
    ∙ sym (ap (λ b. b && true) (none_differ types None is))
all_with types type (Some t) is =
    list_all-append (agree (Some t)) types (type ∷ [])
    ∙ ap (λ b. list_all (agree (Some t)) types && b) (and_true (agree (Some t) type))

agree_with : (types : List (Option Ty)) (type : Option Ty) →
    all_agree (types ++ type ∷ []) ≡ (all_agree types && agree (first_known types) type)
agree_with types type =
    ap (λ first. list_all (agree first) (types ++ type ∷ [])) (first_with types type)
    ∙ all_with types type (first_known types) refl

pub one_more : (types : List (Option Ty)) (type : Option Ty) (trees more : ℕ) (seen : Branches)
    (first : Option Ty) (agrees : Bool) →
    IsBranches types trees seen → first ≡ option_or seen.first type →
    agrees ≡ (seen.agrees && agree seen.first type) →
    IsBranches (types ++ type ∷ []) more (record { first = first; agrees = agrees; trees = more })
one_more types type trees more seen first agrees is first_is agrees_is = record {
  first = first_is ∙ ap (λ f. option_or f type) is.first ∙ sym (first_with types type);
  agrees =
      agrees_is ∙ ap (λ b. b && agree seen.first type) is.agrees
      ∙ ap (λ f. all_agree types && agree f type) is.first ∙ sym (agree_with types type);
  counted = refl;
}
