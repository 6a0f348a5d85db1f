-- Worlds grow: values and types stay, and fresh values have every value of their type.
use Rattle.std.proofs.Common.{◌≡◌, ◌∙◌, ℕ, zero, suc, List, [], ◌∷◌, ◌++◌, map, Option, Some, None, refl, ap, sym, subst}
use Rattle.std.specs.Prelude.{slice_get, option_and_then}
use Rattle.std.specs.Option.{option_map}
use Rattle.kat_value.specs.declared.types.Ty.{Ty}
use Rattle.kat_value.specs.declared.types.TypeDecl.{TypeDecl}
use Rattle.kat_value.specs.declared.value.Value.{Value}
use Rattle.kat_term.specs.declared.term.Term.{Term}
use Rattle.kat_term.specs.declared.term.Term.TheOpen.{Term-F, Var, Lit, Apply, Make, Rec}
use Rattle.kat_term.specs.declared.term.Term.TheViews.{roll-Term}
use Rattle.kat_term.specs.declared.term.Term.TheFolds.{map-Term, ind-Term}
use Rattle.kat_term.specs.Growth.{ValuesStay, TypesStay, NarrowsBy, FormulasNarrow}
use Rattle.kat_value.specs.Operations.{value_of_op}
use Rattle.kat_value.specs.OperationTypes.{type_of_application, type_of_making, type_of_record}
use Rattle.kat_term.specs.Types.{type_of}
use Rattle.kat_value.specs.Making.{all_there, value_of_making, value_of_record}
use Rattle.kat_term.specs.Values.{Valuation, value_of}
use Rattle.kat_term.specs.Worlds.{World, IsTrueUnder, AreTrueUnder}
use Rattle.kat_term.proofs.Layers.{value_roll, type_roll}

-- where the first is there, the second is the same
abbrev Stays : {A : Type 0} → Option A → Option A → Type 0
Stays {A} a b = (x : A) → a ≡ Some x → b ≡ Some x

then_stays : {A B : Type 0} (f : A → Option B) (a b : Option A) → Stays a b → Stays (option_and_then f a) (option_and_then f b)
then_stays f None b stays x e = cc
then_stays f (Some y) b stays x e = ap (option_and_then f) (stays y refl) ∙ e

cons_stays : {A : Type 0} (a b : Option A) (many lots : Option (List A)) → Stays a b → Stays many lots →
    Stays (option_and_then (λ x. option_map (λ xs. x ∷ xs) many) a) (option_and_then (λ x. option_map (λ xs. x ∷ xs) lots) b)
cons_stays None b many lots first rest xs e = cc
cons_stays (Some x) b None lots first rest xs e = cc
cons_stays (Some x) b (Some ys) lots first rest xs e =
    ap (option_and_then (λ x. option_map (λ xs. x ∷ xs) lots)) (first x refl) ∙ ap (option_map (λ xs. x ∷ xs)) (rest ys refl) ∙ e

get_stays : {A : Type 0} (xs more : List A) (i : ℕ) → Stays (slice_get xs i) (slice_get (xs ++ more) i)
get_stays [] more i x e = cc
get_stays (y ∷ xs) more zero x e = e
get_stays (y ∷ xs) more (suc i) x e = get_stays xs more i x e

-- values stay as a valuation is extended
module _ (types : List TypeDecl) (v more : Valuation) where
  abbrev HasKept : Term → Type 0
  HasKept t = Stays (value_of types v t) (value_of types (v ++ more) t)

  abbrev Kept : Type 0
  Kept = (t : Term) × HasKept t

  abbrev terms : List Kept → List Term
  terms ts = map (λ (e : Kept). e.0) ts

  all_kept : (ts : List Kept) → Stays (all_there (map (value_of types v) (terms ts))) (all_there (map (value_of types (v ++ more)) (terms ts)))
  all_kept [] xs e = e
  all_kept (e ∷ ts) xs h = cons_stays (value_of types v e.0) (value_of types (v ++ more) e.0) _ _ e.1 (all_kept ts) xs h

  at_layer : (y : Term-F Term) (a b : Option Value) → value_of types v (roll-Term y) ≡ a → value_of types (v ++ more) (roll-Term y) ≡ b → Stays a b → HasKept (roll-Term y)
  at_layer y a b first second stays x e = second ∙ stays x (sym first ∙ e)

  layer_kept : (y : Term-F Kept) → HasKept (roll-Term (map-Term Kept Term (λ e. e.0) y))
  layer_kept (Var i) = at_layer (Var i) _ _ (value_roll types v (Var i)) (value_roll types (v ++ more) (Var i)) (get_stays v more i)
  layer_kept (Lit x) = at_layer (Lit x) _ _ (value_roll types v (Lit x)) (value_roll types (v ++ more) (Lit x)) (λ z e. e)
  layer_kept (Apply op ts) =
      at_layer (Apply op (terms ts)) _ _ (value_roll types v (Apply op (terms ts))) (value_roll types (v ++ more) (Apply op (terms ts)))
      (then_stays (value_of_op op) _ _ (all_kept ts))
  layer_kept (Make of ctor e) =
      at_layer (Make of ctor e.0) _ _ (value_roll types v (Make of ctor e.0)) (value_roll types (v ++ more) (Make of ctor e.0))
      (then_stays (value_of_making types of ctor) _ _ e.1)
  layer_kept (Rec of ts) =
      at_layer (Rec of (terms ts)) _ _ (value_roll types v (Rec of (terms ts))) (value_roll types (v ++ more) (Rec of (terms ts)))
      (then_stays (value_of_record types of) _ _ (all_kept ts))

  pub values_kept : (t : Term) → HasKept t
  values_kept = ind-Term HasKept (λ x y is. subst (λ z. HasKept (roll-Term z)) is (layer_kept y))

pub values_stay : ValuesStay
values_stay types v more t = values_kept types v more t

-- types stay as variables are added
module _ (types : List TypeDecl) (vars more : List Ty) where
  abbrev HasTypeKept : Term → Type 0
  HasTypeKept t = Stays (type_of types vars t) (type_of types (vars ++ more) t)

  abbrev TypeKept : Type 0
  TypeKept = (t : Term) × HasTypeKept t

  abbrev typed_terms : List TypeKept → List Term
  typed_terms ts = map (λ (e : TypeKept). e.0) ts

  all_types_kept : (ts : List TypeKept) → Stays (all_there (map (type_of types vars) (typed_terms ts))) (all_there (map (type_of types (vars ++ more)) (typed_terms ts)))
  all_types_kept [] xs e = e
  all_types_kept (e ∷ ts) xs h = cons_stays (type_of types vars e.0) (type_of types (vars ++ more) e.0) _ _ e.1 (all_types_kept ts) xs h

  type_at_layer : (y : Term-F Term) (a b : Option Ty) → type_of types vars (roll-Term y) ≡ a → type_of types (vars ++ more) (roll-Term y) ≡ b → Stays a b → HasTypeKept (roll-Term y)
  type_at_layer y a b first second stays x e = second ∙ stays x (sym first ∙ e)

  layer_type_kept : (y : Term-F TypeKept) → HasTypeKept (roll-Term (map-Term TypeKept Term (λ e. e.0) y))
  layer_type_kept (Var i) = type_at_layer (Var i) _ _ (type_roll types vars (Var i)) (type_roll types (vars ++ more) (Var i)) (get_stays vars more i)
  layer_type_kept (Lit x) = type_at_layer (Lit x) _ _ (type_roll types vars (Lit x)) (type_roll types (vars ++ more) (Lit x)) (λ z e. e)
  layer_type_kept (Apply op ts) =
      type_at_layer (Apply op (typed_terms ts)) _ _ (type_roll types vars (Apply op (typed_terms ts))) (type_roll types (vars ++ more) (Apply op (typed_terms ts)))
      (then_stays (type_of_application types op) _ _ (all_types_kept ts))
  layer_type_kept (Make of ctor e) =
      type_at_layer (Make of ctor e.0) _ _ (type_roll types vars (Make of ctor e.0)) (type_roll types (vars ++ more) (Make of ctor e.0))
      (then_stays (type_of_making types of ctor) _ _ e.1)
  layer_type_kept (Rec of ts) =
      type_at_layer (Rec of (typed_terms ts)) _ _ (type_roll types vars (Rec of (typed_terms ts))) (type_roll types (vars ++ more) (Rec of (typed_terms ts)))
      (then_stays (type_of_record types of) _ _ (all_types_kept ts))

  pub types_kept : (t : Term) → HasTypeKept t
  types_kept = ind-Term HasTypeKept (λ x y is. subst (λ z. HasTypeKept (roll-Term z)) is (layer_type_kept y))

pub types_stay : TypesStay
types_stay types vars more t term is = types_kept types vars more term t is

-- formulas that are true stay so
pub truths_stay : (types : List TypeDecl) (v more : Valuation) (fs : List Term) → AreTrueUnder types v fs → AreTrueUnder types (v ++ more) fs
truths_stay types v more [] are = tt
truths_stay types v more (f ∷ fs) are = (values_stay types v more f _ are.0, truths_stay types v more fs are.1)

-- one formula more is true exactly where all before it and it are
truths_join : (types : List TypeDecl) (v : Valuation) (fs : List Term) (f : Term) → AreTrueUnder types v fs → IsTrueUnder types v f → AreTrueUnder types v (fs ++ f ∷ [])
truths_join types v [] f are is = (is, tt)
truths_join types v (g ∷ fs) f are is = (are.0, truths_join types v fs f are.1 is)

truths_part : (types : List TypeDecl) (v : Valuation) (fs : List Term) (f : Term) → AreTrueUnder types v (fs ++ f ∷ []) → AreTrueUnder types v fs × IsTrueUnder types v f
truths_part types v [] f are = (tt, are.0)
truths_part types v (g ∷ fs) f are = let rest = truths_part types v fs f are.1 in ((are.0, rest.0), rest.1)

pub formulas_narrow : FormulasNarrow
formulas_narrow world formula types v = (
  λ fits. let parts = truths_part types v world.formulas formula fits.truths in (record { valued = fits.valued; truths = parts.0 }, parts.1),
  λ both. record { valued = both.0.valued; truths = truths_join types v world.formulas formula both.0.truths both.1 },
)

pub narrowed : (old : World) (formula : Term) (fs : List Term) → fs ≡ old.formulas ++ formula ∷ [] → NarrowsBy old (record { vars = old.vars; formulas = fs }) formula
narrowed old formula fs same = subst (λ gs. NarrowsBy old (record { vars = old.vars; formulas = gs }) formula) (sym same) (formulas_narrow old formula)
