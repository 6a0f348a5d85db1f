-- A term is of a type exactly where it has a value of that type.
use Rattle.std.proofs.Common.{if◌then◌else◌, ◌≡◌, ◌∙◌, ℕ, zero, suc, Bool, true, false, List, [], ◌∷◌, map, Option, Some, None, refl, ap, sym, subst}
use Rattle.std.specs.Prelude.{◌==◌, slice_get, option_and_then}
use Rattle.std.specs.Option.{option_map}
use Rattle.std.proofs.lemmas.Bool.{and_from, eq-eqb}
use Rattle.kat_value.specs.declared.types.Ty.{Ty}
use Rattle.kat_value.specs.declared.types.Ty.TheVariants as ty
use Rattle.kat_value.specs.declared.types.TypeDecl.{TypeDecl}
use Rattle.kat_value.specs.declared.value.Value.{Value, out-Value}
use Rattle.kat_value.specs.declared.value.Value.TheOpen.{Value-F, Unit as UnitLayer, Bool as TruthLayer, Bits as BitsLayer, Member as MemberLayer}
use Rattle.kat_value.specs.Widths.{is_number}
use Rattle.kat_value.specs.Typing.{HasType, has_type, layer_has_type}
use Rattle.kat_term.specs.declared.term.Term.{Term}
use Rattle.kat_term.specs.declared.term.Term.TheOpen.{Term-F, Var, Lit, Apply, Make, Rec}
use Rattle.kat_term.specs.declared.term.Term.TheViews.{roll-Term}
use Rattle.kat_term.specs.declared.term.Term.TheFolds.{map-Term, ind-Term}
use Rattle.kat_value.specs.Making.{all_there, value_of_making, value_of_record}
use Rattle.kat_value.specs.Operations.{value_of_op}
use Rattle.kat_value.specs.OperationTypes.{IsValueThere, IsExact, ExactOperations, type_of_application, type_of_making, type_of_record}
use Rattle.kat_value.specs.Shown.{type_of_layer, type_of_value, IsValue, AreValues, ShownTypes}
use Rattle.kat_term.specs.Types.{type_of, IsTermOf, IsValuation, HasValueOf, TypesAreValues}
use Rattle.kat_term.specs.Values.{Valuation, is_literal, literal_value, value_of}
use Rattle.kat_term.proofs.Layers.{value_roll, type_roll}
use Rattle.kat_term.proofs.ValueLayers.{tested, has_type-out, none_exact}

module _ (shown : ShownTypes) (exact : ExactOperations) (types : List TypeDecl) where
  -- a literal is a value of the type that it shows
  literal_layer : (y : Value-F Value) → is_literal types y ≡ true → layer_has_type types (tested types y) (type_of_layer y) ≡ true
  literal_layer UnitLayer h = refl
  literal_layer (TruthLayer b) h = refl
  literal_layer (BitsLayer w n) h = and_from (w == w) (is_number w n) (eq-eqb w w refl) h
  literal_layer (MemberLayer of index) h = and_from (of == of) _ (eq-eqb of of refl) h
  literal_layer _ h = cc

  literal_exact : (x : Value) → IsExact types (literal_value types x) (option_map type_of_value (literal_value types x))
  literal_exact x = by (is_literal types (out-Value x)) refl where
    by : (b : Bool) → is_literal types (out-Value x) ≡ b → IsExact types (if b then Some x else None) (option_map type_of_value (if b then Some x else None))
    by true e = record { typed = refl; there = has_type-out types x (type_of_value x) ∙ literal_layer (out-Value x) e }
    by false e = none_exact types

  -- what is made of one part, and of a list of them
  from_one : (f : Value → Option Value) (g : Ty → Option Ty) → ((x : Value) → IsValue types x → IsExact types (f x) (g (type_of_value x))) →
      (o : Option Value) (t : Option Ty) → IsExact types o t → IsExact types (option_and_then f o) (option_and_then g t)
  from_one f g exact None t is = subst (λ u. IsExact types None (option_and_then g u)) is.typed (none_exact types)
  from_one f g exact (Some x) t is = subst (λ u. IsExact types (f x) (option_and_then g u)) is.typed (exact x is.there)

  -- values that may be there, each of its type
  abbrev AreThere : Option (List Value) → Type 0
  AreThere None = Unit {0}
  AreThere (Some xs) = AreValues types xs

  record AreExact (os : Option (List Value)) (ts : Option (List Ty)) : Type 0 where
    typed : option_map (map type_of_value) os ≡ ts
    there : AreThere os

  from_list : (f : List Value → Option Value) (g : List Ty → Option Ty) → ((xs : List Value) → AreValues types xs → IsExact types (f xs) (g (map type_of_value xs))) →
      (os : Option (List Value)) (ts : Option (List Ty)) → AreExact os ts → IsExact types (option_and_then f os) (option_and_then g ts)
  from_list f g exact None ts are = subst (λ us. IsExact types None (option_and_then g us)) are.typed (none_exact types)
  from_list f g exact (Some xs) ts are = subst (λ us. IsExact types (f xs) (option_and_then g us)) are.typed (exact xs are.there)

  cons_exact : (o : Option Value) (t : Option Ty) (os : Option (List Value)) (ts : Option (List Ty)) → IsExact types o t → AreExact os ts →
      AreExact (option_and_then (λ x. option_map (λ xs. x ∷ xs) os) o) (option_and_then (λ x. option_map (λ xs. x ∷ xs) ts) t)
  cons_exact None t os ts is are = subst (λ u. AreExact None (option_and_then (λ x. option_map (λ xs. x ∷ xs) ts) u)) is.typed (record { typed = refl; there = tt })
  cons_exact (Some x) t None ts is are =
      subst (λ u. AreExact None (option_and_then (λ x. option_map (λ xs. x ∷ xs) ts) u)) is.typed
      (subst (λ us. AreExact None (option_map (λ xs. type_of_value x ∷ xs) us)) are.typed (record { typed = refl; there = tt }))
  cons_exact (Some x) t (Some xs) ts is are =
      subst (λ u. AreExact (Some (x ∷ xs)) (option_and_then (λ x. option_map (λ xs. x ∷ xs) ts) u)) is.typed
      (subst (λ us. AreExact (Some (x ∷ xs)) (option_map (λ xs. type_of_value x ∷ xs) us)) are.typed (record { typed = refl; there = (is.there, are.there) }))

  var_exact : (vars : List Ty) (v : Valuation) → IsValuation types vars v → (i : ℕ) → IsExact types (slice_get v i) (slice_get vars i)
  var_exact [] [] fits i = none_exact types
  var_exact [] (x ∷ v) fits i = absurd fits
  var_exact (t ∷ vars) [] fits i = absurd fits
  var_exact (t ∷ vars) (x ∷ v) fits zero = record { typed = ap Some (shown.shows types t x fits.0); there = shown.value types t x fits.0 }
  var_exact (t ∷ vars) (x ∷ v) fits (suc i) = var_exact vars v fits.1 i

  module _ (vars : List Ty) (v : Valuation) (fits : IsValuation types vars v) where
    -- the value and the type of a term go together
    abbrev IsTyped : Term → Type 0
    IsTyped t = IsExact types (value_of types v t) (type_of types vars t)

    abbrev Typed : Type 0
    Typed = (t : Term) × IsTyped t

    abbrev terms : List Typed → List Term
    terms ts = map (λ (e : Typed). e.0) ts

    all_exact : (ts : List Typed) → AreExact (all_there (map (value_of types v) (terms ts))) (all_there (map (type_of types vars) (terms ts)))
    all_exact [] = record { typed = refl; there = tt }
    all_exact (e ∷ ts) =
        cons_exact (value_of types v e.0) (type_of types vars e.0) (all_there (map (value_of types v) (terms ts))) (all_there (map (type_of types vars) (terms ts))) e.1 (all_exact ts)

    abbrev first : Term-F Typed → Term-F Term
    first = map-Term Typed Term (λ e. e.0)

    at_layer : (y : Term-F Term) (o : Option Value) (t : Option Ty) → value_of types v (roll-Term y) ≡ o → type_of types vars (roll-Term y) ≡ t → IsExact types o t → IsTyped (roll-Term y)
    at_layer y o t value type is =
        subst (λ p. IsExact types p (type_of types vars (roll-Term y))) (sym value) (subst (λ u. IsExact types o u) (sym type) is)

    layer_typed : (y : Term-F Typed) → IsTyped (roll-Term (first y))
    layer_typed (Var i) = at_layer (Var i) _ _ (value_roll types v (Var i)) (type_roll types vars (Var i)) (var_exact vars v fits i)
    layer_typed (Lit x) = at_layer (Lit x) _ _ (value_roll types v (Lit x)) (type_roll types vars (Lit x)) (literal_exact x)
    layer_typed (Apply op ts) =
        at_layer (Apply op (terms ts)) _ _ (value_roll types v (Apply op (terms ts))) (type_roll types vars (Apply op (terms ts)))
        (from_list (value_of_op op) (type_of_application types op) (exact.operation types op) _ _ (all_exact ts))
    layer_typed (Make of ctor e) =
        at_layer (Make of ctor e.0) _ _ (value_roll types v (Make of ctor e.0)) (type_roll types vars (Make of ctor e.0))
        (from_one (value_of_making types of ctor) (type_of_making types of ctor) (exact.making types of ctor) _ _ e.1)
    layer_typed (Rec of ts) =
        at_layer (Rec of (terms ts)) _ _ (value_roll types v (Rec of (terms ts))) (type_roll types vars (Rec of (terms ts)))
        (from_list (value_of_record types of) (type_of_record types of) (exact.fields types of) _ _ (all_exact ts))

    pub typed_exactly : (t : Term) → IsTyped t
    typed_exactly = ind-Term IsTyped (λ x y is. subst (λ z. IsTyped (roll-Term z)) is (layer_typed y))

    has_value : (t : Ty) (o : Option Value) → IsValueThere types o → option_map type_of_value o ≡ Some t → (x : Value) × (o ≡ Some x) × HasType types t x
    has_value t None there e = cc
    has_value t (Some x) there e =
        let shows : type_of_value x ≡ t = cc in
        (x, refl, subst (λ u. has_type types x u ≡ true) shows there)

    pub value_there : (t : Ty) (term : Term) → IsTermOf types vars t term → HasValueOf types v t term
    value_there t term is =
        let exact = typed_exactly term in
        has_value t (value_of types v term) exact.there (exact.typed ∙ is)

    pub type_there : (t : Ty) (term : Term) → HasValueOf types v t term → IsTermOf types vars t term
    type_there t term has =
        sym (typed_exactly term).typed ∙ ap (option_map type_of_value) has.1 ∙ ap Some (shown.shows types t has.0 has.2)

pub types_are_values : ShownTypes → ExactOperations → TypesAreValues
types_are_values shown exact types vars v fits t term =
    (value_there shown exact types vars v fits t term, type_there shown exact types vars v fits t term)
