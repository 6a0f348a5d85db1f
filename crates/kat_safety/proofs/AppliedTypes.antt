-- An operation that typing accepts has a value of the type that typing gives.
use Rattle.std.proofs.Common.{◌≡◌, true, if◌then◌else◌, List, [], ◌∷◌, map, Option, Some, None, refl, ap, subst, ◌∙◌}
use Rattle.std.specs.Option.{option_map}
use Rattle.std.specs.List.{AllZip}
use Rattle.kat_value.specs.declared.op.Op.{Op}
use Rattle.kat_value.specs.declared.types.Ty.{Ty}
use Rattle.kat_value.specs.declared.types.TypeDecl.{TypeDecl}
use Rattle.kat_value.specs.declared.value.Value.{Value}
use Rattle.kat_value.specs.OperationTypes.{ExactOperations, IsExact, IsValueThere, type_of_application}
use Rattle.kat_value.specs.Operations.{value_of_op}
use Rattle.kat_value.specs.Shown.{ShownTypes, AreValues, type_of_value}
use Rattle.kat_value.specs.Signatures.{accepts, signature_of, type_given}
use Rattle.kat_value.specs.Typing.{HasType}

-- values of these types
abbrev pub AreTyped : List TypeDecl → List Ty → List Value → Type 0
AreTyped types ts xs = AllZip (HasType types) ts xs

-- a value of this type is there
pub record HasTyped (types : List TypeDecl) (t : Ty) (o : Option Value) : Type 0 where
  pub value : Value
  pub there : o ≡ Some value
  pub typed : HasType types t value

module _ (shown : ShownTypes) (types : List TypeDecl) where
  -- they are of the types that they show
  are_values : (ts : List Ty) (xs : List Value) → AreTyped types ts xs → AreValues types xs
  are_values [] [] are = tt
  are_values [] (x ∷ xs) are = absurd are
  are_values (t ∷ ts) [] are = absurd are
  are_values (t ∷ ts) (x ∷ xs) are = (shown.value types t x are.0, are_values ts xs are.1)

  show_types : (ts : List Ty) (xs : List Value) → AreTyped types ts xs → map type_of_value xs ≡ ts
  show_types [] [] are = refl
  show_types [] (x ∷ xs) are = absurd are
  show_types (t ∷ ts) [] are = absurd are
  show_types (t ∷ ts) (x ∷ xs) are =
      ap (λ u. u ∷ map type_of_value xs) (shown.shows types t x are.0)
      ∙ ap (λ us. t ∷ us) (show_types ts xs are.1)

  -- what is exact and of a type is there
  exact_there : (o : Option Value) (t : Ty) → option_map type_of_value o ≡ Some t →
      IsValueThere types o → HasTyped types t o
  exact_there None t e there = absurd (let f : None ≡ Some t = e in cc)
  exact_there (Some x) t e there =
      let same : type_of_value x ≡ t = cc in
      record { value = x; there = refl; typed = subst (λ u. HasType types u x) same there }

  -- an operation that takes these types, and whose type is given, has a value of it
  pub applied : ExactOperations → (op : Op) (ts : List Ty) (xs : List Value) (t : Ty) →
      AreTyped types ts xs → accepts op (map Some ts) ≡ true →
      type_given types (signature_of op) (map Some ts) ≡ Some t →
      HasTyped types t (value_of_op op xs)
  applied exact op ts xs t are accepted given =
      let is : IsExact types (value_of_op op xs)
      (type_of_application types op (map type_of_value xs)) =
      exact.operation types op xs (are_values ts xs are) in
      let typed : type_of_application types op (map type_of_value xs) ≡ Some t =
      ap (type_of_application types op) (show_types ts xs are)
      ∙ ap (λ b. if b then type_given types (signature_of op) (map Some ts) else None) accepted
      ∙ given in
      exact_there (value_of_op op xs) t (is.typed ∙ typed) is.there
