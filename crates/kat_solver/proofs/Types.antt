-- The types of the parts of formulas, and of the pairs that they add.
use Rattle.std.proofs.Common.{◌≡◌, ◌∙◌, inl, inr, ℕ, Bool, true, false, List, [], ◌∷◌, Option, Some, None, refl, ap, sym, subst, if◌then◌else◌, nat_lt}
use Rattle.std.specs.Prelude.{not, ◌==◌, ◌&&◌, option_and_then, slice_get}
use Rattle.std.specs.Option.{option_map}
use Rattle.std.proofs.lemmas.Bool.{eqb-true}
use Rattle.kat_value.specs.declared.op.Op.{Op}
use Rattle.kat_value.specs.declared.op.Op.TheVariants.{Not, And, Eq}
use Rattle.kat_value.specs.declared.types.Ty.{Ty}
use Rattle.kat_value.specs.declared.types.Ty.TheVariants as ty
use Rattle.kat_value.specs.declared.types.TypeDecl.{TypeDecl}
use Rattle.kat_value.specs.declared.value.Value.TheVariants.{Bool as Truth}
use Rattle.kat_value.specs.Signatures.{same_type}
use Rattle.kat_term.specs.declared.term.Term.{Term}
use Rattle.kat_term.specs.Parts.{TypesByParts}
use Rattle.kat_value.specs.OperationTypes.{type_of_application}
use Rattle.kat_term.specs.Types.{IsTermOf, type_of}
use Rattle.kat_value.specs.Making.{all_there}
use Rattle.kat_term.specs.Views.{one, two, truth, var_of}
use Rattle.kat_term.specs.Worlds.{HaveValues}
use Rattle.kat_norm.specs.declared.substitution.Pair.{Pair}
use Rattle.kat_norm.specs.Substitution.{IsPairOf}
use Rattle.kat_known.specs.Views.{with_one}
use Rattle.kat_solver.specs.Pairs.{has_var, pair, pair_of_sides, pair_of_truth, pair_of}
use Rattle.kat_solver.specs.Below.{Below}
use Rattle.kat_solver.proofs.ViewLaws.{var_there, with_one_there, with_two_there, either_there, so_there}

same_told : (t u : Ty) → same_type t u ≡ true → t ≡ u
same_told ty.Unit ty.Unit h = refl
same_told ty.Bool ty.Bool h = refl
same_told (ty.Bits v) (ty.Bits w) h = ap ty.Bits (eqb-true v w h)
same_told (ty.Enum i) (ty.Enum j) h = ap ty.Enum (eqb-true i j h)
same_told (ty.Union i) (ty.Union j) h = ap ty.Union (eqb-true i j h)
same_told (ty.Rec i) (ty.Rec j) h = ap ty.Rec (eqb-true i j h)
same_told _ _ h = cc

module _ (types : List TypeDecl) where
  -- types that an operation takes
  not_takes : (s t : Ty) → type_of_application types Not (s ∷ []) ≡ Some t → s ≡ ty.Bool
  not_takes ty.Bool t e = refl
  not_takes _ t e = cc

  and_takes : (r s t : Ty) → type_of_application types And (r ∷ s ∷ []) ≡ Some t →
      (r ≡ ty.Bool) × (s ≡ ty.Bool)
  and_takes ty.Bool ty.Bool t e = (refl, refl)
  and_takes _ _ t e = cc

  eq_takes : (r s t : Ty) → type_of_application types Eq (r ∷ s ∷ []) ≡ Some t → r ≡ s
  eq_takes r s t e = by (same_type r s) refl e where
    by : (b : Bool) → same_type r s ≡ b →
        (if (b && true) && true then Some ty.Bool else None) ≡ Some t → r ≡ s
    by true is h = same_told r s is
    by false is h = cc

module _ (below : Below) (types : List TypeDecl) (vars : List Ty)
    (has : HaveValues types vars) where
  abbrev parts : TypesByParts types vars
  parts = below.parts.1 types vars

  abbrev pub IsFormula : Term → Type 0
  IsFormula = IsTermOf types vars ty.Bool

  not_typed : (a : Term) → IsFormula (one Not a) → IsFormula a
  not_typed a e = by (type_of types vars a) refl (sym (parts.application Not (a ∷ [])) ∙ e) where
    by : (o : Option Ty) → type_of types vars a ≡ o →
        option_and_then (type_of_application types Not) (all_there (o ∷ [])) ≡ Some ty.Bool →
        IsFormula a
    by None is h = cc
    by (Some s) is h = is ∙ ap Some (not_takes types s ty.Bool h)

  two_typed : (op : Op) (a b : Term) (P : Option Ty → Option Ty → Type 0) →
      ((r s : Ty) → type_of_application types op (r ∷ s ∷ []) ≡ Some ty.Bool →
      P (Some r) (Some s)) →
      IsFormula (two op a b) → P (type_of types vars a) (type_of types vars b)
  two_typed op a b P step e = by (type_of types vars a) (type_of types vars b)
      (sym (parts.application op (a ∷ b ∷ [])) ∙ e) where
        by : (o r : Option Ty) → option_and_then (type_of_application types op) (all_there (o ∷ r ∷ []))
            ≡ Some ty.Bool → P o r
        by None r h = cc
        by (Some s) None h = cc
        by (Some s) (Some t) h = step s t h

  pub and_typed : (a b : Term) → IsFormula (two And a b) → IsFormula a × IsFormula b
  and_typed a b =
      two_typed And a b (λ o r. (o ≡ Some ty.Bool) × (r ≡ Some ty.Bool))
      (λ r s e. let both = and_takes types r s ty.Bool e in (ap Some both.0, ap Some both.1))

  -- the sides of an equation are of one type
  abbrev AreAlike : Option Ty → Option Ty → Type 0
  AreAlike o r = (t : Ty) × ((o ≡ Some t) × (r ≡ Some t))

  eq_typed : (a b : Term) → IsFormula (two Eq a b) →
      AreAlike (type_of types vars a) (type_of types vars b)
  eq_typed a b = two_typed Eq a b AreAlike
      (λ r s e. (r, (refl, ap Some (sym (eq_takes types r s ty.Bool e)))))

  truth_typed : (q : Bool) → IsFormula (truth q)
  truth_typed q =
      let some = below.valuations types (record { vars = vars; formulas = [] })
      (record { vars = has; formulas = tt }) in
      (below.typed types vars some.0 some.1 ty.Bool (truth q)).1
      (Truth q, (below.values types some.0).truth q, (below.truths types (Truth q)).1 (q, refl))

  var_typed : (t : Term) (i : ℕ) → var_of t ≡ Some i → slice_get vars i ≡ type_of types vars t
  var_typed t i e = sym (parts.variable i) ∙ ap (type_of types vars) (sym (var_there t i e))

  truth_pair : (t : Term) (q : Bool) → IsFormula t → (o : Option ℕ) → var_of t ≡ o → (p : Pair) →
      option_map (λ i. pair i (truth q)) o ≡ Some p → IsPairOf types vars p
  truth_pair t q is None at p e = cc
  truth_pair t q is (Some i) at p e =
      let same : pair i (truth q) ≡ p = cc in
      subst (IsPairOf types vars) same
      (record { of = ty.Bool; var = var_typed t i at ∙ is; term = truth_typed q })

  -- a variable with a term of its type
  side_pair : (a b : Term) (i : ℕ) (t : Ty) → var_of a ≡ Some i → type_of types vars a ≡ Some t →
      IsTermOf types vars t b → IsPairOf types vars (pair i b)
  side_pair a b i t at first second =
      record { of = t; var = var_typed a i at ∙ first; term = second }

  sides_pair : (a b : Term) → AreAlike (type_of types vars a) (type_of types vars b) →
      (o : Option ℕ) → var_of a ≡ o → (r : Option ℕ) → var_of b ≡ r →
      (p : Pair) → pair_of_sides o r a b ≡ Some p → IsPairOf types vars p
  sides_pair a b is None at_a None at_b p e = cc
  sides_pair a b is (Some i) at_a None at_b p e =
      let s = so_there (not (has_var i b)) (Some (pair i b)) p e in
      let same : pair i b ≡ p = let h = s.1 in cc in
      subst (IsPairOf types vars) same (side_pair a b i is.0 at_a is.1.0 is.1.1)
  sides_pair a b is None at_a (Some j) at_b p e =
      let s = so_there (not (has_var j a)) (Some (pair j a)) p e in
      let same : pair j a ≡ p = let h = s.1 in cc in
      subst (IsPairOf types vars) same (side_pair b a j is.0 at_b is.1.1 is.1.0)
  sides_pair a b is (Some i) at_a (Some j) at_b p e = by (i == j) (nat_lt i j) e where
    by : (c d : Bool) → (if c then None else if d then Some (pair j a) else Some (pair i b))
        ≡ Some p → IsPairOf types vars p
    by true d h = cc
    by false true h = let same : pair j a ≡ p = cc in
        subst (IsPairOf types vars) same (side_pair b a j is.0 at_b is.1.1 is.1.0)
    by false false h = let same : pair i b ≡ p = cc in
        subst (IsPairOf types vars) same (side_pair a b i is.0 at_a is.1.0 is.1.1)

  -- what a formula adds to a substitution is of the variable's type
  pub pair_typed : (g : Term) → IsFormula g → (p : Pair) → pair_of g ≡ Some p →
      IsPairOf types vars p
  pair_typed g is p e =
      elim (either_there (pair_of_truth true g) _ p e) [
        | inl h ↦ truth_pair g true is (var_of g) refl p h
        | inr e ↦ elim (either_there (with_one Not g (pair_of_truth false)) _ p e) [
          | inl h ↦
              let at = with_one_there below.operations Not g _ p h in
              truth_pair at.a false (not_typed at.a (subst IsFormula at.is is))
              (var_of at.a) refl p at.gives
          | inr h ↦
              let at = with_two_there below.operations Eq g _ p h in
              sides_pair at.a at.b (eq_typed at.a at.b (subst IsFormula at.is is))
              (var_of at.a) refl (var_of at.b) refl p at.gives
        ]
      ]
