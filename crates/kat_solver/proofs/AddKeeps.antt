-- Each valuation that fits a settled world and makes a formula true fits the world with the formula
-- added.
use Rattle.std.proofs.Common.{◌≡◌, ◌∙◌, inl, inr, ℕ, Bool, true, false, List, Option, Some, None, refl, sym, subst, if◌then◌else◌, nat_lt}
use Rattle.std.specs.Prelude.{not, ◌==◌, slice_get}
use Rattle.std.specs.Option.{option_map}
use Rattle.std.proofs.lemmas.Bool.{true≢false, and_parts}
use Rattle.kat_value.specs.declared.op.Op.TheVariants.{Not, Eq}
use Rattle.kat_value.specs.declared.types.Ty.{Ty}
use Rattle.kat_value.specs.declared.types.TypeDecl.{TypeDecl}
use Rattle.kat_value.specs.declared.value.Value.TheVariants.{Bool as Truth}
use Rattle.kat_term.specs.declared.term.Term.{Term}
use Rattle.kat_term.specs.declared.term.Term.TheViews.{out-Term}
use Rattle.kat_term.specs.Parts.{ValuesByParts}
use Rattle.kat_term.specs.Types.{IsValuation}
use Rattle.kat_term.specs.Values.{Valuation, IsKept, value_of}
use Rattle.kat_term.specs.Views.{one, two, truth, var_of, arg_of}
use Rattle.kat_term.specs.Worlds.{IsTrueUnder, AreTrueUnder}
use Rattle.kat_rules.specs.Keeps.{KeepsValues}
use Rattle.kat_rules.specs.Values.{OperationValues}
use Rattle.kat_rules.specs.Widths.{is_bool}
use Rattle.kat_norm.specs.declared.substitution.Pair.{Pair}
use Rattle.kat_norm.specs.Substitution.{Substitution, substituted, AreEqual}
use Rattle.kat_known.specs.Known.{known, known_atom}
use Rattle.kat_known.specs.Normal.{norm_in}
use Rattle.kat_known.specs.Views.{with_one, is_joint, is_atom}
use Rattle.kat_solver.specs.Add.{reduced_by, atom_known, known_by, known_literal, added, settled_of}
use Rattle.kat_solver.specs.Pairs.{has_var, pair, pair_of_sides, pair_of_truth, pair_of}
use Rattle.kat_solver.specs.Settled.{FitsSettled}
use Rattle.kat_solver.specs.declared.settled.Settled.{Settled}
use Rattle.kat_solver.specs.Below.{Below}
use Rattle.kat_solver.proofs.Carries.{Carrying, added_holds, settled_holds}
use Rattle.kat_solver.proofs.Truths.{some_truth_told, var_value, negated_value, and_true, equation_sides}
use Rattle.kat_solver.proofs.ViewLaws.{arg_there, with_one_there, with_two_there, either_there, so_there}

module _ (below : Below) (types : List TypeDecl) (vars : List Ty) (v : Valuation)
    (fits : IsValuation types vars v) where
  abbrev parts : ValuesByParts types v
  parts = below.parts.0 types v

  abbrev values : OperationValues types v
  values = below.values types v

  abbrev IsPairEqual : Pair → Type 0
  IsPairEqual p = slice_get v p.number ≡ value_of types v p.term

  truth_pair : (t : Term) (q : Bool) → value_of types v t ≡ Some (Truth q) → (o : Option ℕ) →
      var_of t ≡ o → (p : Pair) →
      option_map (λ i. pair i (truth q)) o ≡ Some p → IsPairEqual p
  truth_pair t q is None at p e = cc
  truth_pair t q is (Some i) at p e =
      let same : pair i (truth q) ≡ p = cc in
      subst IsPairEqual same (var_value types v parts values t i at ∙ is ∙ sym (values.truth q))

  sides_pair : (a b : Term) → value_of types v a ≡ value_of types v b → (o : Option ℕ) →
      var_of a ≡ o → (r : Option ℕ) → var_of b ≡ r → (p : Pair) →
      pair_of_sides o r a b ≡ Some p → IsPairEqual p
  sides_pair a b is None at_a None at_b p e = cc
  sides_pair a b is (Some i) at_a None at_b p e =
      let s = so_there (not (has_var i b)) (Some (pair i b)) p e in
      let same : pair i b ≡ p = let h = s.1 in cc in
      subst IsPairEqual same (var_value types v parts values a i at_a ∙ is)
  sides_pair a b is None at_a (Some j) at_b p e =
      let s = so_there (not (has_var j a)) (Some (pair j a)) p e in
      let same : pair j a ≡ p = let h = s.1 in cc in
      subst IsPairEqual same (var_value types v parts values b j at_b ∙ sym is)
  sides_pair a b is (Some i) at_a (Some j) at_b p e = by (i == j) (nat_lt i j) e where
    by : (c d : Bool) → (if c then None else if d then Some (pair j a) else Some (pair i b))
        ≡ Some p → IsPairEqual p
    by true d h = cc
    by false true h = let same : pair j a ≡ p = cc in
        subst IsPairEqual same (var_value types v parts values b j at_b ∙ sym is)
    by false false h = let same : pair i b ≡ p = cc in
        subst IsPairEqual same (var_value types v parts values a i at_a ∙ is)

  true_at : (f g : Term) → g ≡ f → IsTrueUnder types v g → IsTrueUnder types v f
  true_at f g is = subst (IsTrueUnder types v) is

  -- what a true formula adds to a substitution is equal
  pair_equal : (g : Term) → IsTrueUnder types v g → (p : Pair) → pair_of g ≡ Some p → IsPairEqual p
  pair_equal g is p e =
      elim (either_there (pair_of_truth true g) _ p e) [
        | inl h ↦ truth_pair g true is (var_of g) refl p h
        | inr e ↦ elim (either_there (with_one Not g (pair_of_truth false)) _ p e) [
          | inl h ↦
              let at = with_one_there below.operations Not g _ p h in
              truth_pair at.a false (negated_value types v parts values at.a true
              (true_at (one Not at.a) g at.is is)) (var_of at.a) refl p at.gives
          | inr h ↦
              let at = with_two_there below.operations Eq g _ p h in
              sides_pair at.a at.b (equation_sides types v parts values below.equal at.a at.b
              (true_at (two Eq at.a at.b) g at.is is)) (var_of at.a) refl
              (var_of at.b) refl p at.gives
        ]
      ]

  -- a valuation keeps values by the normal form, and by the literals of known atoms
  pub keeps : KeepsValues types v (norm_in vars)
  keeps = below.normal_values types vars v fits

  pub atoms_keep : (list : List Term) → AreTrueUnder types v list →
      KeepsValues types v (known_atom vars (norm_in vars) list)
  atoms_keep list holds = below.atom_values types vars v fits (norm_in vars) keeps list holds

  pub reduced_by_kept : (list : List Term) → AreTrueUnder types v list → (t : Term) →
      IsKept (value_of types v t) (value_of types v (reduced_by vars (norm_in vars) list t))
  reduced_by_kept list holds = below.reduced_values types v (known_atom vars (norm_in vars) list)
      (norm_in vars) (atoms_keep list holds) keeps

  -- what is known of a formula is so
  known_is : (list : List Term) → AreTrueUnder types v list → (a : Term) (p : Bool) →
      value_of types v a ≡ Some (Truth p) →
      (q : Bool) → atom_known vars (norm_in vars) list a ≡ Some q → q ≡ p
  known_is list holds a p has q e =
      let s = so_there (is_atom vars a) (known vars (norm_in vars) list a) q e in
      let atom = and_parts (is_bool vars a) (not (is_joint (out-Term a))) s.0 in
      some_truth_told q p (below.known types vars v fits
      (norm_in vars) keeps list holds a atom.0 q s.1 (Truth p) has)

  -- a true formula is not known to be false
  refuted : (list : List Term) → AreTrueUnder types v list → (g : Term) → IsTrueUnder types v g →
      known_literal vars (norm_in vars) list g ≡ Some false → ⊥
  refuted list holds g is e = by (arg_of Not g) refl e where
    negated : (a : Term) → value_of types v a ≡ Some (Truth false) → (o : Option Bool) →
        atom_known vars (norm_in vars) list a ≡ o → option_map not o ≡ Some false → ⊥
    negated a has None at h = cc
    negated a has (Some false) at h = cc
    negated a has (Some true) at h = true≢false (known_is list holds a false has true at)

    by : (o : Option Term) → arg_of Not g ≡ o → known_by vars (norm_in vars) list g o ≡ Some false →
        ⊥
    by None at h = true≢false (sym (known_is list holds g true is false h))
    by (Some a) at h =
        negated a (negated_value types v parts values a true
        (true_at (one Not a) g (arg_there below.operations Not g a at) is))
        (atom_known vars (norm_in vars) list a) refl h

  -- the normal form under pairs that are equal
  pub normal_kept : (pairs : Substitution) → AreEqual types v pairs → (f g : Term) →
      norm_in vars (substituted pairs f) ≡ Some g →
      IsKept (value_of types v f) (value_of types v g)
  normal_kept pairs equal f g e x has =
      keeps (substituted pairs f) g e x (below.pairs types v pairs f equal ∙ has)

  -- truth under a valuation is carried into the world
  carries_truth : Carrying vars (norm_in vars) (IsTrueUnder types v) IsPairEqual ⊥
  carries_truth = record {
    closes = λ is. true≢false (sym (some_truth_told false true (sym (values.truth false) ∙ is)));
    parts = and_true types v parts values;
    pairs = pair_equal;
    reduces = λ list holds t is. reduced_by_kept list holds t (Truth true) is;
    refutes = refuted;
    norms = λ pairs equal f g e is. normal_kept pairs equal f g e (Truth true) is;
  }

  -- a valuation that fits a world and makes a formula true fits the world with the formula added
  pub added_fits : (world : Settled) (f : Term) → FitsSettled types v world →
      IsTrueUnder types v f → FitsSettled types v (added vars (norm_in vars) world f)
  added_fits = added_holds below.operations vars (norm_in vars)
      (IsTrueUnder types v) IsPairEqual ⊥ carries_truth

  -- one that makes formulas true fits them settled
  pub settled_fits : (formulas : List Term) → AreTrueUnder types v formulas →
      FitsSettled types v (settled_of vars (norm_in vars) formulas)
  settled_fits = settled_holds below.operations vars (norm_in vars)
      (IsTrueUnder types v) IsPairEqual ⊥ carries_truth
