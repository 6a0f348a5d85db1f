-- A limit that a normal form passes is one of nodes, depth or rules.
use Rattle.std.proofs.Common.{◌≡◌, ℕ, zero, suc, Bool, true, false, List, [], ◌∷◌, map, Option, Some, None, Err, refl, sym, subst, if◌then◌else◌, nat_lt}
use Rattle.kat_value.specs.declared.types.Ty.{Ty}
use Rattle.kat_term.specs.declared.kind.Kind.{Kind}
use Rattle.kat_term.specs.declared.kind.Kind.TheVariants.{Nodes, Depth, Rules}
use Rattle.kat_term.specs.declared.term.Term.{Term}
use Rattle.kat_term.specs.declared.term.Term.TheOpen.{Term-F, Var, Lit, Apply, Make, Rec}
use Rattle.kat_term.specs.declared.term.Term.TheViews.{roll-Term}
use Rattle.kat_term.specs.declared.term.Term.TheVariants.{Apply as ApplyTerm, Make as MakeTerm, Rec as RecTerm}
use Rattle.kat_term.specs.declared.term.Term.TheFolds.{map-Term, fold-Term, fold-roll-Term, ind-Term}
use Rattle.kat_term.specs.Limits.{max_nodes, max_depth}
use Rattle.kat_term.specs.Provers.{IsNormLimit}
use Rattle.kat_term.specs.Sizes.{nodes, depth}
use Rattle.kat_rules.specs.Rules.{rule_of}
use Rattle.kat_norm.specs.Limits.{limit_of, max_rules}
use Rattle.kat_norm.specs.Norm.{Step, Still, To, Over, inside, else_step, replaced_within, replaced, Part, wholes, step_in_all, step_layer, part_of, step_of, Normed, Done, Past, last_step, next_step, norm_from, unless_past, result_within, norm_by, normal_in, norm_of}
use Rattle.kat_norm.specs.Substitution.{Substitution, substituted}

size_limit : (t : Term) (limit : Kind) → limit_of t ≡ Some limit → IsNormLimit limit
size_limit t limit e = by (nat_lt max_nodes (nodes t)) (nat_lt max_depth (depth t)) e where
  by : (b c : Bool) → (if b then Some Nodes else if c then Some Depth else None) ≡ Some limit →
      IsNormLimit limit
  by true c h = let same : Nodes ≡ limit = cc in subst IsNormLimit same tt
  by false true h = let same : Depth ≡ limit = cc in subst IsNormLimit same tt
  by false false h = cc

-- the limit that one use of a rule passes is one
abbrev Names : {A : Type 0} → Step A → Type 0
Names Still = Unit {0}
Names (To new) = Unit {0}
Names (Over limit) = IsNormLimit limit

inside_names : {A B : Type 0} (f : A → B) (s : Step A) → Names s → Names (inside f s)
inside_names f Still is = tt
inside_names f (To new) is = tt
inside_names f (Over limit) is = is

else_names : {A : Type 0} (s next : Step A) → Names s → Names next → Names (else_step s next)
else_names Still next first second = second
else_names (To new) next first second = tt
else_names (Over limit) next first second = first

replaced_names : (o : Option Term) → Names (replaced o)
replaced_names None = tt
replaced_names (Some right) = by (limit_of right) refl where
  by : (l : Option Kind) → limit_of right ≡ l → Names (replaced_within l right)
  by None is = tt
  by (Some limit) is = size_limit right limit is

module _ (rule : Term → Option Term) where
  abbrev StepNames : Term → Type 0
  StepNames t = Names (step_of rule t)

  abbrev Named : Type 0
  Named = (t : Term) × StepNames t

  abbrev parts : List Named → List Part
  parts ts = map (fold-Term Part (part_of rule)) (map (λ (e : Named). e.0) ts)

  all_names : (ts : List Named) → Names (step_in_all (parts ts))
  all_names [] = tt
  all_names (e ∷ ts) =
      else_names (inside (λ new. new ∷ wholes (parts ts)) (step_of rule e.0))
      (inside (λ news. (fold-Term Part (part_of rule) e.0).whole ∷ news)
      (step_in_all (parts ts)))
      (inside_names (λ new. new ∷ wholes (parts ts)) (step_of rule e.0) e.1)
      (inside_names (λ news. (fold-Term Part (part_of rule) e.0).whole ∷ news)
      (step_in_all (parts ts)) (all_names ts))

  -- a use in the parts, else at the term itself
  within : {A : Type 0} (f : A → Term) (s : Step A) (o : Option Term) → Names s →
      Names (else_step (inside f s) (replaced o))
  within f s o is = else_names (inside f s) (replaced o) (inside_names f s is) (replaced_names o)

  layer_names : (y : Term-F Named) →
      Names (step_layer rule (map-Term Term Part (fold-Term Part (part_of rule))
      (map-Term Named Term (λ e. e.0) y)))
  layer_names (Var i) = replaced_names (rule (roll-Term (Var i)))
  layer_names (Lit x) = replaced_names (rule (roll-Term (Lit x)))
  layer_names (Apply op ts) = within (ApplyTerm op) (step_in_all (parts ts))
      (rule (ApplyTerm op (wholes (parts ts)))) (all_names ts)
  layer_names (Make of ctor e) = within (MakeTerm of ctor) (step_of rule e.0)
      (rule (MakeTerm of ctor (fold-Term Part (part_of rule) e.0).whole)) e.1
  layer_names (Rec of ts) = within (RecTerm of) (step_in_all (parts ts))
      (rule (RecTerm of (wholes (parts ts)))) (all_names ts)

  step_names : (t : Term) → StepNames t
  step_names = ind-Term StepNames (λ x y is.
      subst (λ (p : Part). Names p.step) (sym (fold-roll-Term Part (part_of rule) x))
      (subst (λ z. Names (step_layer rule (map-Term Term Part (fold-Term Part (part_of rule)) z)))
      is (layer_names y)))

  from_names : (left : ℕ) (t : Term) (limit : Kind) → norm_from rule left t ≡ Past limit →
      IsNormLimit limit
  from_names zero t limit e = by (step_of rule t) e where
    by : (s : Step Term) → last_step t s ≡ Past limit → IsNormLimit limit
    by Still h = cc
    by (To new) h = let same : Rules ≡ limit = cc in subst IsNormLimit same tt
    by (Over other) h = let same : Rules ≡ limit = cc in subst IsNormLimit same tt
  from_names (suc left) t limit e =
      by (λ new h. from_names left new limit h) (step_of rule t) (step_names t) e where
        by : ((new : Term) → norm_from rule left new ≡ Past limit → IsNormLimit limit) →
            (s : Step Term) → Names s → next_step t (suc left) s (norm_from rule left) ≡ Past limit →
            IsNormLimit limit
        by go Still names h = cc
        by go (To new) names h = go new h
        by go (Over other) names h = let same : other ≡ limit = cc in subst IsNormLimit same names

  by_names : (t : Term) (limit : Kind) → norm_by rule t ≡ Past limit → IsNormLimit limit
  by_names t limit e = whole (limit_of t) refl e where
    sized : (n : Term) (left : ℕ) (o : Option Kind) → limit_of n ≡ o →
        unless_past o (Done n left) ≡ Past limit → IsNormLimit limit
    sized n left None is h = cc
    sized n left (Some other) is h = let same : other ≡ limit = cc in
        subst IsNormLimit same (size_limit n other is)

    result : (n : Normed Term) → norm_from rule max_rules t ≡ n → result_within n ≡ Past limit →
        IsNormLimit limit
    result (Done n left) is h = sized n left (limit_of n) refl h
    result (Past other) is h = let same : other ≡ limit = cc in
        subst IsNormLimit same (from_names max_rules t other is)

    whole : (o : Option Kind) → limit_of t ≡ o →
        unless_past o (result_within (norm_from rule max_rules t)) ≡ Past limit → IsNormLimit limit
    whole None is h = result (norm_from rule max_rules t) refl h
    whole (Some other) is h = let same : other ≡ limit = cc in
        subst IsNormLimit same (size_limit t other is)

pub limits_named : (vars : List Ty) (pairs : Substitution) (t : Term) (limit : Kind) →
    norm_of vars pairs t ≡ Err limit → IsNormLimit limit
limits_named vars pairs t limit e = by (norm_by (rule_of vars) (substituted pairs t)) refl e where
  by : (n : Normed Term) → norm_by (rule_of vars) (substituted pairs t) ≡ n →
      normal_in n ≡ Err limit → IsNormLimit limit
  by (Done n left) is h = cc
  by (Past other) is h = let same : other ≡ limit = cc in
      subst IsNormLimit same (by_names (rule_of vars) (substituted pairs t) other is)
