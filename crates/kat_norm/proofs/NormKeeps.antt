-- The normal form has the value of the term, where each rule keeps values.
use Rattle.std.proofs.Common.{◌≡◌, ◌∙◌, ℕ, zero, suc, List, [], ◌∷◌, map, Option, Some, None, refl, ap, sym, subst}
use Rattle.std.specs.Prelude.{option_and_then}
use Rattle.std.specs.Option.{option_map}
use Rattle.kat_value.specs.declared.op.Op.{Op}
use Rattle.kat_value.specs.declared.types.TypeDecl.{TypeDecl}
use Rattle.kat_value.specs.declared.value.Value.{Value}
use Rattle.kat_term.specs.declared.kind.Kind.{Kind}
use Rattle.kat_term.specs.declared.term.Term.{Term}
use Rattle.kat_term.specs.declared.term.Term.TheOpen.{Term-F, Var, Lit, Apply, Make, Rec}
use Rattle.kat_term.specs.declared.term.Term.TheViews.{roll-Term}
use Rattle.kat_term.specs.declared.term.Term.TheVariants.{Apply as ApplyTerm, Make as MakeTerm, Rec as RecTerm, rolls-Apply, rolls-Make, rolls-Rec}
use Rattle.kat_term.specs.declared.term.Term.TheFolds.{map-Term, ind-Term}
use Rattle.kat_value.specs.Operations.{value_of_op}
use Rattle.kat_term.specs.Parts.{TermsByParts, ValuesByParts}
use Rattle.kat_value.specs.Making.{all_there, value_of_making, value_of_record}
use Rattle.kat_term.specs.Values.{Valuation, IsKept, value_of}
use Rattle.kat_rules.specs.Keeps.{Keeps, KeepsValues}
use Rattle.kat_rules.specs.Rules.{rule_of}
use Rattle.kat_norm.specs.Kept.{KeptByRules, ValuesAreKept}
use Rattle.kat_norm.specs.Limits.{limit_of, max_rules}
use Rattle.kat_norm.specs.Norm.{Step, Still, To, Over, inside, else_step, replaced_within, replaced, step_of, Done, last_step, next_step, norm_from}
use Rattle.kat_norm.specs.Substitution.{substituted}
use Rattle.kat_norm.proofs.NormalParts.{step_all, step_all-cons, step_of-roll, step_of-Apply, step_of-Make, step_of-Rec}
use Rattle.kat_norm.proofs.PutKeeps.{substituted_kept}
use Rattle.kat_norm.proofs.Runs.{norm_by_parts}

-- the values of a list of terms are kept
abbrev AreKept : List (Option Value) → List (Option Value) → Type 0
AreKept as' bs = (xs : List Value) → all_there as' ≡ Some xs → all_there bs ≡ Some xs

first_kept : (a b : Option Value) (more : List (Option Value)) → IsKept a b → AreKept (a ∷ more) (b ∷ more)
first_kept None b more kept xs e = cc
first_kept (Some x) b more kept xs e =
    ap (λ o. option_and_then (λ y. option_map (λ ys. y ∷ ys) (all_there more)) o) (kept x refl) ∙ e

rest_kept : (a : Option Value) (as' bs : List (Option Value)) → AreKept as' bs → AreKept (a ∷ as') (a ∷ bs)
rest_kept None as' bs kept xs e = cc
rest_kept (Some x) as' bs kept xs e = by (all_there as') refl e where
  by : (o : Option (List Value)) → all_there as' ≡ o → option_map (λ ys. x ∷ ys) o ≡ Some xs → option_map (λ ys. x ∷ ys) (all_there bs) ≡ Some xs
  by None is h = cc
  by (Some ys) is h = ap (option_map (λ zs. x ∷ zs)) (kept ys is) ∙ h

-- what is made of kept parts is kept
made_kept : {A : Type 0} (f : A → Option Value) (a b : Option A) → ((x : A) → a ≡ Some x → b ≡ Some x) →
    IsKept (option_and_then f a) (option_and_then f b)
made_kept f None b kept z e = cc
made_kept f (Some x) b kept z e = ap (option_and_then f) (kept x refl) ∙ e

module _ (types : List TypeDecl) (v : Valuation) (parts : ValuesByParts types v)
    (rule : Term → Option Term) (keeps : KeepsValues types v rule) where
  abbrev value : Term → Option Value
  value = value_of types v

  abbrev values : List Term → List (Option Value)
  values ts = map value ts

  -- one use of a rule in this term keeps the value
  abbrev IsStepKept : Term → Type 0
  IsStepKept t = (new : Term) → step_of rule t ≡ To new → IsKept (value t) (value new)

  replaced_kept : (t new : Term) → replaced (rule t) ≡ To new → IsKept (value t) (value new)
  replaced_kept t new e = by (rule t) refl e where
    within : (right : Term) → rule t ≡ Some right → (l : Option Kind) → replaced_within l right ≡ To new → IsKept (value t) (value new)
    within right is None h =
        let same : right ≡ new = cc in
        subst (λ (u : Term). IsKept (value t) (value u)) same (keeps t right is)
    within right is (Some limit) h = cc

    by : (r : Option Term) → rule t ≡ r → replaced r ≡ To new → IsKept (value t) (value new)
    by None is h = cc
    by (Some right) is h = within right is (limit_of right) h

  abbrev Kept : Type 0
  Kept = (t : Term) × IsStepKept t

  abbrev terms : List Kept → List Term
  terms ts = map (λ (e : Kept). e.0) ts

  all_kept : (ts : List Kept) (news : List Term) → step_all rule (terms ts) ≡ To news → AreKept (values (terms ts)) (values news)
  all_kept [] news h = cc
  all_kept (e ∷ ts) news h = by (λ ms is. all_kept ts ms is) (step_of rule e.0) refl (sym (step_all-cons rule e.0 (terms ts)) ∙ h) where
    behind : ((ms : List Term) → step_all rule (terms ts) ≡ To ms → AreKept (values (terms ts)) (values ms)) →
        (s : Step (List Term)) → step_all rule (terms ts) ≡ s → inside (λ ms. e.0 ∷ ms) s ≡ To news →
        AreKept (values (e.0 ∷ terms ts)) (values news)
    behind go Still is h = cc
    behind go (To ms) is h =
        let same : e.0 ∷ ms ≡ news = cc in
        subst (λ us. AreKept (values (e.0 ∷ terms ts)) (values us)) same
        (rest_kept (value e.0) (values (terms ts)) (values ms) (go ms is))
    behind go (Over limit) is h = cc

    by : ((ms : List Term) → step_all rule (terms ts) ≡ To ms → AreKept (values (terms ts)) (values ms)) →
        (s : Step Term) → step_of rule e.0 ≡ s →
        else_step (inside (λ n. n ∷ terms ts) s) (inside (λ ms. e.0 ∷ ms) (step_all rule (terms ts))) ≡ To news →
        AreKept (values (e.0 ∷ terms ts)) (values news)
    by go Still is h = behind go (step_all rule (terms ts)) refl h
    by go (To n) is h =
        let same : n ∷ terms ts ≡ news = cc in
        subst (λ us. AreKept (values (e.0 ∷ terms ts)) (values us)) same
        (first_kept (value e.0) (value n) (values (terms ts)) (e.1 n is))
    by go (Over limit) is h = cc

  -- a use of a rule in the parts of a term, or at the term itself
  part_kept : {A : Type 0} (whole : A → Term) (a : A) (s : Step A) →
      ((new : A) → s ≡ To new → IsKept (value (whole a)) (value (whole new))) →
      step_of rule (whole a) ≡ else_step (inside whole s) (replaced (rule (whole a))) → IsStepKept (whole a)
  part_kept whole a Still kept goes new h = replaced_kept (whole a) new (sym goes ∙ h)
  part_kept whole a (To n) kept goes new h =
      let same : whole n ≡ new = cc in
      subst (λ (u : Term). IsKept (value (whole a)) (value u)) same (kept n refl)
  part_kept whole a (Over limit) kept goes new h = cc

  apply_kept : (op : Op) (ts : List Kept) → IsStepKept (ApplyTerm op (terms ts))
  apply_kept op ts =
      part_kept (ApplyTerm op) (terms ts) (step_all rule (terms ts))
      (λ ms is x has.
      parts.application op ms
      ∙ made_kept (value_of_op op) (all_there (values (terms ts))) (all_there (values ms)) (all_kept ts ms is) x
      (sym (parts.application op (terms ts)) ∙ has))
      (step_of-Apply rule op (terms ts))

  rec_kept : (of : ℕ) (ts : List Kept) → IsStepKept (RecTerm of (terms ts))
  rec_kept of ts =
      part_kept (RecTerm of) (terms ts) (step_all rule (terms ts))
      (λ ms is x has.
      parts.fields of ms
      ∙ made_kept (value_of_record types of) (all_there (values (terms ts))) (all_there (values ms)) (all_kept ts ms is) x
      (sym (parts.fields of (terms ts)) ∙ has))
      (step_of-Rec rule of (terms ts))

  make_kept : (of ctor : ℕ) (e : Kept) → IsStepKept (MakeTerm of ctor e.0)
  make_kept of ctor e =
      part_kept (MakeTerm of ctor) e.0 (step_of rule e.0)
      (λ n is x has.
      parts.making of ctor n
      ∙ made_kept (value_of_making types of ctor) (value e.0) (value n) (e.1 n is) x
      (sym (parts.making of ctor e.0) ∙ has))
      (step_of-Make rule of ctor e.0)

  layer_kept : (y : Term-F Kept) → IsStepKept (roll-Term (map-Term Kept Term (λ e. e.0) y))
  layer_kept (Var i) = λ new h. replaced_kept (roll-Term (Var i)) new (sym (step_of-roll rule (Var i)) ∙ h)
  layer_kept (Lit x) = λ new h. replaced_kept (roll-Term (Lit x)) new (sym (step_of-roll rule (Lit x)) ∙ h)
  layer_kept (Apply op ts) = subst IsStepKept (sym (rolls-Apply op (terms ts))) (apply_kept op ts)
  layer_kept (Make of ctor e) = subst IsStepKept (sym (rolls-Make of ctor e.0)) (make_kept of ctor e)
  layer_kept (Rec of ts) = subst IsStepKept (sym (rolls-Rec of (terms ts))) (rec_kept of ts)

  pub step_kept : (t : Term) → IsStepKept t
  step_kept = ind-Term IsStepKept (λ x y is. subst (λ z. IsStepKept (roll-Term z)) is (layer_kept y))

  pub norm_kept : (left : ℕ) (t normal : Term) (rest : ℕ) → norm_from rule left t ≡ Done normal rest → IsKept (value t) (value normal)
  norm_kept zero t normal rest h = by (step_of rule t) h where
    by : (s : Step Term) → last_step t s ≡ Done normal rest → IsKept (value t) (value normal)
    by Still e = let same : t ≡ normal = cc in subst (λ (u : Term). IsKept (value t) (value u)) same (λ x has. has)
    by (To new) e = cc
    by (Over limit) e = cc
  norm_kept (suc left) t normal rest h = by (λ new e. norm_kept left new normal rest e) (step_of rule t) refl h where
    by : ((new : Term) → norm_from rule left new ≡ Done normal rest → IsKept (value new) (value normal)) →
        (s : Step Term) → step_of rule t ≡ s → next_step t (suc left) s (norm_from rule left) ≡ Done normal rest → IsKept (value t) (value normal)
    by go Still is e = let same : t ≡ normal = cc in subst (λ (u : Term). IsKept (value t) (value u)) same (λ x has. has)
    by go (To new) is e = λ x has. go new e x (step_kept t new is x has)
    by go (Over limit) is e = cc

-- what rules that keep values lead to has the value of the term
pub kept_by_rules : TermsByParts → KeptByRules
kept_by_rules by types v rule keeps left rest t normal e = norm_kept types v (by.0 types v) rule keeps left t normal rest e

-- a normal form has the value of the term
pub values_are_kept : TermsByParts → Keeps rule_of → ValuesAreKept
values_are_kept by keep vars pairs t normal e types v fits equal x has =
    let p = norm_by_parts (rule_of vars) (substituted pairs t) normal e in
    norm_kept types v (by.0 types v) (rule_of vars) (keep types vars v fits) max_rules (substituted pairs t) normal p.rest p.comes x
    (substituted_kept types v pairs t equal ∙ has)
