-- The normal form goes by the parts: they are normed from left to right, then the first rule that is
-- there is used and its right side is normed in its turn.
use Rattle.std.proofs.Common.{◌≡◌, ◌∙◌, ℕ, zero, suc, List, [], ◌∷◌, map, Option, Some, None, refl, ap, sym, subst}
use Rattle.kat_value.specs.declared.op.Op.{Op}
use Rattle.kat_term.specs.declared.kind.Kind.{Kind}
use Rattle.kat_term.specs.declared.kind.Kind.TheVariants.{Rules}
use Rattle.kat_term.specs.declared.term.Term.{Term}
use Rattle.kat_term.specs.declared.term.Term.TheOpen.{Term-F, Var, Lit, Apply, Make, Rec}
use Rattle.kat_term.specs.declared.term.Term.TheViews.{out-Term, roll-Term, roll-out-Term}
use Rattle.kat_term.specs.declared.term.Term.TheVariants.{Apply as ApplyTerm, Make as MakeTerm, Rec as RecTerm, rolls-Apply, rolls-Make, rolls-Rec}
use Rattle.kat_term.specs.declared.term.Term.TheFolds.{map-Term, fold-Term, fold-roll-Term, ind-Term}
use Rattle.kat_norm.specs.ByArguments.{GoesByArguments}
use Rattle.kat_norm.specs.Limits.{limit_of}
use Rattle.kat_norm.specs.Norm.{Step, Still, To, Over, inside, else_step, replaced_within, replaced, Part, wholes, step_in_all, part_of, step_of, Normed, Done, Past, last_step, next_step, steps_from, norm_from, unless_past, and_go, norm_all, use_rule, norm_head, norm_parts}

module _ (rule : Term → Option Term) where
  -- a term as the part that it is
  abbrev pub part : Term → Part
  part = fold-Term Part (part_of rule)

  abbrev IsWhole : Term → Type 0
  IsWhole t = (part t).whole ≡ t

  whole_all : (ts : List ((t : Term) × IsWhole t)) → wholes (map part (map (λ e. e.0) ts)) ≡ map (λ e. e.0) ts
  whole_all [] = refl
  whole_all (e ∷ ts) = let head : (part e.0).whole ≡ e.0 = e.1 in let tail = whole_all ts in cc

  whole_layer : (y : Term-F ((t : Term) × IsWhole t)) →
      map-Term Part Term (λ (p : Part). p.whole) (map-Term Term Part part (map-Term ((t : Term) × IsWhole t) Term (λ e. e.0) y))
      ≡ map-Term ((t : Term) × IsWhole t) Term (λ e. e.0) y
  whole_layer (Var i) = refl
  whole_layer (Lit x) = refl
  whole_layer (Apply op ts) = ap (Apply op) (whole_all ts)
  whole_layer (Make of ctor e) = ap (Make of ctor) e.1
  whole_layer (Rec of ts) = ap (Rec of) (whole_all ts)

  pub part_whole : (t : Term) → (part t).whole ≡ t
  part_whole = ind-Term IsWhole (λ x y is.
      ap (λ (p : Part). p.whole) (fold-roll-Term Part (part_of rule) x)
      ∙ ap roll-Term (subst (λ z. map-Term Part Term (λ (p : Part). p.whole) (map-Term Term Part part z) ≡ z) is (whole_layer y)))

  pub parts_whole : (ts : List Term) → wholes (map part ts) ≡ ts
  parts_whole [] = refl
  parts_whole (t ∷ ts) = let head = part_whole t in let tail = parts_whole ts in cc

  -- one use of a rule in a list of terms
  abbrev pub step_all : List Term → Step (List Term)
  step_all ts = step_in_all (map part ts)

  pub step_all-cons : (t : Term) (ts : List Term) →
      step_all (t ∷ ts) ≡ else_step (inside (λ new. new ∷ ts) (step_of rule t)) (inside (λ news. t ∷ news) (step_all ts))
  step_all-cons t ts =
      ap (λ us. else_step (inside (λ new. new ∷ us) (step_of rule t)) (inside (λ news. (part t).whole ∷ news) (step_all ts))) (parts_whole ts)
      ∙ ap (λ u. else_step (inside (λ new. new ∷ ts) (step_of rule t)) (inside (λ news. u ∷ news) (step_all ts))) (part_whole t)

  -- one use of a rule at each layer
  pub step_of-roll : (x : Term-F Term) → step_of rule (roll-Term x) ≡ (part_of rule (map-Term Term Part part x)).step
  step_of-roll x = ap (λ (p : Part). p.step) (fold-roll-Term Part (part_of rule) x)

  pub step_of-Apply : (op : Op) (ts : List Term) →
      step_of rule (ApplyTerm op ts) ≡ else_step (inside (ApplyTerm op) (step_all ts)) (replaced (rule (ApplyTerm op ts)))
  step_of-Apply op ts =
      ap (step_of rule) (sym (rolls-Apply op ts))
      ∙ step_of-roll (Apply op ts)
      ∙ ap (λ us. else_step (inside (ApplyTerm op) (step_all ts)) (replaced (rule (ApplyTerm op us)))) (parts_whole ts)

  pub step_of-Rec : (of : ℕ) (ts : List Term) →
      step_of rule (RecTerm of ts) ≡ else_step (inside (RecTerm of) (step_all ts)) (replaced (rule (RecTerm of ts)))
  step_of-Rec of ts =
      ap (step_of rule) (sym (rolls-Rec of ts))
      ∙ step_of-roll (Rec of ts)
      ∙ ap (λ us. else_step (inside (RecTerm of) (step_all ts)) (replaced (rule (RecTerm of us)))) (parts_whole ts)

  pub step_of-Make : (of ctor : ℕ) (t : Term) →
      step_of rule (MakeTerm of ctor t) ≡ else_step (inside (MakeTerm of ctor) (step_of rule t)) (replaced (rule (MakeTerm of ctor t)))
  step_of-Make of ctor t =
      ap (step_of rule) (sym (rolls-Make of ctor t))
      ∙ step_of-roll (Make of ctor t)
      ∙ ap (λ u. else_step (inside (MakeTerm of ctor) (step_of rule t)) (replaced (rule (MakeTerm of ctor u)))) (part_whole t)

  -- at a term in whose parts no rule is there
  head_zero : (t : Term) (right : Option Term) → last_step t (replaced right) ≡ use_rule rule t zero right
  head_zero t None = refl
  head_zero t (Some right) = over (limit_of right) where
    over : (l : Option Kind) → last_step t (replaced_within l right) ≡ Past Rules
    over None = refl
    over (Some limit) = refl

  head_suc : (t : Term) (left : ℕ) (right : Option Term) → next_step t (suc left) (replaced right) (norm_from rule left) ≡ use_rule rule t (suc left) right
  head_suc t left None = refl
  head_suc t left (Some right) = within (limit_of right) where
    within : (l : Option Kind) → next_step t (suc left) (replaced_within l right) (norm_from rule left) ≡ unless_past l (norm_from rule left right)
    within None = refl
    within (Some limit) = refl

  -- the parts of a term come to rest before the term itself: `whole` makes the term of its parts
  module _ {A : Type 0} (step : A → Step A) (whole : A → Term)
      (goes : (a : A) → step_of rule (whole a) ≡ else_step (inside whole (step a)) (replaced (rule (whole a)))) where
    abbrev pub parts_then_head : ℕ → A → Normed Term
    parts_then_head left a = and_go (steps_from step left a) (λ n more. norm_head rule (whole n) more)

    pub parts_first : (left : ℕ) (a : A) → norm_from rule left (whole a) ≡ parts_then_head left a
    parts_first zero a = ap (last_step (whole a)) (goes a) ∙ by (step a) where
      by : (s : Step A) →
          last_step (whole a) (else_step (inside whole s) (replaced (rule (whole a))))
          ≡ and_go (last_step a s) (λ n more. norm_head rule (whole n) more)
      by Still = head_zero (whole a) (rule (whole a))
      by (To new) = refl
      by (Over limit) = refl
    parts_first (suc left) a =
        ap (λ s. next_step (whole a) (suc left) s (norm_from rule left)) (goes a)
        ∙ by (λ new. parts_first left new) (step a) where
          by : ((new : A) → norm_from rule left (whole new) ≡ parts_then_head left new) → (s : Step A) →
              next_step (whole a) (suc left) (else_step (inside whole s) (replaced (rule (whole a)))) (norm_from rule left)
              ≡ and_go (next_step a (suc left) s (steps_from step left)) (λ n more. norm_head rule (whole n) more)
          by go Still = head_suc (whole a) left (rule (whole a))
          by go (To new) = go new
          by go (Over limit) = refl

  -- behind a first term that is at rest, the others go on
  abbrev behind : Term → Normed (List Term) → Normed (List Term)
  behind t rest = and_go rest (λ ns left. Done (t ∷ ns) left)

  at_rest : (t : Term) (ts : List Term) → step_of rule t ≡ Still → step_all (t ∷ ts) ≡ inside (λ news. t ∷ news) (step_all ts)
  at_rest t ts still = step_all-cons t ts ∙ ap (λ u. else_step (inside (λ new. new ∷ ts) u) (inside (λ news. t ∷ news) (step_all ts))) still

  rest_by : (left : ℕ) (t : Term) (ts : List Term) → step_of rule t ≡ Still →
      steps_from step_all left (t ∷ ts) ≡ behind t (steps_from step_all left ts)
  rest_by zero t ts still = ap (last_step (t ∷ ts)) (at_rest t ts still) ∙ by (step_all ts) where
    by : (s : Step (List Term)) → last_step (t ∷ ts) (inside (λ news. t ∷ news) s) ≡ behind t (last_step ts s)
    by Still = refl
    by (To new) = refl
    by (Over limit) = refl
  rest_by (suc left) t ts still =
      ap (λ u. next_step (t ∷ ts) (suc left) u (steps_from step_all left)) (at_rest t ts still) ∙ by (λ new. rest_by left t new still) (step_all ts) where
        by : ((new : List Term) → steps_from step_all left (t ∷ new) ≡ behind t (steps_from step_all left new)) → (s : Step (List Term)) →
            next_step (t ∷ ts) (suc left) (inside (λ news. t ∷ news) s) (steps_from step_all left) ≡ behind t (next_step ts (suc left) s (steps_from step_all left))
        by go Still = refl
        by go (To new) = go new
        by go (Over limit) = refl

  -- the first term comes to rest before those behind it
  abbrev first_then_rest : Normed Term → List Term → Normed (List Term)
  first_then_rest first ts = and_go first (λ n more. behind n (steps_from step_all more ts))

  cons_by : (left : ℕ) (t : Term) (ts : List Term) → steps_from step_all left (t ∷ ts) ≡ first_then_rest (norm_from rule left t) ts
  cons_by zero t ts = by (step_of rule t) refl where
    by : (s : Step Term) → step_of rule t ≡ s → last_step (t ∷ ts) (step_all (t ∷ ts)) ≡ first_then_rest (last_step t (step_of rule t)) ts
    by Still e = rest_by zero t ts e ∙ sym (ap (λ s. first_then_rest (last_step t s) ts) e)
    by (To new) e =
        ap (last_step (t ∷ ts)) (step_all-cons t ts ∙ ap (λ u. else_step (inside (λ n. n ∷ ts) u) (inside (λ news. t ∷ news) (step_all ts))) e)
        ∙ sym (ap (λ s. first_then_rest (last_step t s) ts) e)
    by (Over limit) e =
        ap (last_step (t ∷ ts)) (step_all-cons t ts ∙ ap (λ u. else_step (inside (λ n. n ∷ ts) u) (inside (λ news. t ∷ news) (step_all ts))) e)
        ∙ sym (ap (λ s. first_then_rest (last_step t s) ts) e)
  cons_by (suc left) t ts = by (λ new. cons_by left new ts) (step_of rule t) refl where
    by : ((new : Term) → steps_from step_all left (new ∷ ts) ≡ first_then_rest (norm_from rule left new) ts) → (s : Step Term) → step_of rule t ≡ s →
        next_step (t ∷ ts) (suc left) (step_all (t ∷ ts)) (steps_from step_all left)
        ≡ first_then_rest (next_step t (suc left) (step_of rule t) (norm_from rule left)) ts
    by go Still e = rest_by (suc left) t ts e ∙ sym (ap (λ s. first_then_rest (next_step t (suc left) s (norm_from rule left)) ts) e)
    by go (To new) e =
        ap (λ u. next_step (t ∷ ts) (suc left) u (steps_from step_all left))
        (step_all-cons t ts ∙ ap (λ u. else_step (inside (λ n. n ∷ ts) u) (inside (λ news. t ∷ news) (step_all ts))) e)
        ∙ go new
        ∙ sym (ap (λ s. first_then_rest (next_step t (suc left) s (norm_from rule left)) ts) e)
    by go (Over limit) e =
        ap (λ u. next_step (t ∷ ts) (suc left) u (steps_from step_all left))
        (step_all-cons t ts ∙ ap (λ u. else_step (inside (λ n. n ∷ ts) u) (inside (λ news. t ∷ news) (step_all ts))) e)
        ∙ sym (ap (λ s. first_then_rest (next_step t (suc left) s (norm_from rule left)) ts) e)

  -- a list comes to rest from left to right
  pub all_in_order : (left : ℕ) (ts : List Term) → steps_from step_all left ts ≡ norm_all rule left ts
  all_in_order zero [] = refl
  all_in_order (suc left) [] = refl
  all_in_order left (t ∷ ts) = cons_by left t ts ∙ by (λ more. all_in_order more ts) (norm_from rule left t) where
    by : ((more : ℕ) → steps_from step_all more ts ≡ norm_all rule more ts) → (first : Normed Term) →
        first_then_rest first ts ≡ and_go first (λ n more. behind n (norm_all rule more ts))
    by rest (Done n more) = ap (behind n) (rest more)
    by rest (Past limit) = refl

  -- a layer that has no parts
  alone : (left : ℕ) (x : Term-F Term) → step_of rule (roll-Term x) ≡ replaced (rule (roll-Term x)) →
      norm_from rule left (roll-Term x) ≡ norm_head rule (roll-Term x) left
  alone zero x e = ap (last_step (roll-Term x)) e ∙ head_zero (roll-Term x) (rule (roll-Term x))
  alone (suc left) x e = ap (λ s. next_step (roll-Term x) (suc left) s (norm_from rule left)) e ∙ head_suc (roll-Term x) left (rule (roll-Term x))

  -- what is made of parts when they are done
  made_of_done : {A : Type 0} (whole : A → Term) (r : Normed A) →
      and_go r (λ n more. norm_head rule (whole n) more) ≡ and_go (and_go r (λ n more. Done (whole n) more)) (norm_head rule)
  made_of_done whole (Done n more) = refl
  made_of_done whole (Past limit) = refl

  by_layer : (left : ℕ) (x : Term-F Term) → norm_from rule left (roll-Term x) ≡ and_go (norm_parts rule left x) (norm_head rule)
  by_layer left (Var i) = alone left (Var i) (step_of-roll (Var i))
  by_layer left (Lit x) = alone left (Lit x) (step_of-roll (Lit x))
  by_layer left (Apply op ts) =
      ap (norm_from rule left) (rolls-Apply op ts) ∙ parts_first step_all (ApplyTerm op) (step_of-Apply op) left ts
      ∙ ap (λ r. and_go r (λ ns more. norm_head rule (ApplyTerm op ns) more)) (all_in_order left ts)
      ∙ made_of_done (ApplyTerm op) (norm_all rule left ts)
  by_layer left (Make of ctor t) =
      ap (norm_from rule left) (rolls-Make of ctor t) ∙ parts_first (step_of rule) (MakeTerm of ctor) (step_of-Make of ctor) left t
      ∙ made_of_done (MakeTerm of ctor) (norm_from rule left t)
  by_layer left (Rec of ts) =
      ap (norm_from rule left) (rolls-Rec of ts) ∙ parts_first step_all (RecTerm of) (step_of-Rec of) left ts
      ∙ ap (λ r. and_go r (λ ns more. norm_head rule (RecTerm of ns) more)) (all_in_order left ts)
      ∙ made_of_done (RecTerm of) (norm_all rule left ts)

-- the parts are normed, then the rule that is there is used and its right side is normed
pub goes_by_arguments : GoesByArguments
goes_by_arguments rule left t = ap (norm_from rule left) (sym (roll-out-Term t)) ∙ by_layer rule left (out-Term t)
