-- Where the parts of a term are normal, so is all below the new levels of its right side.
use Rattle.std.proofs.Common.{◌≡◌, ◌∙◌, ℕ, zero, suc, ◌-◌, ◌≤◌, ◌<◌, Bool, true, false, List, [], ◌∷◌, map, length, get_or, Option, Some, None, refl, ap, sym, subst, arith, nat_lt, if◌then◌else◌}
use Rattle.std.proofs.Math.Nat.{le-max_left, le-max_right}
use Rattle.std.proofs.lemmas.Bool.{ltb-false}
use Rattle.kat_value.specs.declared.op.Op.{Op}
use Rattle.kat_value.specs.declared.types.Ty.{Ty}
use Rattle.kat_term.specs.declared.kind.Kind.{Kind}
use Rattle.kat_term.specs.declared.kind.Kind.TheVariants.{Nodes, Depth}
use Rattle.kat_term.specs.declared.term.Term.{Term}
use Rattle.kat_term.specs.declared.term.Term.TheOpen.{Term-F, Var, Lit, Apply, Make, Rec}
use Rattle.kat_term.specs.declared.term.Term.TheViews.{out-Term, roll-Term, out-roll-Term, roll-out-Term, outs-Apply, outs-Make, outs-Rec}
use Rattle.kat_term.specs.declared.term.Term.TheVariants.{Apply as ApplyTerm, Make as MakeTerm, Rec as RecTerm, rolls-Apply, rolls-Make, rolls-Rec}
use Rattle.kat_term.specs.declared.term.Term.TheFolds.{map-Term, fold_out-Term}
use Rattle.kat_term.specs.Limits.{max_nodes, max_depth}
use Rattle.kat_term.specs.Sizes.{nodes, depth, depth_layer, greatest}
use Rattle.kat_rules.specs.RightSides.{parts_in, parts_of, HoldsBelow, AllHoldBelow, IsHeritable, IsShallow, equates_record, new_levels}
use Rattle.kat_rules.specs.Rules.{rule_of}
use Rattle.kat_norm.specs.Levels.{is_still, is_normal, levels_of}
use Rattle.kat_norm.specs.Limits.{limit_of}
use Rattle.kat_norm.specs.Norm.{Step, Still, To, Over, inside, else_step, replaced, step_of, Normed, Done, Past, norm_from, unless_past, and_go, norm_all, norm_parts, right_parts}
use Rattle.kat_norm.proofs.NormalParts.{step_all, step_all-cons, step_of-Apply, step_of-Make, step_of-Rec}
use Rattle.kat_norm.proofs.Rests.{rests, stays}

-- where no rule is used of two, none is used of each
still_is : {A : Type 0} (s : Step A) → is_still s ≡ true → s ≡ Still
still_is Still e = refl
still_is (To new) e = cc
still_is (Over limit) e = cc

first_still : {A : Type 0} (s next : Step A) → else_step s next ≡ Still → s ≡ Still
first_still Still next e = refl
first_still (To new) next e = cc
first_still (Over limit) next e = cc

next_still : {A : Type 0} (s next : Step A) → else_step s next ≡ Still → next ≡ Still
next_still Still next e = e
next_still (To new) next e = cc
next_still (Over limit) next e = cc

part_still : {A B : Type 0} (f : A → B) (s : Step A) → inside f s ≡ Still → s ≡ Still
part_still f Still e = refl
part_still f (To new) e = cc
part_still f (Over limit) e = cc

-- what stands deeper than a term goes has every property
module _ (p : Term → Bool) where
  all_deep : (n : ℕ) → ((t : Term) → depth t ≤ n → HoldsBelow p n t) → (ts : List Term) → greatest
      (map depth ts) ≤ n → AllHoldBelow p n ts
  all_deep n go [] less = tt
  all_deep n go (t ∷ ts) less =
      let first = le-max_left (depth t) (greatest (map depth ts)) in
      let others = le-max_right (depth t) (greatest (map depth ts)) in
      (go t (omega (arith, first, less)), all_deep n go ts (omega (arith, others, less)))

  some_depth : (x : Term-F ℕ) → 1 ≤ depth_layer x
  some_depth (Var i) = omega arith
  some_depth (Lit x) = omega arith
  some_depth (Apply op args) = omega arith
  some_depth (Make of ctor inner) = omega arith
  some_depth (Rec of fields) = omega arith

  layer_deep : (n : ℕ) → ((t : Term) → depth t ≤ n → HoldsBelow p n t) → (x : Term-F Term) →
      depth_layer (map-Term Term ℕ depth x) ≤ suc n → AllHoldBelow p n (parts_in x)
  layer_deep n go (Var i) less = tt
  layer_deep n go (Lit x) less = tt
  layer_deep n go (Apply op args) less = all_deep n go args (omega (arith, less))
  layer_deep n go (Make of ctor inner) less = (go inner (omega (arith, less)), tt)
  layer_deep n go (Rec of fields) less = all_deep n go fields (omega (arith, less))

  pub deep : (n : ℕ) (t : Term) → depth t ≤ n → HoldsBelow p n t
  deep zero t less =
      let is = fold_out-Term ℕ depth_layer t in let some = some_depth
      (map-Term Term ℕ depth (out-Term t)) in absurd (omega (arith, is, some, less))
  deep (suc n) t less =
      layer_deep n (λ u l. deep n u l) (out-Term t) (let is = fold_out-Term ℕ depth_layer t in
      omega (arith, is, less))

  -- a level below the parts
  pub below_parts : (n : ℕ) (t : Term) → 1 ≤ n → HoldsBelow p n t → AllHoldBelow p (n - 1)
      (parts_of t)
  below_parts zero t some is = absurd (omega (arith, some))
  below_parts (suc n) t some is =
      let same : n ≡ suc n - 1 = omega arith in
      subst (λ k. AllHoldBelow p k (parts_of t)) same is

  -- one of a list
  pub item_below : (n : ℕ) (ts : List Term) (i : ℕ) (d : Term) → i < length ts →
      AllHoldBelow p n ts → HoldsBelow p n (get_or ts i d)
  item_below n [] i d less is = absurd (omega (arith, less))
  item_below n (t ∷ ts) zero d less is = is.0
  item_below n (t ∷ ts) (suc i) d less is = item_below n ts i d (omega (arith, less)) is.1

-- a term within the limits is not deeper than the greatest depth
within_depth : (t : Term) → limit_of t ≡ None → depth t ≤ max_depth
within_depth t none = by (nat_lt max_nodes (nodes t)) (nat_lt max_depth (depth t)) refl none where
  by : (b c : Bool) → nat_lt max_depth (depth t) ≡ c →
      (if b then Some Nodes else if c then Some Depth else None) ≡ None → depth t ≤ max_depth
  by true c is h = cc
  by false true is h = cc
  by false false is h = ltb-false max_depth (depth t) is

pub deep_within : (p : Term → Bool) (n : ℕ) (t : Term) → max_depth ≡ n → limit_of t ≡ None →
    HoldsBelow p n t
deep_within p n t is none = deep p n t (subst (λ k. depth t ≤ k) is (within_depth t none))

pub all_levels : max_depth ≡ 512
unfolding max_depth
all_levels = refl

module _ (rule : Term → Option Term) where
  -- the parts of a normal term are normal
  all_still : (ts : List Term) → step_all rule ts ≡ Still → AllHoldBelow (is_normal rule) 0 ts
  all_still [] e = tt
  all_still (t ∷ ts) e =
      let first = inside (λ new. new ∷ ts) (step_of rule t) in
      let others = inside (λ news. t ∷ news) (step_all rule ts) in
      let both : else_step first others ≡ Still = sym (step_all-cons rule t ts) ∙ e in (
        ap is_still (part_still (λ new. new ∷ ts) (step_of rule t) (first_still first others both)),
        all_still ts (part_still (λ news. t ∷ news) (step_all rule ts)
            (next_still first others both)),
      )

  layer_still : (x : Term-F Term) → step_of rule (roll-Term x) ≡ Still → AllHoldBelow
      (is_normal rule) 0 (parts_in x)
  layer_still (Var i) e = tt
  layer_still (Lit x) e = tt
  layer_still (Apply op ts) e =
      all_still ts (part_still (ApplyTerm op) (step_all rule ts)
      (first_still (inside (ApplyTerm op) (step_all rule ts)) (replaced (rule (ApplyTerm op ts)))
      (sym (step_of-Apply rule op ts) ∙ ap (step_of rule) (sym (rolls-Apply op ts)) ∙ e)))
  layer_still (Make of ctor t) e = (
    ap is_still (part_still (MakeTerm of ctor) (step_of rule t)
        (first_still (inside (MakeTerm of ctor) (step_of rule t))
        (replaced (rule (MakeTerm of ctor t)))
        (sym (step_of-Make rule of ctor t) ∙ ap (step_of rule) (sym (rolls-Make of ctor t)) ∙ e))),
    tt,
  )
  layer_still (Rec of ts) e =
      all_still ts (part_still (RecTerm of) (step_all rule ts)
      (first_still (inside (RecTerm of) (step_all rule ts)) (replaced (rule (RecTerm of ts)))
      (sym (step_of-Rec rule of ts) ∙ ap (step_of rule) (sym (rolls-Rec of ts)) ∙ e)))

  pub normal_goes : IsHeritable (is_normal rule)
  normal_goes t e =
      layer_still (out-Term t) (ap (step_of rule) (roll-out-Term t) ∙ still_is (step_of rule t) e)

  -- a normal term stays
  pub normal_stays : (left : ℕ) (t : Term) → HoldsBelow (is_normal rule) 0 t →
      norm_from rule left t ≡ Done t left
  normal_stays left t e = stays rule left t (still_is (step_of rule t) e)

  -- so does a list of normal terms, and a term of normal parts
  all_stay : (left : ℕ) (ts : List Term) → AllHoldBelow (is_normal rule) 0 ts →
      norm_all rule left ts ≡ Done ts left
  all_stay left [] is = refl
  all_stay left (t ∷ ts) is =
      ap (λ r. and_go r (λ n more. and_go (norm_all rule more ts) (λ ns last. Done (n ∷ ns) last)))
      (normal_stays left t is.0)
      ∙ ap (λ r. and_go r (λ ns last. Done (t ∷ ns) last)) (all_stay left ts is.1)

  layer_stays : (left : ℕ) (x : Term-F Term) → AllHoldBelow (is_normal rule) 0 (parts_in x) →
      norm_parts rule left x ≡ Done (roll-Term x) left
  layer_stays left (Var i) is = refl
  layer_stays left (Lit x) is = refl
  layer_stays left (Apply op ts) is =
      ap (λ r. and_go r (λ ns more. Done (ApplyTerm op ns) more)) (all_stay left ts is)
      ∙ ap (λ t. Done t left) (sym (rolls-Apply op ts))
  layer_stays left (Make of ctor t) is =
      ap (λ r. and_go r (λ n more. Done (MakeTerm of ctor n) more)) (normal_stays left t is.0)
      ∙ ap (λ t. Done t left) (sym (rolls-Make of ctor t))
  layer_stays left (Rec of ts) is =
      ap (λ r. and_go r (λ ns more. Done (RecTerm of ns) more)) (all_stay left ts is)
      ∙ ap (λ t. Done t left) (sym (rolls-Rec of ts))

  pub parts_stay : (left : ℕ) (t : Term) → AllHoldBelow (is_normal rule) 0 (parts_of t) →
      norm_parts rule left (out-Term t) ≡ Done t left
  parts_stay left t is =
      layer_stays left (out-Term t) is ∙ ap (λ u. Done u left) (roll-out-Term t)

  -- what is normed is normal
  all_normal : (left : ℕ) (ts normal : List Term) (rest : ℕ) → norm_all rule left ts
      ≡ Done normal rest → AllHoldBelow (is_normal rule) 0 normal
  all_normal left [] normal rest e =
      let same : [] ≡ normal = cc in subst (λ us. AllHoldBelow (is_normal rule) 0 us) same tt
  all_normal left (t ∷ ts) normal rest e =
      by (λ more ns last h. all_normal more ts ns last h) (norm_from rule left t) refl e where
        behind : (n : Term) → is_normal rule n ≡ true → (s : Normed (List Term)) →
            ((ns : List Term) (last : ℕ) → s ≡ Done ns last → AllHoldBelow (is_normal rule) 0 ns) →
            and_go s (λ ns last. Done (n ∷ ns) last) ≡ Done normal rest → AllHoldBelow
            (is_normal rule) 0 normal
        behind n is (Done ns last) go h =
            let same : n ∷ ns ≡ normal = cc in subst (λ us. AllHoldBelow (is_normal rule) 0 us) same
            (is, go ns last refl)
        behind n is (Past limit) go h = cc

        by : ((more : ℕ) (ns : List Term) (last : ℕ) → norm_all rule more ts ≡ Done ns last →
            AllHoldBelow (is_normal rule) 0 ns) →
            (s : Normed Term) → norm_from rule left t ≡ s →
            and_go s (λ n more. and_go (norm_all rule more ts) (λ ns last. Done (n ∷ ns) last))
            ≡ Done normal rest → AllHoldBelow (is_normal rule) 0 normal
        by go (Done n more) is h =
            behind n (ap is_still (rests rule left more t n is)) (norm_all rule more ts) (go more) h
        by go (Past limit) is h = cc

  -- a term is of normal parts
  abbrev pub OfNormal : Term → Type 0
  OfNormal t = HoldsBelow (is_normal rule) 1 t

  of_args : (op : Op) (ts : List Term) → AllHoldBelow (is_normal rule) 0 ts → OfNormal
      (ApplyTerm op ts)
  of_args op ts is =
      subst (λ x. AllHoldBelow (is_normal rule) 0 (parts_in x)) (sym (outs-Apply op ts)) is

  of_fields : (of : ℕ) (ts : List Term) → AllHoldBelow (is_normal rule) 0 ts → OfNormal
      (RecTerm of ts)
  of_fields of ts is =
      subst (λ x. AllHoldBelow (is_normal rule) 0 (parts_in x)) (sym (outs-Rec of ts)) is

  of_inner : (of ctor : ℕ) (t : Term) → is_normal rule t ≡ true → OfNormal (MakeTerm of ctor t)
  of_inner of ctor t is =
      subst (λ x. AllHoldBelow (is_normal rule) 0 (parts_in x)) (sym (outs-Make of ctor t)) (is, tt)

  of_none : (x : Term-F Term) → AllHoldBelow (is_normal rule) 0 (parts_in x) → OfNormal
      (roll-Term x)
  of_none x is =
      subst (λ y. AllHoldBelow (is_normal rule) 0 (parts_in y)) (sym (out-roll-Term x)) is

  -- what is made of things that are done has normal parts where they make it so
  made_normal : {A : Type 0} (whole : A → Term) (r : Normed A) (n : Term) (rest : ℕ) →
      ((a : A) (more : ℕ) → r ≡ Done a more → OfNormal (whole a)) →
      and_go r (λ a more. Done (whole a) more) ≡ Done n rest → OfNormal n
  made_normal whole (Done a more) n rest of e =
      let same : whole a ≡ n = cc in subst OfNormal same (of a more refl)
  made_normal whole (Past limit) n rest of e = cc

  pub parts_normal : (left : ℕ) (x : Term-F Term) (n : Term) (rest : ℕ) → norm_parts rule left x
      ≡ Done n rest → OfNormal n
  parts_normal left (Var i) n rest e =
      let same : roll-Term (Var i) ≡ n = cc in subst OfNormal same (of_none (Var i) tt)
  parts_normal left (Lit x) n rest e =
      let same : roll-Term (Lit x) ≡ n = cc in subst OfNormal same (of_none (Lit x) tt)
  parts_normal left (Apply op ts) n rest e =
      made_normal (ApplyTerm op) (norm_all rule left ts) n rest
      (λ ns more is. of_args op ns (all_normal left ts ns more is)) e
  parts_normal left (Make of ctor t) n rest e =
      made_normal (MakeTerm of ctor) (norm_from rule left t) n rest
      (λ u more is. of_inner of ctor u (ap is_still (rests rule left more t u is))) e
  parts_normal left (Rec of ts) n rest e =
      made_normal (RecTerm of) (norm_all rule left ts) n rest (λ ns more is. of_fields of ns
      (all_normal left ts ns more is)) e

  pub right_normal : (left : ℕ) (right n : Term) (rest : ℕ) → right_parts rule left right
      ≡ Done n rest → OfNormal n
  right_normal zero right n rest e = cc
  right_normal (suc left) right n rest e = by (limit_of right) e where
    by : (l : Option Kind) → unless_past l (norm_parts rule left (out-Term right)) ≡ Done n rest →
        OfNormal n
    by None h = parts_normal left (out-Term right) n rest h
    by (Some limit) h = cc

-- the levels of a right side that are to be normed
pub right_levels : IsShallow rule_of → (vars : List Ty) (t right : Term) (n : ℕ) → rule_of vars t
    ≡ Some right → HoldsBelow (is_normal (rule_of vars)) 1 t →
    limit_of right ≡ None → n ≡ levels_of t → HoldsBelow (is_normal (rule_of vars)) n right
right_levels shallow vars t right n is parts none levels =
    subst (λ k. HoldsBelow (is_normal (rule_of vars)) k right) (sym levels)
    (by (equates_record t) refl) where
      by : (b : Bool) → equates_record t ≡ b → HoldsBelow (is_normal (rule_of vars))
          (if b then max_depth else new_levels t) right
      by true flat = deep_within (is_normal (rule_of vars)) max_depth right refl none
      by false flat =
          shallow vars (is_normal (rule_of vars)) (normal_goes (rule_of vars)) t right is flat parts
