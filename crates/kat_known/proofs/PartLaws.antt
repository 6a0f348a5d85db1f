-- Laws of folds that see each part whole, and induction over terms.
use Rattle.std.proofs.Common.{◌≡◌, ◌∙◌, ℕ, List, [], ◌∷◌, map, refl, ap, sym, subst}
use Rattle.kat_value.specs.declared.op.Op.{Op}
use Rattle.kat_value.specs.declared.value.Value.{Value}
use Rattle.kat_term.specs.declared.term.Term.{Term}
use Rattle.kat_term.specs.declared.term.Term.TheOpen.{Term-F, Var, Lit, Apply, Make, Rec}
use Rattle.kat_term.specs.declared.term.Term.TheViews.{roll-Term}
use Rattle.kat_term.specs.declared.term.Term.TheVariants.{Var as VarTerm, Lit as LitTerm, Apply as ApplyTerm, Make as MakeTerm, Rec as RecTerm, rolls-Var, rolls-Lit, rolls-Apply, rolls-Make, rolls-Rec}
use Rattle.kat_term.specs.declared.term.Term.TheFolds.{map-Term, fold-roll-Term, ind-Term}
use Rattle.kat_known.specs.Parts.{Part, part_of, part, found_of}

-- each of a list
abbrev pub Each : {A : Type 0} → (A → Type 0) → List A → Type 0
Each P [] = Unit {0}
Each P (x ∷ xs) = P x × Each P xs

-- what holds of each kind of term where it holds of its parts holds of each term
module _ (P : Term → Type 0) (at_var : (i : ℕ) → P (VarTerm i))
    (at_lit : (x : Value) → P (LitTerm x))
    (at_apply : (op : Op) (ts : List Term) → Each P ts → P (ApplyTerm op ts))
    (at_make : (of ctor : ℕ) (t : Term) → P t → P (MakeTerm of ctor t))
    (at_rec : (of : ℕ) (ts : List Term) → Each P ts → P (RecTerm of ts)) where
  each : (ts : List ((t : Term) × P t)) → Each P (map (λ e. e.0) ts)
  each [] = tt
  each (e ∷ ts) = (e.1, each ts)

  layer : (y : Term-F ((t : Term) × P t)) →
      P (roll-Term (map-Term ((t : Term) × P t) Term (λ e. e.0) y))
  layer (Var i) = subst P (sym (rolls-Var i)) (at_var i)
  layer (Lit x) = subst P (sym (rolls-Lit x)) (at_lit x)
  layer (Apply op ts) =
      subst P (sym (rolls-Apply op (map (λ e. e.0) ts))) (at_apply op (map (λ e. e.0) ts) (each ts))
  layer (Make of ctor e) = subst P (sym (rolls-Make of ctor e.0)) (at_make of ctor e.0 e.1)
  layer (Rec of ts) =
      subst P (sym (rolls-Rec of (map (λ e. e.0) ts))) (at_rec of (map (λ e. e.0) ts) (each ts))

  pub induct : (t : Term) → P t
  induct = ind-Term P (λ x y is. subst (λ z. P (roll-Term z)) is (layer y))

module _ {X : Type 0} (f : Term → Term-F (Part X) → X) where
  abbrev IsWhole : Term → Type 0
  IsWhole t = (part f t).whole ≡ t

  wholes_each : (ts : List Term) → Each IsWhole ts →
      map (λ (p : Part X). p.whole) (map (part f) ts) ≡ ts
  wholes_each [] all = refl
  wholes_each (t ∷ ts) all =
      let head : (part f t).whole ≡ t = all.0 in let tail = wholes_each ts all.1 in cc

  -- the part of a layer is made of the parts of its arguments
  part-roll : (x : Term-F Term) →
      part f (roll-Term x) ≡ part_of f (map-Term Term (Part X) (part f) x)
  part-roll x = fold-roll-Term (Part X) (part_of f) x

  pub part_whole : (t : Term) → (part f t).whole ≡ t
  part_whole = induct IsWhole
      (λ i. ap (λ u. (part f u).whole) (sym (rolls-Var i))
      ∙ ap (λ (p : Part X). p.whole) (part-roll (Var i)) ∙ rolls-Var i)
      (λ x. ap (λ u. (part f u).whole) (sym (rolls-Lit x))
      ∙ ap (λ (p : Part X). p.whole) (part-roll (Lit x)) ∙ rolls-Lit x)
      (λ op ts all. ap (λ u. (part f u).whole) (sym (rolls-Apply op ts))
      ∙ ap (λ (p : Part X). p.whole) (part-roll (Apply op ts))
      ∙ ap (λ us. roll-Term (Apply op us)) (wholes_each ts all) ∙ rolls-Apply op ts)
      (λ of ctor t is. ap (λ u. (part f u).whole) (sym (rolls-Make of ctor t))
      ∙ ap (λ (p : Part X). p.whole) (part-roll (Make of ctor t))
      ∙ ap (λ u. roll-Term (Make of ctor u)) is ∙ rolls-Make of ctor t)
      (λ of ts all. ap (λ u. (part f u).whole) (sym (rolls-Rec of ts))
      ∙ ap (λ (p : Part X). p.whole) (part-roll (Rec of ts))
      ∙ ap (λ us. roll-Term (Rec of us)) (wholes_each ts all) ∙ rolls-Rec of ts)

  pub parts_whole : (ts : List Term) → map (λ (p : Part X). p.whole) (map (part f) ts) ≡ ts
  parts_whole [] = refl
  parts_whole (t ∷ ts) = let head = part_whole t in let tail = parts_whole ts in cc

  -- what is found of each kind of term
  pub found-Var : (i : ℕ) → found_of f (VarTerm i) ≡ f (VarTerm i) (Var i)
  found-Var i =
      ap (found_of f) (sym (rolls-Var i)) ∙ ap (λ (p : Part X). p.found) (part-roll (Var i))
      ∙ ap (λ t. f t (Var i)) (rolls-Var i)

  pub found-Lit : (x : Value) → found_of f (LitTerm x) ≡ f (LitTerm x) (Lit x)
  found-Lit x =
      ap (found_of f) (sym (rolls-Lit x)) ∙ ap (λ (p : Part X). p.found) (part-roll (Lit x))
      ∙ ap (λ t. f t (Lit x)) (rolls-Lit x)

  pub found-Apply : (op : Op) (ts : List Term) →
      found_of f (ApplyTerm op ts) ≡ f (ApplyTerm op ts) (Apply op (map (part f) ts))
  found-Apply op ts =
      ap (found_of f) (sym (rolls-Apply op ts))
      ∙ ap (λ (p : Part X). p.found) (part-roll (Apply op ts))
      ∙ ap (λ us. f (roll-Term (Apply op us)) (Apply op (map (part f) ts))) (parts_whole ts)
      ∙ ap (λ t. f t (Apply op (map (part f) ts))) (rolls-Apply op ts)

  pub found-Make : (of ctor : ℕ) (t : Term) →
      found_of f (MakeTerm of ctor t) ≡ f (MakeTerm of ctor t) (Make of ctor (part f t))
  found-Make of ctor t =
      ap (found_of f) (sym (rolls-Make of ctor t))
      ∙ ap (λ (p : Part X). p.found) (part-roll (Make of ctor t))
      ∙ ap (λ u. f (roll-Term (Make of ctor u)) (Make of ctor (part f t))) (part_whole t)
      ∙ ap (λ u. f u (Make of ctor (part f t))) (rolls-Make of ctor t)

  pub found-Rec : (of : ℕ) (ts : List Term) →
      found_of f (RecTerm of ts) ≡ f (RecTerm of ts) (Rec of (map (part f) ts))
  found-Rec of ts =
      ap (found_of f) (sym (rolls-Rec of ts)) ∙ ap (λ (p : Part X). p.found) (part-roll (Rec of ts))
      ∙ ap (λ us. f (roll-Term (Rec of us)) (Rec of (map (part f) ts))) (parts_whole ts)
      ∙ ap (λ t. f t (Rec of (map (part f) ts))) (rolls-Rec of ts)
