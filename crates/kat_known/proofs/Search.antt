-- How far a search for a known atom has come.
use Rattle.std.proofs.Common.{◌≡◌, ◌∙◌, ℕ, zero, suc, ◌+◌, ◌++◌, ◌<◌, List, [], ◌∷◌, map, take, drop, length, slice_set, get_or, arith, Option, Some, None, refl, ap, sym, subst}
use Rattle.std.specs.Option.{option_map}
use Rattle.kat_term.specs.declared.term.Term.{Term}
use Rattle.kat_term.specs.declared.term.Term.TheOpen.{Term-F, Var, Lit, Apply, Make, Rec}
use Rattle.kat_term.specs.declared.term.Term.TheViews.{out-Term, roll-Term, roll-out-Term}
use Rattle.std.proofs.lemmas.List.{take-append-drop, take-set, drop-set}
use Rattle.std.proofs.Math.Seq.{drop-cons, take-suc}
use Rattle.kat_value.specs.declared.op.Op.{Op}
use Rattle.kat_term.specs.declared.term.Term.TheVariants.{Var as VarTerm, Lit as LitTerm, Apply as ApplyTerm, Make as MakeTerm, Rec as RecTerm, rolls-Var, rolls-Lit, rolls-Apply, rolls-Make, rolls-Rec}
use Rattle.kat_known.specs.Parts.{part}
use Rattle.kat_known.specs.Picked.{Picked, At, Behind, picked, Picks}
use Rattle.kat_known.specs.Reduce.{News, news_of, news_layer, news_in_all, news_within, here}
use Rattle.kat_known.proofs.PartLaws.{part_whole, parts_whole, found-Var, found-Lit, found-Apply, found-Make, found-Rec}

abbrev pub picked_map : {A B : Type 0} → (A → B) → Picked A → Picked B
picked_map f (At x) = At (f x)
picked_map f (Behind n) = Behind n

abbrev pub or_picked : {A : Type 0} → Picked A → (ℕ → Picked A) → Picked A
or_picked (At x) go = At x
or_picked (Behind n) go = go n

pub picked-append : {A : Type 0} (xs ys : List A) (n : ℕ) →
    picked (xs ++ ys) n ≡ or_picked (picked xs n) (picked ys)
picked-append [] ys n = refl
picked-append (x ∷ xs) ys zero = refl
picked-append (x ∷ xs) ys (suc n) = picked-append xs ys n

pub picked-map : {A B : Type 0} (f : A → B) (xs : List A) (n : ℕ) →
    picked (map f xs) n ≡ picked_map f (picked xs n)
picked-map f [] n = refl
picked-map f (x ∷ xs) zero = refl
picked-map f (x ∷ xs) (suc n) = picked-map f xs n

-- what is picked of a list is picked of its image
pub picks_map : {A B : Type 0} (f : A → B) (r : Option A) (rest : ℕ) (p : Picked A) (g : Option B) →
    Picks r rest p → g ≡ option_map f r → Picks g rest (picked_map f p)
picks_map {A} {B} f r rest p g is e =
    subst (λ o. Picks o rest (picked_map f p)) (sym e) (by r is) where
      by : (o : Option A) → Picks o rest p → Picks (option_map f o) rest (picked_map f p)
      by None h = ap (picked_map f) h
      by (Some x) h = ap (picked_map f) h

-- picking from the same
pub picks_as : {A : Type 0} (r : Option A) (rest : ℕ) (p q : Picked A) → Picks r rest p → q ≡ p →
    Picks r rest q
picks_as r rest p q is e = subst (Picks r rest) (sym e) is

module _ (known : Term → Option Term) where
  abbrev pub news_all : List Term → List (List Term)
  news_all ts = news_in_all (map (part (news_layer known)) ts)

  -- a search in a list looks into its first, and then into the others
  pub all-cons : (t : Term) (ts : List Term) (n : ℕ) →
      picked (news_all (t ∷ ts)) n ≡ or_picked
      (picked_map (λ new. new ∷ ts) (picked (news_of known t) n))
      (λ rest. picked_map (λ news. t ∷ news) (picked (news_all ts) rest))
  all-cons t ts n =
      ap (λ us. picked (map (λ new. new ∷ us) (news_of known t) ++ map
      (λ news. (part (news_layer known) t).whole ∷ news) (news_all ts)) n)
      (parts_whole (news_layer known) ts)
      ∙ ap (λ u. picked (map (λ new. new ∷ ts) (news_of known t) ++ map
      (λ news. u ∷ news) (news_all ts)) n) (part_whole (news_layer known) t)
      ∙ picked-append (map (λ new. new ∷ ts) (news_of known t))
      (map (λ news. t ∷ news) (news_all ts)) n
      ∙ ap (λ p. or_picked p (picked (map (λ news. t ∷ news) (news_all ts))))
      (picked-map (λ new. new ∷ ts) (news_of known t) n)
      ∙ by (picked_map (λ new. new ∷ ts) (picked (news_of known t) n)) where
        by : (p : Picked (List Term)) →
            or_picked p (picked (map (λ news. t ∷ news) (news_all ts)))
            ≡ or_picked p (λ rest. picked_map (λ news. t ∷ news) (picked (news_all ts) rest))
        by (At x) = refl
        by (Behind r) = picked-map (λ news. t ∷ news) (news_all ts) r

  -- what is to be found in the whole is to be found in the rest
  abbrev pub SoFar : List Term → ℕ → List Term → ℕ → List Term → Type 0
  SoFar whole all done skip rest =
      picked (news_all whole) all ≡ picked_map (λ news. done ++ news) (picked (news_all rest) skip)

  pub found_here : (whole done : List Term) (all skip : ℕ) (t new : Term) (ts : List Term) →
      SoFar whole all done skip (t ∷ ts) →
      picked (news_of known t) skip ≡ At new → picked (news_all whole) all ≡ At (done ++ (new ∷ ts))
  found_here whole done all skip t new ts so is =
      so ∙ ap (picked_map (λ news. done ++ news))
      (all-cons t ts skip ∙ ap (λ p. or_picked (picked_map (λ new. new ∷ ts) p)
      (λ rest. picked_map (λ news. t ∷ news) (picked (news_all ts) rest))) is)

  pub goes_on : (whole done : List Term) (all skip rest : ℕ) (t : Term) (ts : List Term) →
      SoFar whole all done skip (t ∷ ts) →
      picked (news_of known t) skip ≡ Behind rest → SoFar whole all (done ++ (t ∷ [])) rest ts
  goes_on whole done all skip rest t ts so is =
      so ∙ ap (picked_map (λ news. done ++ news))
      (all-cons t ts skip ∙ ap (λ p. or_picked (picked_map (λ new. new ∷ ts) p)
      (λ rest. picked_map (λ news. t ∷ news) (picked (news_all ts) rest))) is)
      ∙ by (picked (news_all ts) rest) where
        more : (d news : List Term) → d ++ (t ∷ news) ≡ (d ++ (t ∷ [])) ++ news
        more [] news = refl
        more (x ∷ d) news = ap (λ us. x ∷ us) (more d news)

        by : (p : Picked (List Term)) →
            picked_map (λ news. done ++ news) (picked_map (λ news. t ∷ news) p)
            ≡ picked_map (λ news. (done ++ (t ∷ [])) ++ news) p
        by (At news) = ap At (more done news)
        by (Behind r) = refl

  set_here : (ts : List Term) (i : ℕ) (new : Term) → i < length ts →
      take i ts ++ (new ∷ drop (i + 1) ts) ≡ slice_set ts i new
  set_here ts i new less =
      ap (λ us. us ++ (new ∷ drop (i + 1) ts)) (sym (take-set ts i new))
      ∙ ap (λ us. take i (slice_set ts i new) ++ us) (sym (drop-set ts i new less))
      ∙ take-append-drop i (slice_set ts i new)

  drop_here : (ts : List Term) (i : ℕ) (t : Term) → i < length ts → t ≡ get_or ts i t →
      drop i ts ≡ t ∷ drop (i + 1) ts
  drop_here ts i t less is =
      drop-cons ts i t less ∙ ap (λ u. u ∷ drop (suc i) ts) (sym is)
      ∙ ap (λ k. t ∷ drop k ts) (let e : suc i ≡ i + 1 = omega arith in e)

  take_here : (ts : List Term) (i : ℕ) (t : Term) → i < length ts → t ≡ get_or ts i t →
      take i ts ++ (t ∷ []) ≡ take (i + 1) ts
  take_here ts i t less is =
      ap (λ u. take i ts ++ (u ∷ [])) is ∙ sym (take-suc ts i t less)
      ∙ ap (λ k. take k ts) (let e : suc i ≡ i + 1 = omega arith in e)

  pub found_at : (whole : List Term) (i all skip : ℕ) (t new : Term) → i < length whole →
      t ≡ get_or whole i t → SoFar whole all (take i whole) skip (drop i whole) →
      picked (news_of known t) skip ≡ At new →
      picked (news_all whole) all ≡ At (slice_set whole i new)
  found_at whole i all skip t new less is so found =
      found_here whole (take i whole) all skip t new (drop (i + 1) whole)
      (so ∙ ap (λ ts. picked_map (λ news. take i whole ++ news) (picked (news_all ts) skip))
      (drop_here whole i t less is)) found
      ∙ ap At (set_here whole i new less)

  pub goes_at : (whole : List Term) (i all skip rest : ℕ) (t : Term) → i < length whole →
      t ≡ get_or whole i t → SoFar whole all (take i whole) skip (drop i whole) →
      picked (news_of known t) skip ≡ Behind rest →
      SoFar whole all (take (i + 1) whole) rest (drop (i + 1) whole)
  goes_at whole i all skip rest t less is so found =
      goes_on whole (take i whole) all skip rest t (drop (i + 1) whole)
      (so ∙ ap (λ ts. picked_map (λ news. take i whole ++ news) (picked (news_all ts) skip))
      (drop_here whole i t less is)) found
      ∙ ap (λ done. picked_map (λ news. done ++ news) (picked (news_all (drop (i + 1) whole)) rest))
      (take_here whole i t less is)

  pub picks_some : {A : Type 0} (r : Option A) (rest : ℕ) (p : Picked A) (new : A) →
      Picks r rest p → r ≡ Some new → p ≡ At new
  picks_some None rest p new is e = cc
  picks_some (Some x) rest p new is e = let same : x ≡ new = cc in is ∙ ap At same

  pub picks_none : {A : Type 0} (r : Option A) (rest : ℕ) (p : Picked A) → Picks r rest p →
      r ≡ None → p ≡ Behind rest
  picks_none None rest p is e = is
  picks_none (Some x) rest p is e = cc

  -- a search in a term looks at the term itself and then into it
  pub at_term : (t : Term) (all : ℕ) (new : Term) → picked (here (known t)) all ≡ At new →
      picked (news_of known t) all ≡ At new
  at_term t all new is = by (out-Term t) (roll-out-Term t) where
    head : (u : Term) (layer : Term-F News) → news_of known u ≡ news_layer known u layer → u ≡ t →
        picked (news_of known t) all ≡ At new
    head u layer e same =
        ap (λ s. picked (news_of known s) all) (sym same) ∙ ap (λ news. picked news all) e
        ∙ picked-append (here (known u)) (news_within layer) all
        ∙ ap (λ p. or_picked p (picked (news_within layer)))
        (ap (λ s. picked (here (known s)) all) same ∙ is)

    by : (x : Term-F Term) → roll-Term x ≡ t → picked (news_of known t) all ≡ At new
    by (Var i) e = head (VarTerm i) (Var i) (found-Var (news_layer known) i) (sym (rolls-Var i) ∙ e)
    by (Lit x) e = head (LitTerm x) (Lit x) (found-Lit (news_layer known) x) (sym (rolls-Lit x) ∙ e)
    by (Apply op args) e =
        head (ApplyTerm op args) (Apply op (map (part (news_layer known)) args))
        (found-Apply (news_layer known) op args) (sym (rolls-Apply op args) ∙ e)
    by (Make of ctor inner) e =
        head (MakeTerm of ctor inner) (Make of ctor (part (news_layer known) inner))
        (found-Make (news_layer known) of ctor inner) (sym (rolls-Make of ctor inner) ∙ e)
    by (Rec of fields) e =
        head (RecTerm of fields) (Rec of (map (part (news_layer known)) fields))
        (found-Rec (news_layer known) of fields) (sym (rolls-Rec of fields) ∙ e)

  within_layer : (t u : Term) (layer : Term-F News) (all skip : ℕ) → t ≡ u →
      news_of known u ≡ news_layer known u layer →
      picked (here (known t)) all ≡ Behind skip →
      picked (news_of known t) all ≡ picked (news_within layer) skip
  within_layer t u layer all skip is by_parts left =
      ap (λ s. picked (news_of known s) all) is ∙ ap (λ news. picked news all) by_parts
      ∙ picked-append (here (known u)) (news_within layer) all
      ∙ ap (λ p. or_picked p (picked (news_within layer)))
      (ap (λ s. picked (here (known s)) all) (sym is) ∙ left)

  pub within_apply : (t : Term) (op : Op) (ts : List Term) (all skip : ℕ) → t ≡ ApplyTerm op ts →
      picked (here (known t)) all ≡ Behind skip →
      picked (news_of known t) all ≡ picked_map (ApplyTerm op) (picked (news_all ts) skip)
  within_apply t op ts all skip is left =
      within_layer t (ApplyTerm op ts) (Apply op (map (part (news_layer known)) ts)) all skip is
      (found-Apply (news_layer known) op ts) left
      ∙ picked-map (ApplyTerm op) (news_all ts) skip

  pub within_make : (t : Term) (of ctor : ℕ) (u : Term) (all skip : ℕ) → t ≡ MakeTerm of ctor u →
      picked (here (known t)) all ≡ Behind skip →
      picked (news_of known t) all ≡ picked_map (MakeTerm of ctor) (picked (news_of known u) skip)
  within_make t of ctor u all skip is left =
      within_layer t (MakeTerm of ctor u) (Make of ctor (part (news_layer known) u)) all skip is
      (found-Make (news_layer known) of ctor u) left
      ∙ picked-map (MakeTerm of ctor) (news_of known u) skip

  pub within_rec : (t : Term) (of : ℕ) (ts : List Term) (all skip : ℕ) → t ≡ RecTerm of ts →
      picked (here (known t)) all ≡ Behind skip →
      picked (news_of known t) all ≡ picked_map (RecTerm of) (picked (news_all ts) skip)
  within_rec t of ts all skip is left =
      within_layer t (RecTerm of ts) (Rec of (map (part (news_layer known)) ts)) all skip is
      (found-Rec (news_layer known) of ts) left
      ∙ picked-map (RecTerm of) (news_all ts) skip
