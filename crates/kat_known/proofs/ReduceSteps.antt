-- How far a term is reduced.
use Rattle.std.proofs.Common.{◌≡◌, ◌∙◌, ℕ, zero, suc, ◌+◌, ◌-◌, ◌<◌, ◌≤◌, List, [], ◌∷◌, drop, Option, Some, None, refl, ap, sym, subst, arith}
use Rattle.kat_term.specs.declared.term.Term.{Term}
use Rattle.kat_known.specs.Picked.{At, Behind, picked, Follows}
use Rattle.kat_known.specs.Reduce.{max_replacements, news_of, on_normed, reduced_from, reduced, strictly_from, reduced_strictly}

drop_behind : {A : Type 0} (xs : List A) (n rest : ℕ) → picked xs n ≡ Behind rest → drop n xs ≡ []
drop_behind [] zero rest e = refl
drop_behind [] (suc n) rest e = refl
drop_behind (x ∷ xs) zero rest e = cc
drop_behind (x ∷ xs) (suc n) rest e = drop_behind xs n rest e

drop_at : {A : Type 0} (xs : List A) (n : ℕ) (x : A) → picked xs n ≡ At x →
    drop n xs ≡ x ∷ drop (suc n) xs
drop_at [] n x e = cc
drop_at (y ∷ ys) zero x e = let same : y ≡ x = cc in ap (λ z. z ∷ ys) same
drop_at (y ∷ ys) (suc n) x e = drop_at ys n x e

pub all_replacements : 65536 ≡ max_replacements
unfolding max_replacements
all_replacements = refl

module _ (known norm : Term → Option Term) where
  -- what is to come of the term is to come of the current one, behind the places on which norm passed a limit
  pub record SoFar (term : Term) (left : ℕ) (current : Term) (passed : ℕ) : Type 0 where
    pub comes : reduced known norm term
        ≡ reduced_from known norm left current (drop passed (news_of known current))
    pub within : passed + left ≤ 65536

  pub begins : (term : Term) → SoFar term 65536 term 0
  begins term =
      record {
        comes = ap (λ n. reduced_from known norm n term (news_of known term))
            (sym all_replacements);
        within = omega arith;
      }

  none_left : (left : ℕ) (t : Term) (news : List Term) → left ≡ 0 →
      reduced_from known norm left t news ≡ t
  none_left zero t news e = refl
  none_left (suc left) t news e = let no : ⊥ = omega (arith, e) in absurd no

  pub ends : (term : Term) (left : ℕ) (current : Term) (passed : ℕ) →
      SoFar term left current passed → left ≡ 0 → current ≡ reduced known norm term
  ends term left current passed so e =
      sym (so.comes ∙ none_left left current (drop passed (news_of known current)) e)

  nothing : (left : ℕ) (t : Term) → reduced_from known norm left t [] ≡ t
  nothing zero t = refl
  nothing (suc left) t = refl

  pub rests : (term : Term) (left : ℕ) (current : Term) (passed rest : ℕ) →
      SoFar term left current passed → picked (news_of known current) passed ≡ Behind rest →
      current ≡ reduced known norm term
  rests term left current passed rest so none =
      sym (so.comes ∙ ap (reduced_from known norm left current)
      (drop_behind (news_of known current) passed rest none) ∙ nothing left current)

  one_step : (left : ℕ) (current new : Term) (news : List Term) → 0 < left →
      reduced_from known norm left current (new ∷ news)
      ≡ on_normed (norm new) (λ normal. reduced_from known norm (left - 1) normal
      (news_of known normal)) (reduced_from known norm (left - 1) current news)
  one_step zero current new news less = let no : ⊥ = omega (arith, less) in absurd no
  one_step (suc left) current new news less =
      ap (λ k. on_normed (norm new) (λ normal. reduced_from known norm k normal
      (news_of known normal)) (reduced_from known norm k current news))
      (let e : left ≡ suc left - 1 = omega arith in e)

  pub goes_on : (term : Term) (left : ℕ) (current new normal : Term) (passed : ℕ) →
      SoFar term left current passed → 0 < left →
      picked (news_of known current) passed ≡ At new → norm new ≡ Some normal →
      SoFar term (left - 1) normal 0
  goes_on term left current new normal passed so less at is = record {
    comes =
        so.comes ∙ ap (reduced_from known norm left current)
        (drop_at (news_of known current) passed new at)
        ∙ one_step left current new (drop (suc passed) (news_of known current)) less
        ∙ ap (λ o. on_normed o (λ normal. reduced_from known norm (left - 1) normal
        (news_of known normal)) (reduced_from known norm (left - 1) current
        (drop (suc passed) (news_of known current)))) is;
    within = let w = so.within in omega (arith, w);
  }

  pub passes : (term : Term) (left : ℕ) (current new : Term) (passed : ℕ) →
      SoFar term left current passed → 0 < left →
      picked (news_of known current) passed ≡ At new → norm new ≡ None →
      SoFar term (left - 1) current (passed + 1)
  passes term left current new passed so less at is = record {
    comes =
        so.comes ∙ ap (reduced_from known norm left current)
        (drop_at (news_of known current) passed new at)
        ∙ one_step left current new (drop (suc passed) (news_of known current)) less
        ∙ ap (λ o. on_normed o (λ normal. reduced_from known norm (left - 1) normal
        (news_of known normal)) (reduced_from known norm (left - 1) current
        (drop (suc passed) (news_of known current)))) is
        ∙ ap (λ k. reduced_from known norm (left - 1) current (drop k (news_of known current)))
        (let e : suc passed ≡ passed + 1 = omega arith in e);
    within = let w = so.within in omega (arith, w, less);
  }

  -- and so what comes next
  pub next_so_far : (term : Term) (left : ℕ) (current new next : Term) (passed more : ℕ) →
      SoFar term left current passed → 0 < left →
      picked (news_of known current) passed ≡ At new → Follows (norm new) current next passed more →
      SoFar term (left - 1) next more
  next_so_far term left current new next passed more so less at is = by (norm new) refl is where
    by : (o : Option Term) → norm new ≡ o → Follows o current next passed more →
        SoFar term (left - 1) next more
    by None e c =
        subst (λ u. SoFar term (left - 1) u more) (sym c.0)
        (subst (SoFar term (left - 1) current) (sym c.1)
        (passes term left current new passed so less at e))
    by (Some normal) e c =
        subst (λ u. SoFar term (left - 1) u more) (sym c.0)
        (subst (SoFar term (left - 1) normal) (sym c.1)
        (goes_on term left current new normal passed so less at e))

  -- the same where a limit ends it: there every place is looked at from the first
  pub record StrictSoFar (term : Term) (left : ℕ) (current : Term) : Type 0 where
    pub comes : reduced_strictly known norm term
        ≡ strictly_from known norm left current (news_of known current)

  pub strict_begins : (term : Term) → StrictSoFar term 65536 term
  strict_begins term =
      record {
        comes = ap (λ n. strictly_from known norm n term (news_of known term))
            (sym all_replacements);
      }

  strict_step : (left : ℕ) (current new : Term) (news : List Term) → 0 < left →
      strictly_from known norm left current (new ∷ news)
      ≡ on_normed (norm new) (λ normal. strictly_from known norm (left - 1) normal
      (news_of known normal)) None
  strict_step zero current new news less = let no : ⊥ = omega (arith, less) in absurd no
  strict_step (suc left) current new news less =
      ap (λ k. on_normed (norm new) (λ normal. strictly_from known norm k normal
      (news_of known normal)) None) (let e : left ≡ suc left - 1 = omega arith in e)

  strictly : (term : Term) (left : ℕ) (current new : Term) → StrictSoFar term left current →
      0 < left → picked (news_of known current) 0 ≡ At new →
      reduced_strictly known norm term
      ≡ on_normed (norm new) (λ normal. strictly_from known norm (left - 1) normal
      (news_of known normal)) None
  strictly term left current new so less at =
      so.comes ∙ ap (strictly_from known norm left current)
      (drop_at (news_of known current) 0 new at)
      ∙ strict_step left current new (drop 1 (news_of known current)) less

  pub strict_goes_on : (term : Term) (left : ℕ) (current new normal : Term) →
      StrictSoFar term left current → 0 < left →
      picked (news_of known current) 0 ≡ At new → Some normal ≡ norm new →
      StrictSoFar term (left - 1) normal
  strict_goes_on term left current new normal so less at is = record {
    comes = strictly term left current new so less at
        ∙ ap (λ o. on_normed o (λ normal. strictly_from known norm (left - 1) normal
        (news_of known normal)) None) (sym is);
  }

  pub strict_fails : (term : Term) (left : ℕ) (current new : Term) → StrictSoFar term left current →
      0 < left →
      picked (news_of known current) 0 ≡ At new → None ≡ norm new →
      None ≡ reduced_strictly known norm term
  strict_fails term left current new so less at is =
      sym (strictly term left current new so less at
      ∙ ap (λ o. on_normed o (λ normal. strictly_from known norm (left - 1) normal
      (news_of known normal)) None) (sym is))
