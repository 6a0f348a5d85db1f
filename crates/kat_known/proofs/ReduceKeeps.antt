-- Reducing keeps what replacing an atom and norming keep.
use Rattle.std.proofs.Common.{◌≡◌, ℕ, zero, suc, List, [], ◌∷◌, ◌++◌, map, Option, Some, None, refl, sym, subst}
use Rattle.kat_term.specs.declared.term.Term.{Term}
use Rattle.kat_term.specs.declared.term.Term.TheOpen.{Term-F, Var, Lit, Apply, Make, Rec}
use Rattle.kat_term.specs.declared.term.Term.TheVariants.{Var as VarTerm, Lit as LitTerm, Apply as ApplyTerm, Make as MakeTerm, Rec as RecTerm}
use Rattle.kat_known.specs.Parts.{part}
use Rattle.kat_known.specs.Reduce.{max_replacements, News, wholes, news_in_all, here, news_within, news_layer, news_of, on_normed, reduced_from, reduced, strictly_from, reduced_strictly}
use Rattle.kat_known.proofs.PartLaws.{Each, induct, part_whole, parts_whole, found-Var, found-Lit, found-Apply, found-Make, found-Rec}
use Rattle.kat_known.proofs.Relations.{AllKept, Keeping, Keeps}

each_append : {A : Type 0} (P : A → Type 0) (xs ys : List A) → Each P xs → Each P ys →
    Each P (xs ++ ys)
each_append P [] ys first second = second
each_append P (x ∷ xs) ys first second = (first.0, each_append P xs ys first.1 second)

each_map : {A B : Type 0} (P : A → Type 0) (Q : B → Type 0) (f : A → B) (xs : List A) →
    ((x : A) → P x → Q (f x)) → Each P xs → Each Q (map f xs)
each_map P Q f [] step all = tt
each_map P Q f (x ∷ xs) step all = (step x all.0, each_map P Q f xs step all.1)

module _ (K : Term → Term → Type 0) (keeping : Keeping K) (known : Term → Option Term)
    (known_keeps : Keeps K known) where
  abbrev place : Term → News
  place = part (news_layer known)

  abbrev AreKept : Term → Type 0
  AreKept t = Each (K t) (news_of known t)

  all_itself : (ts : List Term) → AllKept K ts ts
  all_itself [] = tt
  all_itself (t ∷ ts) = (keeping.itself t, all_itself ts)

  in_all : (ts : List Term) → Each AreKept ts → Each (AllKept K ts) (news_in_all (map place ts))
  in_all [] all = tt
  in_all (t ∷ ts) all =
      each_append (AllKept K (t ∷ ts))
      (map (λ new. new ∷ wholes (map place ts)) (news_of known t)) _
      (each_map (K t) (AllKept K (t ∷ ts)) (λ new. new ∷ wholes (map place ts)) (news_of known t)
      (λ new kept. (
        kept,
        subst (AllKept K ts) (sym (parts_whole (news_layer known) ts))
            (all_itself ts),
      )) all.0)
      (each_map (AllKept K ts) (AllKept K (t ∷ ts))
      (λ news. (place t).whole ∷ news) (news_in_all (map place ts))
      (λ news kept. (subst (K t) (sym (part_whole (news_layer known) t)) (keeping.itself t), kept))
      (in_all ts all.1))

  here_kept : (t : Term) → Each (K t) (here (known t))
  here_kept t = by (known t) refl where
    by : (o : Option Term) → known t ≡ o → Each (K t) (here o)
    by None is = tt
    by (Some new) is = (known_keeps t new is, tt)

  at_layer : (t : Term) (layer : Term-F News) → news_of known t ≡ news_layer known t layer →
      Each (K t) (news_within layer) → AreKept t
  at_layer t layer is within =
      subst (Each (K t)) (sym is) (each_append (K t) (here (known t)) (news_within layer)
      (here_kept t) within)

  -- what one replacement can make of a term keeps it
  news_kept : (t : Term) → AreKept t
  news_kept = induct AreKept
      (λ i. at_layer (VarTerm i) (Var i) (found-Var (news_layer known) i) tt)
      (λ x. at_layer (LitTerm x) (Lit x) (found-Lit (news_layer known) x) tt)
      (λ op ts all. at_layer (ApplyTerm op ts) (Apply op (map place ts))
      (found-Apply (news_layer known) op ts)
      (each_map (AllKept K ts) (K (ApplyTerm op ts)) (ApplyTerm op) (news_in_all (map place ts))
      (λ news kept. keeping.within op ts news kept) (in_all ts all)))
      (λ of ctor t is. at_layer (MakeTerm of ctor t) (Make of ctor (place t))
      (found-Make (news_layer known) of ctor t)
      (each_map (K t) (K (MakeTerm of ctor t)) (MakeTerm of ctor) (news_of known t)
      (λ new kept. keeping.made of ctor t new kept) is))
      (λ of ts all. at_layer (RecTerm of ts) (Rec of (map place ts))
      (found-Rec (news_layer known) of ts)
      (each_map (AllKept K ts) (K (RecTerm of ts)) (RecTerm of) (news_in_all (map place ts))
      (λ news kept. keeping.fields of ts news kept) (in_all ts all)))

  module _ (norm : Term → Option Term) (norm_keeps : Keeps K norm) where
    from_kept : (left : ℕ) (t : Term) (news : List Term) → Each (K t) news →
        K t (reduced_from known norm left t news)
    from_kept zero t news each = keeping.itself t
    from_kept (suc left) t [] each = keeping.itself t
    from_kept (suc left) t (new ∷ news) each =
        by (λ normal. from_kept left normal (news_of known normal) (news_kept normal))
        (from_kept left t news each.1) (norm new) refl where
          by : ((normal : Term) → K normal
              (reduced_from known norm left normal (news_of known normal))) →
              K t (reduced_from known norm left t news) →
              (o : Option Term) → norm new ≡ o →
              K t (on_normed o (λ normal. reduced_from known norm left normal
              (news_of known normal)) (reduced_from known norm left t news))
          by go next None is = next
          by go next (Some normal) is =
              keeping.onward t new (reduced_from known norm left normal (news_of known normal))
              each.0
              (keeping.onward new normal (reduced_from known norm left normal
              (news_of known normal)) (norm_keeps new normal is) (go normal))

    pub reduced_kept : (t : Term) → K t (reduced known norm t)
    reduced_kept t = from_kept max_replacements t (news_of known t) (news_kept t)

    strictly_kept : (left : ℕ) (t : Term) (news : List Term) → Each (K t) news → (r : Term) →
        strictly_from known norm left t news ≡ Some r → K t r
    strictly_kept zero t news each r e =
        let same : t ≡ r = cc in subst (K t) same (keeping.itself t)
    strictly_kept (suc left) t [] each r e =
        let same : t ≡ r = cc in subst (K t) same (keeping.itself t)
    strictly_kept (suc left) t (new ∷ news) each r e =
        by (λ normal h. strictly_kept left normal (news_of known normal) (news_kept normal) r h)
        (norm new) refl e where
          by : ((normal : Term) → strictly_from known norm left normal (news_of known normal)
              ≡ Some r → K normal r) →
              (o : Option Term) → norm new ≡ o →
              on_normed o (λ normal. strictly_from known norm left normal (news_of known normal))
              None ≡ Some r → K t r
          by go None is h = cc
          by go (Some normal) is h =
              keeping.onward t new r each.0 (keeping.onward new normal r (norm_keeps new normal is)
              (go normal h))

    pub reduced_strictly_kept : Keeps K (reduced_strictly known norm)
    reduced_strictly_kept t r e =
        strictly_kept max_replacements t (news_of known t) (news_kept t) r e
