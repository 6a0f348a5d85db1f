-- Steps of the code that looks for a part of a term.
use Rattle.std.proofs.Common.{◌≡◌, ◌∙◌, Bool, true, false, Option, Some, None, Result, refl, ap, sym, subst, if◌then◌else◌}
use Rattle.std.specs.Prelude.{IfOk}
use Rattle.std.specs.Option.{option_or}
use Rattle.kat_term.specs.declared.term.Term.{Term}
use Rattle.kat_term.specs.declared.term.Term.TheOpen.{Term-F, Var, Lit, Apply, Make, Rec}
use Rattle.kat_term.specs.declared.term.Term.TheViews.{out-Term, roll-Term, roll-out-Term}
use Rattle.kat_term.specs.declared.term.Term.TheVariants.{Var as VarTerm, Lit as LitTerm, Apply as ApplyTerm, Make as MakeTerm, Rec as RecTerm, rolls-Var, rolls-Lit, rolls-Apply, rolls-Make, rolls-Rec}
use Rattle.kat_known.specs.First.{first_where, first_among, itself_or, FoundByParts}

module _ (test : Term → Bool) (parts : FoundByParts test) where
  first_there : (b : Bool) (u : Term) (o : Option Term) → b ≡ true →
      option_or (if b then Some u else None) o ≡ Some u
  first_there true u o e = refl
  first_there false u o e = cc

  none_there : (b : Bool) (u : Term) (o : Option Term) → b ≡ false →
      option_or (if b then Some u else None) o ≡ o
  none_there true u o e = cc
  none_there false u o e = refl

  -- the term itself, where it is what is looked for
  pub itself : (t copy : Term) (b : Bool) → copy ≡ t → b ≡ test t → b ≡ true →
      Some copy ≡ first_where test t
  itself t copy b same is e = ap Some same ∙ sym (by (out-Term t) (roll-out-Term t)) where
    at : (u : Term) (o : Option Term) → first_where test u ≡ itself_or test u o → u ≡ t →
        first_where test t ≡ Some t
    at u o found alike =
        ap (first_where test) (sym alike) ∙ found
        ∙ first_there (test u) u o (ap test alike ∙ sym is ∙ e) ∙ ap Some alike

    by : (x : Term-F Term) → roll-Term x ≡ t → first_where test t ≡ Some t
    by (Var i) alike = at (VarTerm i) None (parts.variable i) (sym (rolls-Var i) ∙ alike)
    by (Lit x) alike = at (LitTerm x) None (parts.literal x) (sym (rolls-Lit x) ∙ alike)
    by (Apply op ts) alike = at (ApplyTerm op ts) (first_among test ts) (parts.application op ts)
        (sym (rolls-Apply op ts) ∙ alike)
    by (Make of ctor u) alike = at (MakeTerm of ctor u) (first_where test u)
        (parts.making of ctor u) (sym (rolls-Make of ctor u) ∙ alike)
    by (Rec of ts) alike = at (RecTerm of ts) (first_among test ts) (parts.fields of ts)
        (sym (rolls-Rec of ts) ∙ alike)

  -- else what is found within it
  pub within : {E : Type 0} (r : Result (Option Term) E) (t u : Term) (b : Bool) (o : Option Term) →
      first_where test u ≡ itself_or test u o → t ≡ u →
      b ≡ test t → b ≡ false → IfOk r (λ found. found ≡ o) →
      IfOk r (λ found. found ≡ first_where test t)
  within r t u b o found same is e =
      subst (λ p. IfOk r (λ f. f ≡ p))
      (sym (ap (first_where test) same ∙ found
      ∙ none_there (test u) u o (ap test (sym same) ∙ sym is ∙ e)))
