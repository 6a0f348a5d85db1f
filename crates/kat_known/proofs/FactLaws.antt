-- What a true formula tells of a number holds.
use Rattle.std.proofs.Common.{◌≡◌, ◌∙◌, inl, inr, ℕ, ◌<◌, ◌≤◌, Bool, true, false, List, Option, Some, refl, ap, sym, subst, nat_lt, nat_le}
use Rattle.std.specs.Prelude.{not}
use Rattle.std.proofs.lemmas.Bool.{true≢false, eqb-true, ltb-true, leb-true}
use Rattle.kat_value.specs.declared.op.Op.TheVariants.{Not, Eq, Ult, Ule}
use Rattle.kat_value.specs.declared.op.Op.{Op}
use Rattle.kat_value.specs.declared.types.Ty.TheVariants as ty
use Rattle.kat_value.specs.declared.types.TypeDecl.{TypeDecl}
use Rattle.kat_value.specs.declared.value.Value.{Value, out-Value, out-roll-Value}
use Rattle.kat_value.specs.declared.value.Value.TheOpen.{Bits as BitsLayer}
use Rattle.kat_value.specs.declared.value.Value.TheVariants.{Bool as Truth, Bits, rolls-Bits}
use Rattle.kat_value.specs.Equality.{value_eq}
use Rattle.kat_value.specs.Signatures.{same_type}
use Rattle.kat_term.specs.declared.term.Term.{Term}
use Rattle.kat_term.specs.Equality.{term_eq}
use Rattle.kat_value.specs.Shown.{type_of_layer, type_of_value, one_type}
use Rattle.kat_term.specs.Values.{Valuation, value_of}
use Rattle.kat_term.specs.Views.{one, two, bits}
use Rattle.kat_term.specs.Worlds.{IsTrueUnder}
use Rattle.kat_rules.specs.Values.{AreCompared}
use Rattle.kat_known.specs.Views.{with_two, with_number, where_so}
use Rattle.kat_known.specs.declared.facts.Fact.{Fact}
use Rattle.kat_known.specs.declared.facts.Fact.TheVariants.{Above, AtLeast, Below, AtMost, Exactly, Differs}
use Rattle.kat_known.specs.Bounds.{told_by_order, told_by_equation, told_by_negation, fact_of}
use Rattle.kat_known.proofs.LawsBelow.{LawsBelow}
use Rattle.kat_known.proofs.ViewLaws.{with_one_there, with_two_there, with_number_there, either_there, so_there}

-- what is told of a number
abbrev pub Holds : Fact → ℕ → Type 0
Holds (Above k) n = k < n
Holds (Below k) n = n < k
Holds (AtLeast k) n = k ≤ n
Holds (AtMost k) n = n ≤ k
Holds (Exactly k) n = n ≡ k
Holds (Differs k) n = n ≡ k → ⊥

pub numbers_alike : (o : Option Value) (w m u n : ℕ) → o ≡ Some (Bits w m) → o ≡ Some (Bits u n) →
    (w ≡ u) × (m ≡ n)
numbers_alike o w m u n first second =
    let same : Some (Bits w m) ≡ Some (Bits u n) = sym first ∙ second in (cc, cc)

pub truths_alike : (p q : Bool) → Truth p ≡ Truth q → p ≡ q
truths_alike p q e = cc

-- numbers that show one type are of one width
pub shown-Bits : (w n : ℕ) → type_of_value (Bits w n) ≡ ty.Bits w
shown-Bits w n =
    ap type_of_layer (ap out-Value (sym (rolls-Bits w n)) ∙ out-roll-Value (BitsLayer w n))

pub widths_alike : (w m u n : ℕ) → one_type (Bits w m) (Bits u n) ≡ true → w ≡ u
widths_alike w m u n e =
    eqb-true w u (sym (ap (λ t. same_type t (type_of_value (Bits u n))) (shown-Bits w m)
    ∙ ap (same_type (ty.Bits w)) (shown-Bits u n)) ∙ e)

module _ (laws : LawsBelow) (types : List TypeDecl) (v : Valuation) where
  pub value_at : (a b : Term) (o : Option Value) → a ≡ b → value_of types v b ≡ o →
      value_of types v a ≡ o
  value_at a b o is h = ap (value_of types v) is ∙ h

  -- the number of a literal
  pub literal_number : (a : Term) (u k w n : ℕ) → a ≡ bits u k →
      value_of types v a ≡ Some (Bits w n) → (w ≡ u) × (n ≡ k)
  literal_number a u k w n is h =
      let same : Bits w n ≡ Bits u k =
      (laws.meanings types v).literal u k (Bits w n) (value_at (bits u k) a _ (sym is) h) in
      (cc, cc)

  module _ (t : Term) (w n : ℕ) (has : value_of types v t ≡ Some (Bits w n)) where
    -- the number of a term that is equal
    number_is : (b : Term) (u m : ℕ) → term_eq b t ≡ true → value_of types v b ≡ Some (Bits u m) →
        n ≡ m
    number_is b u m same at =
        (numbers_alike (value_of types v t) w n u m has
        (value_at t b _ (sym ((laws.terms b t).0 same)) at)).1

    order_tells : (op : Op) (test : ℕ → ℕ → Bool) (above below : ℕ → Fact) →
        ((a b : Term) (x : Value) → value_of types v (two op a b) ≡ Some x →
        AreCompared types v test a b x) →
        ((m : ℕ) → test m n ≡ true → Holds (above m) n) →
        ((m : ℕ) → test n m ≡ true → Holds (below m) n) →
        (formula : Term) (fact : Fact) →
        with_two op formula (told_by_order above below t) ≡ Some fact →
        IsTrueUnder types v formula → Holds fact n
    order_tells op test above below compared over under formula fact e holds =
        let at = with_two_there laws.operations op formula _ fact e in
        let o = compared at.a at.b (Truth true)
        (value_at (two op at.a at.b) formula _ (sym at.is) holds) in
        let is : test o.m o.n ≡ true = sym (truths_alike true (test o.m o.n) o.is) in
        elim (either_there (where_so (term_eq at.b t) (with_number at.a above))
        (where_so (term_eq at.a t) (with_number at.b below)) fact at.gives) [
          | inl h ↦
              let s = so_there (term_eq at.b t) (with_number at.a above) fact h in
              let k = with_number_there at.a above fact s.1 in
              let m : o.m ≡ k.n = (literal_number at.a k.w k.n o.w o.m k.is o.first).1 in
              let n_is : n ≡ o.n = number_is at.b o.w o.n s.0 o.second in
              subst (λ f. Holds f n) k.gives (over k.n
              (ap (λ i. test i n) (sym m) ∙ ap (test o.m) n_is ∙ is))
          | inr h ↦
              let s = so_there (term_eq at.a t) (with_number at.b below) fact h in
              let k = with_number_there at.b below fact s.1 in
              let m : o.n ≡ k.n = (literal_number at.b k.w k.n o.w o.n k.is o.second).1 in
              let n_is : n ≡ o.m = number_is at.a o.w o.m s.0 o.first in
              subst (λ f. Holds f n) k.gives (under k.n
              (ap (λ i. test i k.n) n_is ∙ ap (test o.m) (sym m) ∙ is))
        ]

    -- of an equation that has a value
    equation_tells : (fact_for : ℕ → Fact) (p : Bool) →
        ((m : ℕ) → (p ≡ true → n ≡ m) → (n ≡ m → p ≡ true) → Holds (fact_for m) n) →
        (formula : Term) (fact : Fact) →
        with_two Eq formula (told_by_equation fact_for t) ≡ Some fact →
        value_of types v formula ≡ Some (Truth p) → Holds fact n
    equation_tells fact_for p told formula fact e holds =
        let at = with_two_there laws.operations Eq formula _ fact e in
        let s = so_there (term_eq at.b t) (with_number at.a fact_for) fact at.gives in
        let k = with_number_there at.a fact_for fact s.1 in
        let o = (laws.meanings types v).equation at.a at.b (Truth p)
        (value_at (two Eq at.a at.b) formula _ (sym at.is) holds) in
        let p_is : p ≡ value_eq o.y o.z = truths_alike p (value_eq o.y o.z) o.is in
        let second : Some (Bits w n) ≡ Some o.z = sym has
        ∙ value_at t at.b _ (sym ((laws.terms at.b t).0 s.0)) o.second in
        let z_is : o.z ≡ Bits w n = cc in
        let y_is : o.y ≡ Bits k.w k.n =
        (laws.meanings types v).literal k.w k.n o.y
        (value_at (bits k.w k.n) at.a _ (sym k.is) o.first) in
        let alike : one_type (Bits k.w k.n) (Bits w n) ≡ true =
        ap (λ y. one_type y (Bits w n)) (sym y_is) ∙ ap (one_type o.y) (sym z_is) ∙ o.alike in
        let width : k.w ≡ w = widths_alike k.w k.n w n alike in
        subst (λ f. Holds f n) k.gives (told k.n
        (λ yes_p. let same : Bits k.w k.n ≡ Bits w n = sym y_is
        ∙ (laws.values o.y o.z).0 (sym p_is ∙ yes_p) ∙ z_is in
        let e : n ≡ k.n = cc in e)
        (λ n_is. p_is ∙ (laws.values o.y o.z).1
        (y_is ∙ ap (λ u. Bits u k.n) width ∙ ap (Bits w) (sym n_is) ∙ sym z_is)))

    differs_tells : (formula : Term) (fact : Fact) → told_by_negation t formula ≡ Some fact →
        IsTrueUnder types v (one Not formula) → Holds fact n
    differs_tells formula fact e holds =
        let o = (laws.meanings types v).negation formula (Truth true) holds in
        let p_is : true ≡ not o.p = truths_alike true (not o.p) o.is in
        equation_tells Differs o.p (λ m to from is. by o.p p_is (from is)) formula fact e o.has
      where
        by : (p : Bool) → true ≡ not p → p ≡ true → ⊥
        by true h e = true≢false h
        by false h e = true≢false (sym e)

    pub fact_holds : (formula : Term) (fact : Fact) → fact_of t formula ≡ Some fact →
        IsTrueUnder types v formula → Holds fact n
    fact_holds formula fact e holds =
        elim (either_there (with_two Ult formula (told_by_order Above Below t)) _ fact e) [
          | inl h ↦ order_tells Ult nat_lt Above Below (laws.meanings types v).less
              (λ m l. ltb-true m n l) (λ m l. ltb-true n m l) formula fact h holds
          | inr e ↦ elim (either_there (with_two Ule formula (told_by_order AtLeast AtMost t)) _
              fact e) [
                | inl h ↦ order_tells Ule nat_le AtLeast AtMost (laws.meanings types v).at_most
                    (λ m l. leb-true m n l) (λ m l. leb-true n m l) formula fact h holds
                | inr e ↦ elim (either_there (with_two Eq formula (told_by_equation Exactly t)) _ fact
                    e) [
                      | inl h ↦ equation_tells Exactly true (λ m to from. to refl) formula fact h holds
                      | inr e ↦
                          let inner = with_one_there laws.operations Not formula _ fact e in
                          differs_tells inner.a fact inner.gives
                          (value_at (one Not inner.a) formula _ (sym inner.is) holds)
                    ]
              ]
        ]
