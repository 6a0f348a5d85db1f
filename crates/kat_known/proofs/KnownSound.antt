-- What is known of an atom holds.
use Rattle.std.proofs.Common.{◌≡◌, ◌∙◌, inl, inr, ℕ, ◌<◌, Bool, true, false, List, [], ◌∷◌, Option, Some, None, refl, ap, sym, subst, if◌then◌else◌, arith, nat_lt, nat_le}
use Rattle.std.specs.Prelude.{not, ◌==◌, ◌&&◌, ◌||◌, option_and_then}
use Rattle.std.specs.Option.{option_map}
use Rattle.std.proofs.lemmas.Bool.{and_parts, eqb-true, ltb-true, leb-true, lt-ltb, le-ltb, le-leb, lt-leb}
use Rattle.kat_value.specs.declared.op.Op.{Op}
use Rattle.kat_value.specs.declared.op.Op.TheVariants.{Not, Eq, Ult, Ule}
use Rattle.kat_value.specs.declared.types.Ty.{Ty}
use Rattle.kat_value.specs.declared.types.Ty.TheVariants as ty
use Rattle.kat_value.specs.declared.types.TypeDecl.{TypeDecl}
use Rattle.kat_value.specs.declared.value.Value.{Value, out-Value, roll-Value, roll-out-Value}
use Rattle.kat_value.specs.declared.value.Value.TheOpen.{Value-F, Bits as BitsLayer}
use Rattle.kat_value.specs.declared.value.Value.TheVariants.{Bool as Truth, Bits, rolls-Bits}
use Rattle.kat_value.specs.Equality.{value_eq}
use Rattle.kat_value.specs.Signatures.{same_type}
use Rattle.kat_term.specs.declared.term.Term.{Term}
use Rattle.kat_term.specs.declared.term.Term.TheViews.{out-Term}
use Rattle.kat_term.specs.Equality.{term_eq}
use Rattle.kat_value.specs.Shown.{type_of_layer, type_of_value, one_type}
use Rattle.kat_term.specs.Types.{IsValuation}
use Rattle.kat_term.specs.Values.{Valuation, IsKept, value_of}
use Rattle.kat_term.specs.Views.{one, two, truth}
use Rattle.kat_term.specs.Worlds.{IsTrueUnder, AreTrueUnder}
use Rattle.kat_rules.specs.Keeps.{KeepsValues}
use Rattle.kat_rules.specs.Values.{AreCompared, ToldTruths}
use Rattle.kat_rules.specs.Widths.{width_of, is_bool}
use Rattle.kat_known.specs.declared.bounds.Interval.{Interval}
use Rattle.kat_known.specs.Bounded.{IsIn}
use Rattle.kat_known.specs.Bounds.{bounds_of}
use Rattle.kat_known.specs.Kept.{IsAtMost}
use Rattle.kat_known.specs.Known.{less_by, at_most_by, is_one_number, equal_by, by_order, by_bounds, known, known_atom}
use Rattle.kat_known.specs.Views.{with_two, where_so, contains, contains_there, is_joint, is_atom}
use Rattle.kat_known.proofs.BoundsSound.{bounds_in}
use Rattle.kat_known.proofs.FactLaws.{numbers_alike, truths_alike, shown-Bits, value_at}
use Rattle.kat_known.proofs.LawsBelow.{LawsBelow}
use Rattle.kat_known.proofs.ViewLaws.{with_two_there, either_there, so_there}

-- intervals that speak
less_told : (i j : Interval) (p : Bool) (m n : ℕ) → less_by i j ≡ Some p → IsIn i m → IsIn j n →
    nat_lt m n ≡ p
less_told i j p m n e first second =
    all (nat_lt i.high j.low) refl (nat_le j.high i.low) refl e where
      all : (a : Bool) → nat_lt i.high j.low ≡ a → (b : Bool) → nat_le j.high i.low ≡ b →
          (if a then Some true else if b then Some false else None) ≡ Some p → nat_lt m n ≡ p
      all true is b is_b h =
          let same : true ≡ p = cc in lt-ltb m n
          (omega (arith, ltb-true i.high j.low is, first.1, second.0)) ∙ same
      all false is true is_b h =
          let same : false ≡ p = cc in le-ltb m n
          (omega (arith, leb-true j.high i.low is_b, first.0, second.1)) ∙ same
      all false is false is_b h = cc

at_most_told : (i j : Interval) (p : Bool) (m n : ℕ) → at_most_by i j ≡ Some p → IsIn i m →
    IsIn j n → nat_le m n ≡ p
at_most_told i j p m n e first second =
    all (nat_le i.high j.low) refl (nat_lt j.high i.low) refl e where
      all : (a : Bool) → nat_le i.high j.low ≡ a → (b : Bool) → nat_lt j.high i.low ≡ b →
          (if a then Some true else if b then Some false else None) ≡ Some p → nat_le m n ≡ p
      all true is b is_b h =
          let same : true ≡ p = cc in le-leb m n
          (omega (arith, leb-true i.high j.low is, first.1, second.0)) ∙ same
      all false is true is_b h =
          let same : false ≡ p = cc in lt-leb m n
          (omega (arith, ltb-true j.high i.low is_b, first.0, second.1)) ∙ same
      all false is false is_b h = cc

-- what two numbers are to one another
abbrev Compares : Bool → ℕ → ℕ → Type 0
Compares true m n = m ≡ n
Compares false m n = m ≡ n → ⊥

equal_told : (i j : Interval) (p : Bool) (m n : ℕ) → equal_by i j ≡ Some p → IsIn i m → IsIn j n →
    Compares p m n
equal_told i j p m n e first second =
    all (nat_lt i.high j.low) refl (nat_lt j.high i.low) refl (is_one_number i j) refl e where
      all : (a : Bool) → nat_lt i.high j.low ≡ a → (b : Bool) → nat_lt j.high i.low ≡ b →
          (c : Bool) → is_one_number i j ≡ c →
          (if a then Some false else if b then Some false else if c then Some true else None)
          ≡ Some p → Compares p m n
      all true is b is_b c is_c h =
          let same : false ≡ p = cc in let l = ltb-true i.high j.low is in
          subst (λ q. Compares q m n) same (λ e. omega (arith, l, e, first.1, second.0))
      all false is true is_b c is_c h =
          let same : false ≡ p = cc in let l = ltb-true j.high i.low is_b in
          subst (λ q. Compares q m n) same (λ e. omega (arith, l, e, first.0, second.1))
      all false is false is_b true is_c h =
          let same : true ≡ p = cc in
          let parts = and_parts (i.low == i.high) ((j.low == j.high) && (i.low == j.low)) is_c in
          let rest = and_parts (j.low == j.high) (i.low == j.low) parts.1 in
          let a = eqb-true i.low i.high parts.0 in let b = eqb-true j.low j.high rest.0 in
          let c = eqb-true i.low j.low rest.1 in
          subst (λ q. Compares q m n) same
          (omega (arith, a, b, c, first.0, first.1, second.0, second.1))
      all false is false is_b false is_c h = cc

-- a value of the type of a number is one of its width
bits_like : (w m : ℕ) (y : Value) → one_type (Bits w m) y ≡ true → (n : ℕ) × (y ≡ Bits w n)
bits_like w m y e =
    by (out-Value y) refl (sym (ap (λ t. same_type t (type_of_value y)) (shown-Bits w m)) ∙ e) where
      by : (l : Value-F Value) → out-Value y ≡ l → same_type (ty.Bits w) (type_of_layer l) ≡ true →
          (n : ℕ) × (y ≡ Bits w n)
      by (BitsLayer u n) is h = (
        n,
        sym (roll-out-Value y) ∙ ap roll-Value is ∙ rolls-Bits u n
            ∙ ap (λ k. Bits k n) (sym (eqb-true w u h)),
      )
      by _ is h = cc

-- what goes on with a thing finds it there
and_then_there : {A B : Type 0} (o : Option A) (go : A → Option B) (r : B) →
    option_and_then go o ≡ Some r → (x : A) × (o ≡ Some x) × (go x ≡ Some r)
and_then_there None go r e = cc
and_then_there (Some x) go r e = (x, refl, e)

module _ (laws : LawsBelow) (types : List TypeDecl) (v : Valuation) where
  contained : (t : Term) (list : List Term) → contains t list ≡ true → AreTrueUnder types v list →
      IsTrueUnder types v t
  contained t [] e holds = cc
  contained t (u ∷ us) e holds = by (λ h. contained t us h holds.1) (term_eq t u) refl e where
    by : (contains t us ≡ true → IsTrueUnder types v t) → (b : Bool) → term_eq t u ≡ b →
        (b || contains t us) ≡ true → IsTrueUnder types v t
    by go true is h = value_at laws types v t u _ ((laws.terms t u).0 is) holds.0
    by go false is h = go h

  compared_equal : (p : Bool) (w m n : ℕ) → Compares p m n → value_eq (Bits w m) (Bits w n) ≡ p
  compared_equal true w m n e = (laws.values (Bits w m) (Bits w n)).1 (ap (Bits w) e)
  compared_equal false w m n ne = by (value_eq (Bits w m) (Bits w n)) refl where
    by : (b : Bool) → value_eq (Bits w m) (Bits w n) ≡ b → b ≡ false
    by true is =
        let same : Bits w m ≡ Bits w n = (laws.values (Bits w m) (Bits w n)).0 is in
        let e : m ≡ n = cc in absurd (ne e)
    by false is = refl

  -- what is known of an operation, by its values
  order_known : (op : Op) (test : ℕ → ℕ → Bool) →
      ((a b : Term) (x : Value) → value_of types v (two op a b) ≡ Some x →
      AreCompared types v test a b x) → (a b : Term) (p : Bool) →
      ((w m n : ℕ) → value_of types v a ≡ Some (Bits w m) → value_of types v b ≡ Some (Bits w n) →
      test m n ≡ p) → IsAtMost types v (two op a b) p
  order_known op test compared a b p told x has =
      let o = compared a b x has in ap Some
      (ap Truth (sym (told o.w o.m o.n o.first o.second)) ∙ sym o.is)

  equal_known : (a b : Term) (p : Bool) →
      ((x : Value) → value_of types v a ≡ Some x → (w : ℕ) × (n : ℕ) × (x ≡ Bits w n)) →
      ((w m n : ℕ) → value_of types v a ≡ Some (Bits w m) → value_of types v b ≡ Some (Bits w n) →
      Compares p m n) → IsAtMost types v (two Eq a b) p
  equal_known a b p are_bits told x has =
      let o = (laws.meanings types v).equation a b x has in
      let first = are_bits o.y o.first in
      let second = bits_like first.0 first.1 o.z
      (ap (λ u. one_type u o.z) (sym first.2) ∙ o.alike) in
      let c = told first.0 first.1 second.0 (o.first ∙ ap Some first.2)
      (o.second ∙ ap Some second.1) in
      let equal : value_eq o.y o.z ≡ p =
      ap (λ u. value_eq u o.z) first.2 ∙ ap (value_eq (Bits first.0 first.1)) second.1
      ∙ compared_equal p first.0 first.1 second.0 c in
      ap Some (ap Truth (sym equal) ∙ sym o.is)

  at_most-at : (t u : Term) (p : Bool) → t ≡ u → IsAtMost types v u p → IsAtMost types v t p
  at_most-at t u p is known = subst (λ s. IsAtMost types v s p) (sym is) known

  module _ (list : List Term) (holds : AreTrueUnder types v list) where
    -- a comparison in the list
    less_listed : (a b : Term) → contains (two Ult a b) list ≡ true →
        AreCompared types v nat_lt a b (Truth true)
    less_listed a b e =
        (laws.meanings types v).less a b (Truth true) (contained (two Ult a b) list e holds)

    is_less : (a b : Term) (o : AreCompared types v nat_lt a b (Truth true)) → o.m < o.n
    is_less a b o = ltb-true o.m o.n (sym (truths_alike true (nat_lt o.m o.n) o.is))

    by_order_known : (t : Term) (p : Bool) → by_order list t ≡ Some p → IsAtMost types v t p
    by_order_known t p e =
        elim (either_there (with_two Ule t
        (λ a b. where_so (contains (two Ult a b) list) (Some true))) _ p e) [
          | inl h ↦
              let at = with_two_there laws.operations Ule t _ p h in
              let s = so_there (contains (two Ult at.a at.b) list) (Some true) p at.gives in
              let same : true ≡ p = let g = s.1 in cc in
              let o = less_listed at.a at.b s.0 in
              let l = is_less at.a at.b o in
              at_most-at t (two Ule at.a at.b) p at.is
              (order_known Ule nat_le (laws.meanings types v).at_most at.a at.b p
              (λ w m n first second.
              let m_is = (numbers_alike (value_of types v at.a) w m o.w o.m first o.first).1 in
              let n_is = (numbers_alike (value_of types v at.b) w n o.w o.n second o.second).1 in
              le-leb m n (omega (arith, l, m_is, n_is)) ∙ same))
          | inr h ↦
              let at = with_two_there laws.operations Eq t _ p h in
              let s = so_there (contains (two Ult at.a at.b) list || contains
              (two Ult at.b at.a) list) (Some false) p at.gives in
              let same : false ≡ p = let g = s.1 in cc in
              subst (IsAtMost types v t) same
              (at_most-at t (two Eq at.a at.b) false at.is
              (by (contains (two Ult at.a at.b) list) at.a at.b refl s.0))
        ] where
          by : (c : Bool) (a b : Term) → contains (two Ult a b) list ≡ c →
              (c || contains (two Ult b a) list) ≡ true → IsAtMost types v (two Eq a b) false
          by true a b is h =
              let o = less_listed a b is in
              let l = is_less a b o in
              equal_known a b false (λ x has.
              (o.w, o.m, let g : Some x ≡ Some (Bits o.w o.m) = sym has ∙ o.first in cc))
              (λ w m n first second e.
              let m_is = (numbers_alike (value_of types v a) w m o.w o.m first o.first).1 in
              let n_is = (numbers_alike (value_of types v b) w n o.w o.n second o.second).1 in
              omega (arith, l, m_is, n_is, e))
          by false a b is h =
              let o = less_listed b a h in
              let l = is_less b a o in
              equal_known a b false (λ x has.
              (o.w, o.n, let g : Some x ≡ Some (Bits o.w o.n) = sym has ∙ o.second in cc))
              (λ w m n first second e.
              let m_is = (numbers_alike (value_of types v a) w m o.w o.n first o.second).1 in
              let n_is = (numbers_alike (value_of types v b) w n o.w o.m second o.first).1 in
              omega (arith, l, m_is, n_is, e))

    module _ (vars : List Ty) (fits : IsValuation types vars v) where
      in_bounds : (t : Term) (w n : ℕ) → value_of types v t ≡ Some (Bits w n) →
          IsIn (bounds_of vars list t) n
      in_bounds = bounds_in laws types v vars fits list holds

      by_bounds_known : (t : Term) (p : Bool) → by_bounds vars list t ≡ Some p →
          IsAtMost types v t p
      by_bounds_known t p e =
          elim (either_there (with_two Ult t
          (λ a b. less_by (bounds_of vars list a) (bounds_of vars list b))) _ p e) [
            | inl h ↦
                let at = with_two_there laws.operations Ult t _ p h in
                at_most-at t (two Ult at.a at.b) p at.is
                (order_known Ult nat_lt (laws.meanings types v).less at.a at.b p
                (λ w m n first second.
                less_told (bounds_of vars list at.a) (bounds_of vars list at.b) p m n at.gives
                (in_bounds at.a w m first) (in_bounds at.b w n second)))
            | inr e ↦ elim (either_there (with_two Ule t
                (λ a b. at_most_by (bounds_of vars list a) (bounds_of vars list b))) _ p e) [
                  | inl h ↦
                      let at = with_two_there laws.operations Ule t _ p h in
                      at_most-at t (two Ule at.a at.b) p at.is
                      (order_known Ule nat_le (laws.meanings types v).at_most at.a at.b p
                      (λ w m n first second.
                      at_most_told (bounds_of vars list at.a) (bounds_of vars list at.b) p m n at.gives
                      (in_bounds at.a w m first) (in_bounds at.b w n second)))
                  | inr h ↦
                      let at = with_two_there laws.operations Eq t _ p h in
                      let s = and_then_there (width_of vars at.a)
                      (λ w. equal_by (bounds_of vars list at.a) (bounds_of vars list at.b)) p
                      at.gives in
                      at_most-at t (two Eq at.a at.b) p at.is
                      (equal_known at.a at.b p (λ x has. let n =
                      laws.told types vars v fits at.a x has s.0 s.1 in (s.0, n.0, n.1))
                      (λ w m n first second.
                      equal_told (bounds_of vars list at.a) (bounds_of vars list at.b) p m n s.2
                      (in_bounds at.a w m first) (in_bounds at.b w n second)))
                ]
          ]

      module _ (bools : ToldTruths) (norm : Term → Option Term)
          (keeps : KeepsValues types v norm) where
        true_known : (t : Term) → IsTrueUnder types v t → IsAtMost types v t true
        true_known t is x has = sym is ∙ has

        negation_known : (t : Term) → is_bool vars t ≡ true →
            contains_there (norm (one Not t)) list ≡ true → IsAtMost types v t false
        negation_known t is e x has = by (norm (one Not t)) refl e where
          of_value : (q : Bool) → value_of types v t ≡ Some (Truth q) → (n : Term) →
              norm (one Not t) ≡ Some n → IsTrueUnder types v n → q ≡ false
          of_value false has n e holds = refl
          of_value true has n e holds =
              let kept = keeps (one Not t) n e (Truth false)
              ((laws.meanings types v).negated t true has) in
              let same : Some (Truth false) ≡ Some (Truth true) = sym kept ∙ holds in cc

          by : (o : Option Term) → norm (one Not t) ≡ o → contains_there o list ≡ true →
              Some (Truth false) ≡ Some x
          by None is_n h = cc
          by (Some n) is_n h =
              let q = bools types vars v fits t x has is in
              ap Some (ap Truth (sym (of_value q.0 (has ∙ ap Some q.1) n is_n
              (contained n list h holds))) ∙ sym q.1)

        -- a term of type bool has no other value than that by which it is known
        pub known_so : (t : Term) → is_bool vars t ≡ true → (p : Bool) →
            known vars norm list t ≡ Some p → IsAtMost types v t p
        known_so t is p e =
            elim (either_there (where_so (contains t list) (Some true)) _ p e) [
              | inl h ↦
                  let s = so_there (contains t list) (Some true) p h in
                  let same : true ≡ p = let g = s.1 in cc in
                  subst (IsAtMost types v t) same (true_known t (contained t list s.0 holds))
              | inr e ↦ elim (either_there (where_so (contains_there (norm (one Not t)) list)
                  (Some false)) _ p e) [
                    | inl h ↦
                        let s = so_there (contains_there (norm (one Not t)) list) (Some false) p h in
                        let same : false ≡ p = let g = s.1 in cc in
                        subst (IsAtMost types v t) same (negation_known t is s.0)
                    | inr e ↦ elim (either_there (by_order list t) _ p e) [
                      | inl h ↦ by_order_known t p h
                      | inr h ↦ by_bounds_known t p h
                    ]
                  ]
            ]

        -- the literal of a known atom keeps its value
        pub atoms_keep : KeepsValues types v (known_atom vars norm list)
        atoms_keep t right e =
            let s = so_there (is_atom vars t) (option_map truth (known vars norm list t)) right e in
            let atom = and_parts (is_bool vars t) (not (is_joint (out-Term t))) s.0 in
            by atom.0 (known vars norm list t) refl s.1 where
              by : is_bool vars t ≡ true → (o : Option Bool) → known vars norm list t ≡ o →
                  option_map truth o ≡ Some right →
                  IsKept (value_of types v t) (value_of types v right)
              by is None h e = cc
              by is (Some p) h e =
                  let same : truth p ≡ right = cc in
                  λ x has. ap (value_of types v) (sym same) ∙ (laws.meanings types v).truth p
                  ∙ known_so t is p h x has
