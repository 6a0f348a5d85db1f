-- The rule on operations on literals keeps values.
use Rattle.std.proofs.Common.{◌≡◌, ◌∙◌, ℕ, ◌+◌, ◌-◌, Bool, true, false, List, [], ◌∷◌, map, Option, Some, None, refl, ap, sym, subst, if◌then◌else◌, nat_le, nat_lt}
use Rattle.std.specs.Prelude.{not, ◌==◌, ◌&&◌, ◌||◌, option_and_then}
use Rattle.std.specs.Option.{option_map}
use Rattle.std.proofs.lemmas.Bool.{and_parts}
use Rattle.kat_value.specs.declared.op.Op.{Op}
use Rattle.kat_value.specs.declared.op.Op.TheVariants.{Not, And, Or, Eq, Ult, Ule, Slt, Sle, Add, Sub, Mul, Band, Bor, Bxor, Bnot, Shl, Shr, Sar, Slice, Cat, Zext, Sext, Ite, Get}
use Rattle.kat_value.specs.declared.types.TypeDecl.{TypeDecl}
use Rattle.kat_value.specs.declared.value.Value.{Value, out-Value}
use Rattle.kat_value.specs.declared.value.Value.TheVariants.{Bool as Truth, Bits}
use Rattle.kat_value.specs.declared.value.Value.TheOpen.{Value-F, Bool as TruthLayer, Bits as BitsLayer, Rec as RecLayer}
use Rattle.kat_value.specs.Equality.{value_eq}
use Rattle.kat_value.specs.Numbers.{truth_of_op, number_of_op}
use Rattle.kat_value.specs.Widths.{is_number}
use Rattle.kat_value.specs.Widths.{widest}
use Rattle.kat_term.specs.declared.term.Term.{Term}
use Rattle.kat_term.specs.declared.term.Term.TheOpen.{Term-F, Apply}
use Rattle.kat_term.specs.declared.term.Term.TheVariants.{Lit as LitTerm, Apply as ApplyTerm, rolls-Apply}
use Rattle.kat_term.specs.declared.term.Term.TheViews.{out-Term, roll-Term, roll-out-Term}
use Rattle.kat_value.specs.Operations.{of_truth, of_truths, of_number, of_numbers, of_parts, field_of, of_equals, can_be_chosen, of_choice, value_of_one, value_of_two, value_of_three, value_of_op}
use Rattle.kat_value.specs.Shown.{type_of_value, one_type}
use Rattle.kat_value.specs.Making.{all_there}
use Rattle.kat_term.specs.Values.{Valuation, IsKept, is_literal, value_of}
use Rattle.kat_term.specs.Views.{literal_of}
use Rattle.kat_rules.specs.Keeps.{Keeps}
use Rattle.kat_rules.specs.Truths.{is_plain, plain, plain_of, literal_of_literals, op_on_literals}
use Rattle.kat_rules.proofs.Equals.{some_told, parts_in}
use Rattle.kat_rules.proofs.Meaning.{out-Truth, out-Bits, value_of-Lit, value_of-Apply}
use Rattle.kat_rules.proofs.NumbersBelow.{KeepsWidth, add_keeps, sub_keeps, mul_keeps, band_keeps, bor_keeps, bxor_keeps, shl_keeps, shr_keeps, sar_keeps, bnot_keeps, slice_number, cat_number, zext_number, sext_number}
use Rattle.kat_rules.proofs.PartLaws.{first_there, list_told}
use Rattle.kat_rules.proofs.Patterns.{literal_there}

module _ (types : List TypeDecl) where
  -- a value that a literal may have
  abbrev IsLit : Value → Type 0
  IsLit x = is_literal types (out-Value x) ≡ true

  abbrev AreLits : List Value → Type 0
  AreLits [] = Unit {0}
  AreLits (x ∷ xs) = IsLit x × AreLits xs

  truth_lit : (b : Bool) → IsLit (Truth b)
  truth_lit b = ap (is_literal types) (out-Truth b)

  bits_lit : (w n : ℕ) → is_number w n ≡ true → IsLit (Bits w n)
  bits_lit w n fits = ap (is_literal types) (out-Bits w n) ∙ fits

  -- what each kind of operation gives is one
  of_truth_lit : (f : Bool → Bool) (y : Value-F Value) (x : Value) → of_truth f y ≡ Some x → IsLit x
  of_truth_lit f (TruthLayer p) x e = subst IsLit (some_told (Truth (f p)) x e) (truth_lit (f p))
  of_truth_lit f _ x e = cc

  of_truths_lit : (f : Bool → Bool → Bool) (y z : Value-F Value) (x : Value) → of_truths f y z ≡ Some x → IsLit x
  of_truths_lit f (TruthLayer p) (TruthLayer q) x e = subst IsLit (some_told (Truth (f p q)) x e) (truth_lit (f p q))
  of_truths_lit f _ _ x e = cc

  of_number_lit : (takes : ℕ → Bool) (f : ℕ → ℕ → Value) → ((w n : ℕ) → is_number w n ≡ true → takes w ≡ true → IsLit (f w n)) →
      (y : Value-F Value) (x : Value) → of_number takes f y ≡ Some x → IsLit x
  of_number_lit takes f gives (BitsLayer w n) x e = by (is_number w n && takes w) refl e where
    by : (b : Bool) → (is_number w n && takes w) ≡ b → (if b then Some (f w n) else None) ≡ Some x → IsLit x
    by true is h = let parts = and_parts (is_number w n) (takes w) is in subst IsLit (some_told (f w n) x h) (gives w n parts.0 parts.1)
    by false is h = cc
  of_number_lit takes f gives _ x e = cc

  of_numbers_lit : (f : ℕ → ℕ → ℕ → Value) → ((w m n : ℕ) → is_number w m ≡ true → is_number w n ≡ true → IsLit (f w m n)) →
      (y z : Value-F Value) (x : Value) → of_numbers f y z ≡ Some x → IsLit x
  of_numbers_lit f gives (BitsLayer w m) (BitsLayer u n) x e = by ((w == u) && (is_number w m && is_number w n)) refl e where
    by : (b : Bool) → ((w == u) && (is_number w m && is_number w n)) ≡ b → (if b then Some (f w m n) else None) ≡ Some x → IsLit x
    by true is h =
        let parts = and_parts (w == u) (is_number w m && is_number w n) is in
        let fits = and_parts (is_number w m) (is_number w n) parts.1 in
        subst IsLit (some_told (f w m n) x h) (gives w m n fits.0 fits.1)
    by false is h = cc
  of_numbers_lit f gives _ _ x e = cc

  comparison_lit : (f : ℕ → ℕ → ℕ → Bool) (y z : Value-F Value) (x : Value) → of_numbers (λ w m n. Truth (f w m n)) y z ≡ Some x → IsLit x
  comparison_lit f = of_numbers_lit (λ w m n. Truth (f w m n)) (λ w m n first second. truth_lit (f w m n))

  arithmetic_lit : (f : ℕ → ℕ → ℕ → ℕ) → KeepsWidth f → (y z : Value-F Value) (x : Value) → of_numbers (λ w m n. Bits w (f w m n)) y z ≡ Some x → IsLit x
  arithmetic_lit f keeps = of_numbers_lit (λ w m n. Bits w (f w m n)) (λ w m n first second. bits_lit w (f w m n) (keeps w m n first second))

  equals_lit : (y z x : Value) → of_equals y z ≡ Some x → IsLit x
  equals_lit y z x e = by (one_type y z) e where
    by : (b : Bool) → (if b then Some (Truth (value_eq y z)) else None) ≡ Some x → IsLit x
    by true h = subst IsLit (some_told (Truth (value_eq y z)) x h) (truth_lit (value_eq y z))
    by false h = cc

  parts_lit : (y z : Value-F Value) (x : Value) → of_parts y z ≡ Some x → IsLit x
  parts_lit y z x e = let i = parts_in y z x e in subst IsLit i.gives (bits_lit (i.u + i.w) (number_of_op Cat i.w i.m i.n) (cat_number i.u i.w i.m i.n i.first_fits i.second_fits i.wide))

  no_field : (of field : ℕ) (y : Value-F Value) (x : Value) → is_literal types y ≡ true → field_of of field y ≡ Some x → ⊥
  no_field of field (RecLayer t xs) x lit e = cc
  no_field of field _ x lit e = cc

  one_lit : (op : Op) (y x : Value) → IsLit y → value_of_one op (out-Value y) ≡ Some x → IsLit x
  one_lit Not y x lit e = of_truth_lit not (out-Value y) x e
  one_lit Bnot y x lit e =
      of_number_lit (λ w. true) (λ w m. Bits w (number_of_op Bnot w m 0)) (λ w n fits taken. bits_lit w (number_of_op Bnot w n 0) (bnot_keeps w n fits)) (out-Value y) x e
  one_lit (Slice hi lo) y x lit e =
      of_number_lit (λ w. nat_le lo hi && nat_lt hi w) (λ w m. Bits (hi - lo + 1) (number_of_op (Slice hi lo) w m 0))
      (λ w n fits taken. bits_lit (hi - lo + 1) (number_of_op (Slice hi lo) w n 0) (slice_number hi lo w n fits (and_parts (nat_le lo hi) (nat_lt hi w) taken))) (out-Value y) x e
  one_lit (Zext v) y x lit e =
      of_number_lit (λ w. nat_le w v && nat_le v widest) (λ w m. Bits v (number_of_op (Zext v) w m 0))
      (λ w n fits taken. bits_lit v n (zext_number v w n fits (and_parts (nat_le w v) (nat_le v widest) taken))) (out-Value y) x e
  one_lit (Sext v) y x lit e =
      of_number_lit (λ w. nat_le w v && nat_le v widest) (λ w m. Bits v (number_of_op (Sext v) w m 0))
      (λ w n fits taken. bits_lit v (number_of_op (Sext v) w n 0) (sext_number v w n fits (and_parts (nat_le w v) (nat_le v widest) taken))) (out-Value y) x e
  one_lit (Get of field) y x lit e = absurd (no_field of field (out-Value y) x lit e)
  one_lit _ y x lit e = cc

  two_lit : (op : Op) (y z x : Value) → value_of_two op y z ≡ Some x → IsLit x
  two_lit And y z x e = of_truths_lit (λ p q. p && q) (out-Value y) (out-Value z) x e
  two_lit Or y z x e = of_truths_lit (λ p q. p || q) (out-Value y) (out-Value z) x e
  two_lit Eq y z x e = equals_lit y z x e
  two_lit Ult y z x e = comparison_lit (truth_of_op Ult) (out-Value y) (out-Value z) x e
  two_lit Ule y z x e = comparison_lit (truth_of_op Ule) (out-Value y) (out-Value z) x e
  two_lit Slt y z x e = comparison_lit (truth_of_op Slt) (out-Value y) (out-Value z) x e
  two_lit Sle y z x e = comparison_lit (truth_of_op Sle) (out-Value y) (out-Value z) x e
  two_lit Add y z x e = arithmetic_lit (number_of_op Add) add_keeps (out-Value y) (out-Value z) x e
  two_lit Sub y z x e = arithmetic_lit (number_of_op Sub) sub_keeps (out-Value y) (out-Value z) x e
  two_lit Mul y z x e = arithmetic_lit (number_of_op Mul) mul_keeps (out-Value y) (out-Value z) x e
  two_lit Band y z x e = arithmetic_lit (number_of_op Band) band_keeps (out-Value y) (out-Value z) x e
  two_lit Bor y z x e = arithmetic_lit (number_of_op Bor) bor_keeps (out-Value y) (out-Value z) x e
  two_lit Bxor y z x e = arithmetic_lit (number_of_op Bxor) bxor_keeps (out-Value y) (out-Value z) x e
  two_lit Shl y z x e = arithmetic_lit (number_of_op Shl) shl_keeps (out-Value y) (out-Value z) x e
  two_lit Shr y z x e = arithmetic_lit (number_of_op Shr) shr_keeps (out-Value y) (out-Value z) x e
  two_lit Sar y z x e = arithmetic_lit (number_of_op Sar) sar_keeps (out-Value y) (out-Value z) x e
  two_lit Cat y z x e = parts_lit (out-Value y) (out-Value z) x e
  two_lit _ y z x e = cc

  three_lit : (op : Op) (c y z x : Value) → IsLit y → IsLit z → value_of_three op c y z ≡ Some x → IsLit x
  three_lit Ite c y z x y_lit z_lit e = by (out-Value c) e where
    pick : (p b : Bool) → (if b then Some (if p then y else z) else None) ≡ Some x → IsLit x
    pick true true h = subst IsLit (some_told y x h) y_lit
    pick false true h = subst IsLit (some_told z x h) z_lit
    pick p false h = cc

    by : (l : Value-F Value) → of_choice l y z ≡ Some x → IsLit x
    by (TruthLayer p) h = pick p (can_be_chosen (type_of_value y) && one_type y z) h
    by _ h = cc
  three_lit _ c y z x y_lit z_lit e = cc

  op_lit : (op : Op) (ys : List Value) (x : Value) → AreLits ys → value_of_op op ys ≡ Some x → IsLit x
  op_lit op [] x lits e = cc
  op_lit op (y ∷ []) x lits e = one_lit op y x lits.0 e
  op_lit op (y ∷ z ∷ []) x lits e = two_lit op y z x e
  op_lit op (c ∷ y ∷ z ∷ []) x lits e = three_lit op c y z x lits.1.0 lits.1.1.0 e
  op_lit op (a ∷ b ∷ c ∷ d ∷ more) x lits e = cc

  module _ (v : Valuation) where
    -- the value of a literal that is plain
    record LitAt (a : Term) (y z : Value) : Type 0 where
      same : y ≡ z
      lit : IsLit y

    lit_at : (a : Term) (y z : Value) → plain_of a ≡ Some y → value_of types v a ≡ Some z → LitAt a y z
    lit_at a y z e has = by (literal_of a) refl e where
      valued : (l : Value) → a ≡ LitTerm l → l ≡ y → (b : Bool) → is_literal types (out-Value l) ≡ b → (if b then Some l else None) ≡ Some z → LitAt a y z
      valued l is same true test h = record { same = sym same ∙ some_told l z h; lit = ap (λ u. is_literal types (out-Value u)) (sym same) ∙ test }
      valued l is same false test h = cc

      plainly : (l : Value) → a ≡ LitTerm l → (b : Bool) → (if b then Some l else None) ≡ Some y → LitAt a y z
      plainly l is true h =
          valued l is (some_told l y h) (is_literal types (out-Value l)) refl (sym (value_of-Lit types v l) ∙ ap (value_of types v) (sym is) ∙ has)
      plainly l is false h = cc

      by : (o : Option Value) → literal_of a ≡ o → option_and_then plain o ≡ Some y → LitAt a y z
      by None is h = cc
      by (Some l) is h = plainly l (literal_there a l is) (is_plain (out-Value l)) h

    record LitsAt (ys zs : List Value) : Type 0 where
      same : ys ≡ zs
      lits : AreLits ys

    lits_at : (ts : List Term) (ys zs : List Value) → all_there (map plain_of ts) ≡ Some ys → all_there (map (value_of types v) ts) ≡ Some zs → LitsAt ys zs
    lits_at [] ys zs e has =
        let none : [] ≡ ys = list_told [] ys e in
        record { same = sym none ∙ list_told [] zs has; lits = subst AreLits none tt }
    lits_at (t ∷ ts) ys zs e has =
        let c = first_there (plain_of t) (map plain_of ts) ys e in
        let d = first_there (value_of types v t) (map (value_of types v) ts) zs has in
        let one = lit_at t c.x d.x c.first d.first in
        let others = lits_at ts c.rest d.rest c.more d.more in
        record {
          same = sym c.is ∙ ap (λ u. u ∷ c.rest) one.same ∙ ap (λ us. d.x ∷ us) others.same ∙ d.is;
          lits = subst AreLits c.is (one.lit, others.lits);
        }

    apply-law : (op : Op) (ts : List Term) (r : Term) → option_map LitTerm (option_and_then (value_of_op op) (all_there (map plain_of ts))) ≡ Some r →
        IsKept (value_of types v (ApplyTerm op ts)) (value_of types v r)
    apply-law op ts r e x has = by (all_there (map plain_of ts)) (all_there (map (value_of types v) ts)) refl refl e (sym (value_of-Apply types v op ts) ∙ has) where
      valued : (y : Value) → IsLit y → y ≡ x → LitTerm y ≡ r → value_of types v r ≡ Some x
      valued y lit same is = ap (value_of types v) (sym is) ∙ value_of-Lit types v y ∙ ap (λ b. if b then Some y else None) lit ∙ ap Some same

      term_told : (t u : Term) → Some t ≡ Some u → t ≡ u
      term_told t u h = cc

      given : (ys zs : List Value) → LitsAt ys zs → (o : Option Value) → value_of_op op ys ≡ o → option_map LitTerm o ≡ Some r → value_of_op op zs ≡ Some x → value_of types v r ≡ Some x
      given ys zs at None is h k = cc
      given ys zs at (Some y) is h k =
          valued y (op_lit op ys y at.lits is) (some_told y x (sym is ∙ ap (value_of_op op) at.same ∙ k)) (term_told (LitTerm y) r h)

      by : (o p : Option (List Value)) → all_there (map plain_of ts) ≡ o → all_there (map (value_of types v) ts) ≡ p →
          option_map LitTerm (option_and_then (value_of_op op) o) ≡ Some r → option_and_then (value_of_op op) p ≡ Some x → value_of types v r ≡ Some x
      by None p first second h k = cc
      by (Some ys) None first second h k = cc
      by (Some ys) (Some zs) first second h k = given ys zs (lits_at ts ys zs first second) (value_of_op op ys) refl h k

pub op_on_literals_keeps : Keeps op_on_literals
op_on_literals_keeps types vars v given t r e = subst (λ u. IsKept (value_of types v u) (value_of types v r)) (roll-out-Term t) (by (out-Term t) e) where
  by : (x : Term-F Term) → literal_of_literals x ≡ Some r → IsKept (value_of types v (roll-Term x)) (value_of types v r)
  by (Apply op args) h = subst (λ u. IsKept (value_of types v u) (value_of types v r)) (sym (rolls-Apply op args)) (apply-law types v op args r h)
  by _ h = cc
