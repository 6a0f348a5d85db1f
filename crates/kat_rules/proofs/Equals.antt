-- The values of equations, and of two numbers one above the other.
use Rattle.std.proofs.Common.{◌≡◌, ◌∙◌, ℕ, ◌+◌, ◌*◌, ◌^◌, Bool, true, false, List, Some, None, refl, ap, sym, subst, if◌then◌else◌, nat_le}
use Rattle.std.specs.Prelude.{◌==◌, ◌&&◌}
use Rattle.std.specs.Bool.{beq}
use Rattle.std.proofs.lemmas.Bool.{and_parts, eqb-true, eq-eqb}
use Rattle.kat_value.specs.declared.op.Op.TheVariants.{Eq, Cat}
use Rattle.kat_value.specs.declared.types.Ty.TheVariants as ty
use Rattle.kat_value.specs.declared.types.TypeDecl.{TypeDecl}
use Rattle.kat_value.specs.declared.value.Value.{Value, out-Value}
use Rattle.kat_value.specs.declared.value.Value.TheVariants.{Bool as Truth, Bits}
use Rattle.kat_value.specs.declared.value.Value.TheOpen.{Value-F, Bool as TruthLayer, Bits as BitsLayer}
use Rattle.kat_value.specs.Equality.{value_eq, TestsEquality}
use Rattle.kat_value.specs.Widths.{is_number}
use Rattle.kat_value.specs.Signatures.{same_type}
use Rattle.kat_value.specs.Widths.{widest}
use Rattle.kat_term.specs.declared.term.Term.{Term}
use Rattle.kat_value.specs.Operations.{of_parts}
use Rattle.kat_value.specs.Shown.{type_of_layer, type_of_value, one_type}
use Rattle.kat_term.specs.Values.{Valuation, IsKept, value_of}
use Rattle.kat_term.specs.Views.{two, bits}
use Rattle.kat_rules.proofs.Meaning.{truth_by_layer, bits_by_layer, two_parts, two_from, bits_value, same_numbers}
use Rattle.kat_rules.proofs.ToldTypes.{same_told, shown-Bits}

-- a value that shows a type
pub record TruthShown (y : Value) : Type 0 where
  pub p : Bool
  pub is : y ≡ Truth p

pub truth_shown : (y : Value) → type_of_value y ≡ ty.Bool → TruthShown y
truth_shown y e = by (out-Value y) refl e where
  by : (l : Value-F Value) → out-Value y ≡ l → type_of_layer l ≡ ty.Bool → TruthShown y
  by (TruthLayer p) is h = record { p = p; is = truth_by_layer y p is }
  by _ is h = cc

pub record NumberShown (w : ℕ) (y : Value) : Type 0 where
  pub n : ℕ
  pub is : y ≡ Bits w n

pub number_shown : (w : ℕ) (y : Value) → type_of_value y ≡ ty.Bits w → NumberShown w y
number_shown w y e = by (out-Value y) refl e where
  by : (l : Value-F Value) → out-Value y ≡ l → type_of_layer l ≡ ty.Bits w → NumberShown w y
  by (BitsLayer u n) is h = let same : u ≡ w = cc in record { n = n; is = bits_by_layer y u n is ∙ ap (λ k. Bits k n) same }
  by _ is h = cc

pub one_type_is : (y z : Value) → one_type y z ≡ true → type_of_value y ≡ type_of_value z
one_type_is y z e = same_told (type_of_value y) (type_of_value z) e

pub one_type_turned : (y z : Value) → one_type y z ≡ true → one_type z y ≡ true
one_type_turned y z e =
    let same = one_type_is y z e in
    ap (λ t. same_type t (type_of_value y)) (sym same) ∙ ap (same_type (type_of_value y)) same ∙ e

-- tests that hold together
pub same_truth : (p q : Bool) → (p ≡ true → q ≡ true) → (q ≡ true → p ≡ true) → p ≡ q
same_truth true q first second = sym (first refl)
same_truth false true first second = second refl
same_truth false false first second = refl

pub same_tests : (m n p q : ℕ) → (m ≡ n → p ≡ q) → (p ≡ q → m ≡ n) → (m == n) ≡ (p == q)
same_tests m n p q first second =
    same_truth (m == n) (p == q) (λ e. eq-eqb p q (first (eqb-true m n e))) (λ e. eq-eqb m n (second (eqb-true p q e)))

pub equal_turned : TestsEquality → (y z : Value) → value_eq z y ≡ value_eq y z
equal_turned values y z =
    same_truth (value_eq z y) (value_eq y z) (λ e. (values y z).1 (sym ((values z y).0 e))) (λ e. (values z y).1 (sym ((values y z).0 e)))

pub some_told : (y z : Value) → Some y ≡ Some z → y ≡ z
some_told y z e = cc

truths_told : (p q : Bool) → Truth p ≡ Truth q → p ≡ q
truths_told p q e = cc

beq_self : (p : Bool) → beq p p ≡ true
beq_self true = refl
beq_self false = refl

beq_told : (p q : Bool) → beq p q ≡ true → p ≡ q
beq_told true true e = refl
beq_told false false e = refl
beq_told true false e = cc
beq_told false true e = cc

pub same_truths : TestsEquality → (p q : Bool) → value_eq (Truth p) (Truth q) ≡ beq p q
same_truths values p q =
    same_truth (value_eq (Truth p) (Truth q)) (beq p q)
    (λ e. subst (λ k. beq p k ≡ true) (truths_told p q ((values (Truth p) (Truth q)).0 e)) (beq_self p))
    (λ e. (values (Truth p) (Truth q)).1 (ap Truth (beq_told p q e)))

-- two numbers one above the other
pub record PartsIn (y z : Value-F Value) (x : Value) : Type 0 where
  pub u : ℕ
  pub w : ℕ
  pub m : ℕ
  pub n : ℕ
  pub first : y ≡ BitsLayer u m
  pub second : z ≡ BitsLayer w n
  pub first_fits : is_number u m ≡ true
  pub second_fits : is_number w n ≡ true
  pub wide : nat_le (u + w) widest ≡ true
  pub gives : Bits (u + w) (m * 2 ^ w + n) ≡ x

pub parts_in : (y z : Value-F Value) (x : Value) → of_parts y z ≡ Some x → PartsIn y z x
parts_in (BitsLayer u m) (BitsLayer w n) x e = by ((is_number u m && is_number w n) && nat_le (u + w) widest) refl e where
  by : (b : Bool) → ((is_number u m && is_number w n) && nat_le (u + w) widest) ≡ b → (if b then Some (Bits (u + w) (m * 2 ^ w + n)) else None) ≡ Some x → PartsIn (BitsLayer u m) (BitsLayer w n) x
  by true is h =
      let tests = and_parts (is_number u m && is_number w n) (nat_le (u + w) widest) is in
      let fits = and_parts (is_number u m) (is_number w n) tests.0 in
      record { u = u; w = w; m = m; n = n; first = refl; second = refl; first_fits = fits.0; second_fits = fits.1; wide = tests.1; gives = some_told (Bits (u + w) (m * 2 ^ w + n)) x h }
  by false is h = cc
parts_in _ _ x e = cc

module _ (types : List TypeDecl) (v : Valuation) where
  pub record CatOf (a b : Term) (x : Value) : Type 0 where
    pub u : ℕ
    pub w : ℕ
    pub m : ℕ
    pub n : ℕ
    pub first : value_of types v a ≡ Some (Bits u m)
    pub second : value_of types v b ≡ Some (Bits w n)
    pub first_fits : is_number u m ≡ true
    pub second_fits : is_number w n ≡ true
    pub wide : nat_le (u + w) widest ≡ true
    pub gives : Bits (u + w) (m * 2 ^ w + n) ≡ x

  pub cat_of : (a b : Term) (x : Value) → value_of types v (two Cat a b) ≡ Some x → CatOf a b x
  cat_of a b x has =
      let o = two_parts types v Cat a b x has in
      let i = parts_in (out-Value o.y) (out-Value o.z) x o.is in
      record {
        u = i.u;
        w = i.w;
        m = i.m;
        n = i.n;
        first = o.first ∙ ap Some (bits_by_layer o.y i.u i.m i.first);
        second = o.second ∙ ap Some (bits_by_layer o.z i.w i.n i.second);
        first_fits = i.first_fits;
        second_fits = i.second_fits;
        wide = i.wide;
        gives = i.gives;
      }

  -- an equation on values of one type
  pub equals_from : (a b : Term) (y z : Value) → value_of types v a ≡ Some y → value_of types v b ≡ Some z → one_type y z ≡ true → value_of types v (two Eq a b) ≡ Some (Truth (value_eq y z))
  equals_from a b y z first second one = two_from types v Eq a b y z first second ∙ ap (λ t. if t then Some (Truth (value_eq y z)) else None) one

  pub on_equals : (a b r : Term) →
      ((y z : Value) → value_of types v a ≡ Some y → value_of types v b ≡ Some z → one_type y z ≡ true → value_of types v r ≡ Some (Truth (value_eq y z))) →
      IsKept (value_of types v (two Eq a b)) (value_of types v r)
  on_equals a b r gives x has =
      let o = two_parts types v Eq a b x has in
      by o.y o.z o.first o.second (one_type o.y o.z) refl o.is where
        by : (y z : Value) → value_of types v a ≡ Some y → value_of types v b ≡ Some z → (t : Bool) → one_type y z ≡ t → (if t then Some (Truth (value_eq y z)) else None) ≡ Some x → value_of types v r ≡ Some x
        by y z first second true one h = gives y z first second one ∙ h
        by y z first second false one h = cc

  -- an equation whose first side is a literal
  pub on_literal_equation : TestsEquality → (w m : ℕ) (b r : Term) → is_number w m ≡ true →
      ((n : ℕ) → value_of types v b ≡ Some (Bits w n) → value_of types v r ≡ Some (Truth (m == n))) →
      IsKept (value_of types v (two Eq (bits w m) b)) (value_of types v r)
  on_literal_equation values w m b r fits gives =
      on_equals (bits w m) b r
      (λ y z first second one.
      let literal : y ≡ Bits w m = some_told y (Bits w m) (sym first ∙ bits_value types v w m fits) in
      let shown = number_shown w z (sym (one_type_is y z one) ∙ ap type_of_value literal ∙ shown-Bits w m) in
      gives shown.n (second ∙ ap Some shown.is)
      ∙ ap (λ t. Some (Truth t)) (sym (same_numbers types v values w m shown.n) ∙ ap (λ u. value_eq u (Bits w shown.n)) (sym literal) ∙ ap (value_eq y) (sym shown.is)))
