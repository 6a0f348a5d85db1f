-- The value of an operation and those of its arguments.
use Rattle.std.proofs.Common.{◌≡◌, ◌∙◌, ℕ, Bool, true, false, List, [], ◌∷◌, map, Option, Some, None, refl, ap, sym, subst, if◌then◌else◌, nat_le}
use Rattle.std.specs.Prelude.{not, ◌==◌, ◌&&◌, ◌||◌, option_and_then}
use Rattle.std.proofs.lemmas.Bool.{and_parts, and_from, eqb-true, eq-eqb}
use Rattle.kat_value.specs.declared.op.Op.{Op}
use Rattle.kat_value.specs.declared.op.Op.TheVariants.{Not, And, Or, Eq, Zext, Ite}
use Rattle.kat_value.specs.declared.types.TypeDecl.{TypeDecl}
use Rattle.kat_value.specs.declared.value.Value.{Value, out-Value, roll-Value, out-roll-Value, roll-out-Value}
use Rattle.kat_value.specs.declared.value.Value.TheVariants.{Bool as Truth, Bits, rolls-Bool, rolls-Bits}
use Rattle.kat_value.specs.declared.value.Value.TheOpen.{Value-F, Bool as TruthLayer, Bits as BitsLayer}
use Rattle.kat_value.specs.Equality.{value_eq, TestsEquality}
use Rattle.kat_value.specs.Signatures.{same_type}
use Rattle.kat_value.specs.declared.types.Ty.TheVariants as ty
use Rattle.kat_value.specs.Widths.{is_number}
use Rattle.kat_value.specs.Widths.{widest}
use Rattle.kat_term.specs.declared.term.Term.{Term}
use Rattle.kat_term.specs.declared.term.Term.TheOpen.{Lit, Apply}
use Rattle.kat_term.specs.declared.term.Term.TheVariants.{Lit as LitTerm, Apply as ApplyTerm, rolls-Lit, rolls-Apply}
use Rattle.kat_term.specs.declared.term.Term.TheFolds.{fold-roll-Term}
use Rattle.kat_value.specs.Operations.{of_truth, of_truths, of_number, of_numbers, can_be_chosen, of_choice, value_of_one, value_of_two, value_of_three, value_of_op}
use Rattle.kat_value.specs.Shown.{type_of_layer, type_of_value, one_type}
use Rattle.kat_value.specs.Making.{all_there}
use Rattle.kat_term.specs.Values.{Valuation, IsKept, is_literal, literal_value, value_layer, value_of}
use Rattle.kat_term.specs.Views.{one, two, three, truth, bits}

-- the layers of values
pub out-Truth : (b : Bool) → out-Value (Truth b) ≡ TruthLayer b
out-Truth b = ap out-Value (sym (rolls-Bool b)) ∙ out-roll-Value (TruthLayer b)

pub out-Bits : (w n : ℕ) → out-Value (Bits w n) ≡ BitsLayer w n
out-Bits w n = ap out-Value (sym (rolls-Bits w n)) ∙ out-roll-Value (BitsLayer w n)

pub truth_by_layer : (y : Value) (p : Bool) → out-Value y ≡ TruthLayer p → y ≡ Truth p
truth_by_layer y p is = sym (roll-out-Value y) ∙ ap roll-Value is ∙ rolls-Bool p

pub bits_by_layer : (y : Value) (w n : ℕ) → out-Value y ≡ BitsLayer w n → y ≡ Bits w n
bits_by_layer y w n is = sym (roll-out-Value y) ∙ ap roll-Value is ∙ rolls-Bits w n

-- layers that operations take
record TruthIn (y : Value-F Value) : Type 0 where
  p : Bool
  is : y ≡ TruthLayer p

record NumberIn (takes : ℕ → Bool) (y : Value-F Value) : Type 0 where
  w : ℕ
  n : ℕ
  is : y ≡ BitsLayer w n
  fits : is_number w n ≡ true
  taken : takes w ≡ true

record NumbersIn (y z : Value-F Value) : Type 0 where
  w : ℕ
  m : ℕ
  n : ℕ
  first : y ≡ BitsLayer w m
  second : z ≡ BitsLayer w n
  first_fits : is_number w m ≡ true
  second_fits : is_number w n ≡ true

truth_in : (f : Bool → Bool) (y : Value-F Value) (x : Value) → of_truth f y ≡ Some x → TruthIn y
truth_in f (TruthLayer p) x e = record { p = p; is = refl }
truth_in f _ x e = cc

first_truth : (f : Bool → Bool → Bool) (y z : Value-F Value) (x : Value) → of_truths f y z ≡ Some x → TruthIn y
first_truth f (TruthLayer p) (TruthLayer q) x e = record { p = p; is = refl }
first_truth f _ _ x e = cc

second_truth : (f : Bool → Bool → Bool) (y z : Value-F Value) (x : Value) → of_truths f y z ≡ Some x → TruthIn z
second_truth f (TruthLayer p) (TruthLayer q) x e = record { p = q; is = refl }
second_truth f _ _ x e = cc

number_in : (takes : ℕ → Bool) (f : ℕ → ℕ → Value) (y : Value-F Value) (x : Value) → of_number takes f y ≡ Some x → NumberIn takes y
number_in takes f (BitsLayer w n) x e = by (is_number w n && takes w) refl e where
  by : (b : Bool) → (is_number w n && takes w) ≡ b → (if b then Some (f w n) else None) ≡ Some x → NumberIn takes (BitsLayer w n)
  by true is h = let parts = and_parts (is_number w n) (takes w) is in record { w = w; n = n; is = refl; fits = parts.0; taken = parts.1 }
  by false is h = cc
number_in takes f _ x e = cc

numbers_in : (f : ℕ → ℕ → ℕ → Value) (y z : Value-F Value) (x : Value) → of_numbers f y z ≡ Some x → NumbersIn y z
numbers_in f (BitsLayer w m) (BitsLayer u n) x e = by ((w == u) && (is_number w m && is_number w n)) refl e where
  by : (b : Bool) → ((w == u) && (is_number w m && is_number w n)) ≡ b → (if b then Some (f w m n) else None) ≡ Some x → NumbersIn (BitsLayer w m) (BitsLayer u n)
  by true is h =
      let parts = and_parts (w == u) (is_number w m && is_number w n) is in
      let fits = and_parts (is_number w m) (is_number w n) parts.1 in
      record { w = w; m = m; n = n; first = refl; second = ap (λ k. BitsLayer k n) (sym (eqb-true w u parts.0)); first_fits = fits.0; second_fits = fits.1 }
  by false is h = cc
numbers_in f _ _ x e = cc

module _ (types : List TypeDecl) (v : Valuation) where
  pub value_of-Lit : (x : Value) → value_of types v (LitTerm x) ≡ literal_value types x
  value_of-Lit x = ap (value_of types v) (sym (rolls-Lit x)) ∙ fold-roll-Term (Option Value) (value_layer types v) (Lit x)

  pub value_of-Apply : (op : Op) (ts : List Term) → value_of types v (ApplyTerm op ts) ≡ option_and_then (value_of_op op) (all_there (map (value_of types v) ts))
  value_of-Apply op ts = ap (value_of types v) (sym (rolls-Apply op ts)) ∙ fold-roll-Term (Option Value) (value_layer types v) (Apply op ts)

  -- literals
  pub truth_value : (b : Bool) → value_of types v (truth b) ≡ Some (Truth b)
  truth_value b = value_of-Lit (Truth b) ∙ ap (λ y. if is_literal types y then Some (Truth b) else None) (out-Truth b)

  pub bits_value : (w n : ℕ) → is_number w n ≡ true → value_of types v (bits w n) ≡ Some (Bits w n)
  bits_value w n fits =
      value_of-Lit (Bits w n) ∙ ap (λ y. if is_literal types y then Some (Bits w n) else None) (out-Bits w n)
      ∙ ap (λ b. if b then Some (Bits w n) else None) fits

  -- the values of the arguments of an operation that has a value
  pub record OneAt (op : Op) (a : Term) (x : Value) : Type 0 where
    pub y : Value
    pub at : value_of types v a ≡ Some y
    pub is : value_of_one op (out-Value y) ≡ Some x

  pub record TwoAt (op : Op) (a b : Term) (x : Value) : Type 0 where
    pub y : Value
    pub z : Value
    pub first : value_of types v a ≡ Some y
    pub second : value_of types v b ≡ Some z
    pub is : value_of_two op y z ≡ Some x

  pub record ThreeAt (op : Op) (a b c : Term) (x : Value) : Type 0 where
    pub y : Value
    pub z : Value
    pub u : Value
    pub first : value_of types v a ≡ Some y
    pub second : value_of types v b ≡ Some z
    pub third : value_of types v c ≡ Some u
    pub is : value_of_three op y z u ≡ Some x

  pub one_parts : (op : Op) (a : Term) (x : Value) → value_of types v (one op a) ≡ Some x → OneAt op a x
  one_parts op a x has = by (value_of types v a) refl (sym (value_of-Apply op (a ∷ [])) ∙ has) where
    by : (o : Option Value) → value_of types v a ≡ o → option_and_then (value_of_op op) (all_there (o ∷ [])) ≡ Some x → OneAt op a x
    by None at h = cc
    by (Some y) at h = record { y = y; at = at; is = h }

  pub two_parts : (op : Op) (a b : Term) (x : Value) → value_of types v (two op a b) ≡ Some x → TwoAt op a b x
  two_parts op a b x has = by (value_of types v a) (value_of types v b) refl refl (sym (value_of-Apply op (a ∷ b ∷ [])) ∙ has) where
    by : (o p : Option Value) → value_of types v a ≡ o → value_of types v b ≡ p → option_and_then (value_of_op op) (all_there (o ∷ p ∷ [])) ≡ Some x → TwoAt op a b x
    by None p first second h = cc
    by (Some y) None first second h = cc
    by (Some y) (Some z) first second h = record { y = y; z = z; first = first; second = second; is = h }

  pub three_parts : (op : Op) (a b c : Term) (x : Value) → value_of types v (three op a b c) ≡ Some x → ThreeAt op a b c x
  three_parts op a b c x has = by (value_of types v a) (value_of types v b) (value_of types v c) refl refl refl (sym (value_of-Apply op (a ∷ b ∷ c ∷ [])) ∙ has) where
    by : (o p q : Option Value) → value_of types v a ≡ o → value_of types v b ≡ p → value_of types v c ≡ q →
        option_and_then (value_of_op op) (all_there (o ∷ p ∷ q ∷ [])) ≡ Some x → ThreeAt op a b c x
    by None p q first second third h = cc
    by (Some y) None q first second third h = cc
    by (Some y) (Some z) None first second third h = cc
    by (Some y) (Some z) (Some u) first second third h = record { y = y; z = z; u = u; first = first; second = second; third = third; is = h }

  -- and the value of an operation on terms that have values
  pub one_from : (op : Op) (a : Term) (y : Value) → value_of types v a ≡ Some y → value_of types v (one op a) ≡ value_of_one op (out-Value y)
  one_from op a y at = value_of-Apply op (a ∷ []) ∙ ap (λ o. option_and_then (value_of_op op) (all_there (o ∷ []))) at

  pub two_from : (op : Op) (a b : Term) (y z : Value) → value_of types v a ≡ Some y → value_of types v b ≡ Some z → value_of types v (two op a b) ≡ value_of_two op y z
  two_from op a b y z first second =
      value_of-Apply op (a ∷ b ∷ []) ∙ ap (λ o. option_and_then (value_of_op op) (all_there (o ∷ value_of types v b ∷ []))) first
      ∙ ap (λ o. option_and_then (value_of_op op) (all_there (Some y ∷ o ∷ []))) second

  pub three_from : (op : Op) (a b c : Term) (y z u : Value) → value_of types v a ≡ Some y → value_of types v b ≡ Some z → value_of types v c ≡ Some u →
      value_of types v (three op a b c) ≡ value_of_three op y z u
  three_from op a b c y z u first second third =
      value_of-Apply op (a ∷ b ∷ c ∷ []) ∙ ap (λ o. option_and_then (value_of_op op) (all_there (o ∷ value_of types v b ∷ value_of types v c ∷ []))) first
      ∙ ap (λ o. option_and_then (value_of_op op) (all_there (Some y ∷ o ∷ value_of types v c ∷ []))) second
      ∙ ap (λ o. option_and_then (value_of_op op) (all_there (Some y ∷ Some z ∷ o ∷ []))) third

  -- truths
  pub record TruthOf (a : Term) : Type 0 where
    pub p : Bool
    pub is : value_of types v a ≡ Some (Truth p)

  pub not_in : (a : Term) (x : Value) → value_of types v (one Not a) ≡ Some x → TruthOf a
  not_in a x has =
      let o = one_parts Not a x has in
      let t = truth_in not (out-Value o.y) x o.is in
      record { p = t.p; is = o.at ∙ ap Some (truth_by_layer o.y t.p t.is) }

  pub not_from : (a : Term) (p : Bool) → value_of types v a ≡ Some (Truth p) → value_of types v (one Not a) ≡ Some (Truth (not p))
  not_from a p is = one_from Not a (Truth p) is ∙ ap (of_truth not) (out-Truth p)

  pub record TruthsOf (a b : Term) : Type 0 where
    pub p : Bool
    pub q : Bool
    pub first : value_of types v a ≡ Some (Truth p)
    pub second : value_of types v b ≡ Some (Truth q)

  truths_of : (f : Bool → Bool → Bool) (op : Op) (a b : Term) (x : Value) (o : TwoAt op a b x) → of_truths f (out-Value o.y) (out-Value o.z) ≡ Some x → TruthsOf a b
  truths_of f op a b x o is =
      let s = first_truth f (out-Value o.y) (out-Value o.z) x is in
      let t = second_truth f (out-Value o.y) (out-Value o.z) x is in
      record { p = s.p; q = t.p; first = o.first ∙ ap Some (truth_by_layer o.y s.p s.is); second = o.second ∙ ap Some (truth_by_layer o.z t.p t.is) }

  pub and_in : (a b : Term) (x : Value) → value_of types v (two And a b) ≡ Some x → TruthsOf a b
  and_in a b x has = let o = two_parts And a b x has in truths_of (λ p q. p && q) And a b x o o.is

  pub or_in : (a b : Term) (x : Value) → value_of types v (two Or a b) ≡ Some x → TruthsOf a b
  or_in a b x has = let o = two_parts Or a b x has in truths_of (λ p q. p || q) Or a b x o o.is

  pub and_from_truths : (a b : Term) (p q : Bool) → value_of types v a ≡ Some (Truth p) → value_of types v b ≡ Some (Truth q) → value_of types v (two And a b) ≡ Some (Truth (p && q))
  and_from_truths a b p q first second =
      two_from And a b (Truth p) (Truth q) first second ∙ ap (λ y. of_truths (λ p q. p && q) y (out-Value (Truth q))) (out-Truth p)
      ∙ ap (λ z. of_truths (λ p q. p && q) (TruthLayer p) z) (out-Truth q)

  pub or_from_truths : (a b : Term) (p q : Bool) → value_of types v a ≡ Some (Truth p) → value_of types v b ≡ Some (Truth q) → value_of types v (two Or a b) ≡ Some (Truth (p || q))
  or_from_truths a b p q first second =
      two_from Or a b (Truth p) (Truth q) first second ∙ ap (λ y. of_truths (λ p q. p || q) y (out-Value (Truth q))) (out-Truth p)
      ∙ ap (λ z. of_truths (λ p q. p || q) (TruthLayer p) z) (out-Truth q)

  -- numbers
  pub record NumberOf (takes : ℕ → Bool) (a : Term) : Type 0 where
    pub w : ℕ
    pub n : ℕ
    pub is : value_of types v a ≡ Some (Bits w n)
    pub fits : is_number w n ≡ true
    pub taken : takes w ≡ true

  pub number_of_part : (takes : ℕ → Bool) (f : ℕ → ℕ → Value) (a : Term) (y x : Value) → value_of types v a ≡ Some y → of_number takes f (out-Value y) ≡ Some x → NumberOf takes a
  number_of_part takes f a y x at is =
      let t = number_in takes f (out-Value y) x is in
      record { w = t.w; n = t.n; is = at ∙ ap Some (bits_by_layer y t.w t.n t.is); fits = t.fits; taken = t.taken }

  pub number_made : (takes : ℕ → Bool) (f : ℕ → ℕ → Value) (w n : ℕ) → is_number w n ≡ true → takes w ≡ true → of_number takes f (out-Value (Bits w n)) ≡ Some (f w n)
  number_made takes f w n fits taken =
      ap (of_number takes f) (out-Bits w n) ∙ ap (λ b. if b then Some (f w n) else None) (and_from (is_number w n) (takes w) fits taken)

  pub record NumbersOf (a b : Term) : Type 0 where
    pub w : ℕ
    pub m : ℕ
    pub n : ℕ
    pub first : value_of types v a ≡ Some (Bits w m)
    pub second : value_of types v b ≡ Some (Bits w n)
    pub first_fits : is_number w m ≡ true
    pub second_fits : is_number w n ≡ true

  pub numbers_of_parts : (f : ℕ → ℕ → ℕ → Value) (op : Op) (a b : Term) (x : Value) (o : TwoAt op a b x) → of_numbers f (out-Value o.y) (out-Value o.z) ≡ Some x → NumbersOf a b
  numbers_of_parts f op a b x o is =
      let t = numbers_in f (out-Value o.y) (out-Value o.z) x is in
      record {
        w = t.w;
        m = t.m;
        n = t.n;
        first = o.first ∙ ap Some (bits_by_layer o.y t.w t.m t.first);
        second = o.second ∙ ap Some (bits_by_layer o.z t.w t.n t.second);
        first_fits = t.first_fits;
        second_fits = t.second_fits;
      }

  pub numbers_made : (f : ℕ → ℕ → ℕ → Value) (w m n : ℕ) → is_number w m ≡ true → is_number w n ≡ true → of_numbers f (out-Value (Bits w m)) (out-Value (Bits w n)) ≡ Some (f w m n)
  numbers_made f w m n first second =
      ap (λ y. of_numbers f y (out-Value (Bits w n))) (out-Bits w m) ∙ ap (λ z. of_numbers f (BitsLayer w m) z) (out-Bits w n)
      ∙ ap (λ b. if b then Some (f w m n) else None)
      (and_from (w == w) (is_number w m && is_number w n) (eq-eqb w w refl) (and_from (is_number w m) (is_number w n) first second))

  -- an operation on two numbers of one width
  abbrev pub IsOnNumbers : Op → (ℕ → ℕ → ℕ → Value) → Type 0
  IsOnNumbers op f = (y z : Value) → value_of_two op y z ≡ of_numbers f (out-Value y) (out-Value z)

  pub numbers_of_two : (op : Op) (f : ℕ → ℕ → ℕ → Value) → IsOnNumbers op f → (a b : Term) (x : Value) → value_of types v (two op a b) ≡ Some x → NumbersOf a b
  numbers_of_two op f is a b x has = let t = two_parts op a b x has in numbers_of_parts f op a b x t (sym (is t.y t.z) ∙ t.is)

  pub numbers_from : (op : Op) (f : ℕ → ℕ → ℕ → Value) → IsOnNumbers op f → (a b : Term) (w m n : ℕ) →
      value_of types v a ≡ Some (Bits w m) → value_of types v b ≡ Some (Bits w n) → is_number w m ≡ true → is_number w n ≡ true →
      value_of types v (two op a b) ≡ Some (f w m n)
  numbers_from op f is a b w m n first second first_fits second_fits =
      two_from op a b (Bits w m) (Bits w n) first second ∙ is (Bits w m) (Bits w n) ∙ numbers_made f w m n first_fits second_fits

  -- what has the value that the operation gives keeps its value
  pub on_numbers : (op : Op) (f : ℕ → ℕ → ℕ → Value) → IsOnNumbers op f → (a b r : Term) →
      ((w m n : ℕ) → value_of types v a ≡ Some (Bits w m) → value_of types v b ≡ Some (Bits w n) → is_number w m ≡ true → is_number w n ≡ true →
      value_of types v r ≡ Some (f w m n)) →
      IsKept (value_of types v (two op a b)) (value_of types v r)
  on_numbers op f is a b r gives x has =
      let i = numbers_of_two op f is a b x has in
      gives i.w i.m i.n i.first i.second i.first_fits i.second_fits
      ∙ sym (numbers_from op f is a b i.w i.m i.n i.first i.second i.first_fits i.second_fits) ∙ has

  -- the number of a literal
  literal_told : (w n u m : ℕ) → Some (Bits w n) ≡ Some (Bits u m) → (u ≡ w) × (m ≡ n)
  literal_told w n u m e = (cc, cc)

  pub literal_is : (w n u m : ℕ) → is_number w n ≡ true → value_of types v (bits w n) ≡ Some (Bits u m) → (u ≡ w) × (m ≡ n)
  literal_is w n u m fits is = literal_told w n u m (sym (bits_value w n fits) ∙ is)

  -- an operation whose first side is a literal, and one whose second is
  pub on_first_literal : (op : Op) (f : ℕ → ℕ → ℕ → Value) → IsOnNumbers op f → (w m : ℕ) (b r : Term) → is_number w m ≡ true →
      ((n : ℕ) → value_of types v b ≡ Some (Bits w n) → is_number w n ≡ true → value_of types v r ≡ Some (f w m n)) →
      IsKept (value_of types v (two op (bits w m) b)) (value_of types v r)
  on_first_literal op f is w m b r fits gives =
      on_numbers op f is (bits w m) b r
      (λ u k n first second first_fits second_fits. let same = literal_is w m u k fits first in
      gives n (second ∙ ap (λ i. Some (Bits i n)) same.0) (ap (λ i. is_number i n) (sym same.0) ∙ second_fits)
      ∙ ap (λ i. Some (f i m n)) (sym same.0) ∙ ap (λ i. Some (f u i n)) (sym same.1))

  pub on_second_literal : (op : Op) (f : ℕ → ℕ → ℕ → Value) → IsOnNumbers op f → (w n : ℕ) (a r : Term) → is_number w n ≡ true →
      ((m : ℕ) → value_of types v a ≡ Some (Bits w m) → is_number w m ≡ true → value_of types v r ≡ Some (f w m n)) →
      IsKept (value_of types v (two op a (bits w n))) (value_of types v r)
  on_second_literal op f is w n a r fits gives =
      on_numbers op f is a (bits w n) r
      (λ u m k first second first_fits second_fits. let same = literal_is w n u k fits second in
      gives m (first ∙ ap (λ i. Some (Bits i m)) same.0) (ap (λ i. is_number i m) (sym same.0) ∙ first_fits)
      ∙ ap (λ i. Some (f i m n)) (sym same.0) ∙ ap (λ i. Some (f u m i)) (sym same.1))

  -- equal sides
  pub on_same_sides : (op : Op) (f : ℕ → ℕ → ℕ → Value) → IsOnNumbers op f → (a r : Term) →
      ((w m : ℕ) → value_of types v a ≡ Some (Bits w m) → is_number w m ≡ true → value_of types v r ≡ Some (f w m m)) →
      IsKept (value_of types v (two op a a)) (value_of types v r)
  on_same_sides op f is a r gives =
      on_numbers op f is a a r
      (λ w m n first second first_fits second_fits. let same = literal_told w m w n (sym first ∙ second) in
      gives w m first first_fits ∙ ap (λ i. Some (f w m i)) (sym same.1))

  -- what has two values has one
  pub only_value : (l r : Term) (x y z : Value) → value_of types v l ≡ Some x → value_of types v l ≡ Some y → y ≡ z → value_of types v r ≡ Some z → value_of types v r ≡ Some x
  only_value l r x y z has forward same right = right ∙ ap Some (sym same) ∙ sym forward ∙ has

  -- choices: the condition is a truth, and the side that it chooses has the value
  pub record ChoiceOf (c a b : Term) (x : Value) : Type 0 where
    pub p : Bool
    pub y : Value
    pub z : Value
    pub is : value_of types v c ≡ Some (Truth p)
    pub first : value_of types v a ≡ Some y
    pub second : value_of types v b ≡ Some z
    pub one : (can_be_chosen (type_of_value y) && one_type y z) ≡ true
    pub chosen_by : (q : Bool) → value_of types v c ≡ Some (Truth q) → value_of types v (if q then a else b) ≡ Some x

  truth_told : (p q : Bool) → Some (Truth p) ≡ Some (Truth q) → p ≡ q
  truth_told p q e = cc

  pub choice_in : (c a b : Term) (x : Value) → value_of types v (three Ite c a b) ≡ Some x → ChoiceOf c a b x
  choice_in c a b x has = let o = three_parts Ite c a b x has in by (out-Value o.y) refl o.y o.z o.u o.first o.second o.third o.is where
    value : (p : Bool) (z u : Value) → value_of types v a ≡ Some z → value_of types v b ≡ Some u → Some (if p then z else u) ≡ Some x → value_of types v (if p then a else b) ≡ Some x
    value true z u second third h = second ∙ h
    value false z u second third h = third ∙ h

    pick : (p : Bool) (y z u : Value) → out-Value y ≡ TruthLayer p → value_of types v c ≡ Some y → value_of types v a ≡ Some z → value_of types v b ≡ Some u →
        (t : Bool) → (can_be_chosen (type_of_value z) && one_type z u) ≡ t → (if t then Some (if p then z else u) else None) ≡ Some x → ChoiceOf c a b x
    pick p y z u layer first second third true test h =
        let is : value_of types v c ≡ Some (Truth p) = first ∙ ap Some (truth_by_layer y p layer) in
        record {
          p = p;
          y = z;
          z = u;
          is = is;
          first = second;
          second = third;
          one = test;
          chosen_by = λ q also. subst (λ d. value_of types v (if d then a else b) ≡ Some x) (truth_told p q (sym is ∙ also)) (value p z u second third h);
        }
    pick p y z u layer first second third false test h = cc

    by : (l : Value-F Value) → l ≡ l → (y z u : Value) → value_of types v c ≡ Some y → value_of types v a ≡ Some z → value_of types v b ≡ Some u → value_of_three Ite y z u ≡ Some x → ChoiceOf c a b x
    by l same y z u first second third h = layers (out-Value y) refl h where
      layers : (l : Value-F Value) → out-Value y ≡ l → of_choice l z u ≡ Some x → ChoiceOf c a b x
      layers (TruthLayer p) layer h = pick p y z u layer first second third (can_be_chosen (type_of_value z) && one_type z u) refl h
      layers _ layer h = cc

  pub choice_from : (c a b : Term) (p : Bool) (y z : Value) → value_of types v c ≡ Some (Truth p) → value_of types v a ≡ Some y → value_of types v b ≡ Some z →
      (can_be_chosen (type_of_value y) && one_type y z) ≡ true → value_of types v (three Ite c a b) ≡ Some (if p then y else z)
  choice_from c a b p y z is first second one =
      three_from Ite c a b (Truth p) y z is first second ∙ ap (λ l. of_choice l y z) (out-Truth p) ∙ ap (λ t. if t then Some (if p then y else z) else None) one

  -- equations of numbers
  pub same_numbers : TestsEquality → (w m n : ℕ) → value_eq (Bits w m) (Bits w n) ≡ (m == n)
  same_numbers values w m n = by (value_eq (Bits w m) (Bits w n)) (m == n) refl refl where
    by : (p q : Bool) → value_eq (Bits w m) (Bits w n) ≡ p → (m == n) ≡ q → p ≡ q
    by true true is test = refl
    by false false is test = refl
    by true false is test = let same : Bits w m ≡ Bits w n = (values (Bits w m) (Bits w n)).0 is in let e : m ≡ n = cc in sym (eq-eqb m n e) ∙ test
    by false true is test = sym is ∙ (values (Bits w m) (Bits w n)).1 (ap (Bits w) (eqb-true m n test))

  one_type_of_numbers : (w m n : ℕ) → one_type (Bits w m) (Bits w n) ≡ true
  one_type_of_numbers w m n =
      ap (λ y. same_type (type_of_layer y) (type_of_value (Bits w n))) (out-Bits w m) ∙ ap (λ y. same_type (ty.Bits w) (type_of_layer y)) (out-Bits w n) ∙ eq-eqb w w refl

  pub equal_numbers : TestsEquality → (a b : Term) (w m n : ℕ) → value_of types v a ≡ Some (Bits w m) → value_of types v b ≡ Some (Bits w n) → value_of types v (two Eq a b) ≡ Some (Truth (m == n))
  equal_numbers values a b w m n first second =
      two_from Eq a b (Bits w m) (Bits w n) first second ∙ ap (λ t. if t then Some (Truth (value_eq (Bits w m) (Bits w n))) else None) (one_type_of_numbers w m n)
      ∙ ap (λ t. Some (Truth t)) (same_numbers values w m n)

  -- an operation on one number
  abbrev pub IsOnNumber : Op → (ℕ → Bool) → (ℕ → ℕ → Value) → Type 0
  IsOnNumber op takes f = (y : Value-F Value) → value_of_one op y ≡ of_number takes f y

  pub number_of_one : (op : Op) (takes : ℕ → Bool) (f : ℕ → ℕ → Value) → IsOnNumber op takes f → (a : Term) (x : Value) → value_of types v (one op a) ≡ Some x → NumberOf takes a
  number_of_one op takes f is a x has = let o = one_parts op a x has in number_of_part takes f a o.y x o.at (sym (is (out-Value o.y)) ∙ o.is)

  pub number_from : (op : Op) (takes : ℕ → Bool) (f : ℕ → ℕ → Value) → IsOnNumber op takes f → (a : Term) (w n : ℕ) →
      value_of types v a ≡ Some (Bits w n) → is_number w n ≡ true → takes w ≡ true → value_of types v (one op a) ≡ Some (f w n)
  number_from op takes f is a w n at fits taken = one_from op a (Bits w n) at ∙ is (out-Value (Bits w n)) ∙ number_made takes f w n fits taken

  pub on_number : (op : Op) (takes : ℕ → Bool) (f : ℕ → ℕ → Value) → IsOnNumber op takes f → (a r : Term) →
      ((w n : ℕ) → value_of types v a ≡ Some (Bits w n) → is_number w n ≡ true → takes w ≡ true → value_of types v r ≡ Some (f w n)) →
      IsKept (value_of types v (one op a)) (value_of types v r)
  on_number op takes f is a r gives x has =
      let i = number_of_one op takes f is a x has in
      gives i.w i.n i.is i.fits i.taken ∙ sym (number_from op takes f is a i.w i.n i.is i.fits i.taken) ∙ has

  -- a number with zeros above it
  abbrev pub zext_takes : ℕ → ℕ → Bool
  zext_takes v w = nat_le w v && nat_le v widest

  pub record ZextOf (w : ℕ) (a : Term) (x : Value) : Type 0 where
    pub u : ℕ
    pub n : ℕ
    pub is : value_of types v a ≡ Some (Bits u n)
    pub fits : is_number u n ≡ true
    pub taken : zext_takes w u ≡ true
    pub gives : Bits w n ≡ x

  pub zext_of : (w : ℕ) (a : Term) (x : Value) → value_of types v (one (Zext w) a) ≡ Some x → ZextOf w a x
  zext_of w a x has =
      let i = number_of_one (Zext w) (zext_takes w) (λ u n. Bits w n) (λ y. refl) a x has in
      let forward = number_from (Zext w) (zext_takes w) (λ u n. Bits w n) (λ y. refl) a i.w i.n i.is i.fits i.taken in
      record { u = i.w; n = i.n; is = i.is; fits = i.fits; taken = i.taken; gives = same_value (Bits w i.n) x (sym forward ∙ has) } where
        same_value : (y z : Value) → Some y ≡ Some z → y ≡ z
        same_value y z e = cc
