-- An operation has a value exactly on values of types that it takes, and the value is of the type
-- that it gives; so have a constructor and a record.
use Rattle.std.proofs.Common.{◌≡◌, ◌∙◌, ℕ, zero, suc, ◌+◌, ◌-◌, ◌<◌, ◌≤◌, Bool, true, false, List, [], ◌∷◌, length, map, Option, Some, None, refl, ap, sym, subst, if◌then◌else◌, arith, nat_lt, nat_le}
use Rattle.std.specs.Prelude.{not, ◌==◌, ◌&&◌, ◌||◌, slice_get, option_and_then}
use Rattle.std.specs.Option.{option_map}
use Rattle.std.proofs.lemmas.Bool.{and_parts, and_from, eqb-true, ne_eqb}
use Rattle.kat_value.specs.declared.op.Op.{Op}
use Rattle.kat_value.specs.declared.op.Op.TheVariants.{Not, And, Or, Eq, Ult, Ule, Slt, Sle, Add, Sub, Mul, Band, Bor, Bxor, Bnot, Shl, Shr, Sar, Slice, Cat, Zext, Sext, Ite, Get}
use Rattle.kat_value.specs.declared.signature.Signature.{Signature}
use Rattle.kat_value.specs.declared.signature.Signature.TheVariants as signature
use Rattle.kat_value.specs.declared.types.Field.{Field}
use Rattle.kat_value.specs.declared.types.Ty.{Ty}
use Rattle.kat_value.specs.declared.types.Ty.TheVariants as ty
use Rattle.kat_value.specs.declared.types.TypeDecl.{TypeDecl}
use Rattle.kat_value.specs.declared.value.Value.{Value, out-Value}
use Rattle.kat_value.specs.declared.value.Value.TheVariants.{Bool as Truth, Bits, Made, Rec}
use Rattle.kat_value.specs.declared.value.Value.TheOpen.{Value-F, Bool as TruthLayer, Bits as BitsLayer, Rec as RecLayer}
use Rattle.kat_value.specs.Equality.{value_eq}
use Rattle.kat_value.specs.Numbers.{truth_of_op, number_of_op}
use Rattle.kat_value.specs.Widths.{is_number, widest, is_width}
use Rattle.kat_value.specs.Signatures.{same_type, signature_of, all_taken, widths_fit, type_given, type_of_op, bits_of}
use Rattle.kat_value.specs.Typing.{has_type, layer_has_type, passes_ctor, all_pass, pass_record, ctor_at, fields_at}
use Rattle.kat_value.specs.Words.{arity_of}
use Rattle.kat_value.specs.Operations.{of_truth, of_truths, of_number, of_numbers, of_parts, field_of, of_equals, can_be_chosen, of_choice, value_of_one, value_of_two, value_of_three, value_of_op}
use Rattle.kat_value.specs.Making.{value_of_making, value_of_record}
use Rattle.kat_value.specs.OperationTypes.{IsValueThere, IsExact, ExactOperations, type_of_application, type_of_making, type_of_record}
use Rattle.kat_value.specs.Shown.{type_of_layer, type_of_value, IsValue, AreValues}
use Rattle.kat_value.proofs.NumbersBelow.{KeepsWidth, add_keeps, sub_keeps, mul_keeps, band_keeps, bor_keeps, bxor_keeps, shl_keeps, shr_keeps, sar_keeps, bnot_keeps, slice_number, cat_number, longer_width, zext_number, sext_number}
use Rattle.kat_value.proofs.ShownTypes.{tested, has_type-out, is_value, shows, test_is, truth_is_value, bits_are_value, shown-Truth, shown-Bits, shown-Made, shown-Rec, made_is_value, rec_is_value}

-- there is neither a value nor a type
pub none_exact : (types : List TypeDecl) → IsExact types None None
none_exact types = record { typed = refl; there = tt }

truth_exact : (types : List TypeDecl) (b : Bool) → IsExact types (Some (Truth b)) (Some ty.Bool)
truth_exact types b = record { typed = ap Some (shown-Truth b); there = truth_is_value types b }

bits_exact : (types : List TypeDecl) (w n : ℕ) → is_number w n ≡ true → IsExact types (Some (Bits w n)) (Some (ty.Bits w))
bits_exact types w n is = record { typed = ap Some (shown-Bits w n); there = bits_are_value types w n is }

-- the type of an operation with this signature on as many arguments of these types
abbrev typed : List TypeDecl → Signature → List (Option Ty) → Option Ty
typed types signature args = if all_taken signature 0 None args && widths_fit signature args then type_given types signature args else None

-- a layer of a value that is of the type that it shows
abbrev IsLayer : List TypeDecl → Value-F Value → Type 0
IsLayer types y = layer_has_type types (tested types y) (type_of_layer y) ≡ true

layer_of : (types : List TypeDecl) (x : Value) → IsValue types x → IsLayer types (out-Value x)
layer_of types x is = sym (has_type-out types x (type_of_value x)) ∙ is

number_in : (types : List TypeDecl) (w n : ℕ) → IsLayer types (BitsLayer w n) → is_number w n ≡ true
number_in types w n is = (and_parts (w == w) (is_number w n) is).1

module _ (types : List TypeDecl) where
  not_exact : (x : Value-F Value) → IsExact types (of_truth not x) (type_of_op types Not (Some (type_of_layer x) ∷ []))
  not_exact (TruthLayer p) = truth_exact types (not p)
  not_exact _ = none_exact types

  truths_exact : (f : Bool → Bool → Bool) (x y : Value-F Value) → IsExact types (of_truths f x y) (typed types signature.Truths (Some (type_of_layer x) ∷ Some (type_of_layer y) ∷ []))
  truths_exact f (TruthLayer p) (TruthLayer q) = truth_exact types (f p q)
  truths_exact f _ _ = none_exact types

  both : (w m v n : ℕ) → IsLayer types (BitsLayer w m) → IsLayer types (BitsLayer v n) → (w == v) ≡ true → (is_number w m && is_number w n) ≡ true
  both w m v n first second e =
      and_from (is_number w m) (is_number w n) (number_in types w m first) (ap (λ u. is_number u n) (eqb-true w v e) ∙ number_in types v n second)

  chosen : (b : Bool) (o : Option Value) (t : Option Ty) → b ≡ true → IsExact types o t → IsExact types (if b then o else None) t
  chosen true o t e is = is
  chosen false o t e is = cc

  comparison_exact : (f : ℕ → ℕ → ℕ → Bool) (x y : Value-F Value) → IsLayer types x → IsLayer types y →
      IsExact types (of_numbers (λ w m n. Truth (f w m n)) x y) (typed types signature.Comparison (Some (type_of_layer x) ∷ Some (type_of_layer y) ∷ []))
  comparison_exact f (BitsLayer w m) (BitsLayer v n) first second = by (w == v) refl where
    by : (b : Bool) → (w == v) ≡ b → IsExact types (if b && (is_number w m && is_number w n) then Some (Truth (f w m n)) else None) (if (b && true) && true then Some ty.Bool else None)
    by true e = chosen (is_number w m && is_number w n) (Some (Truth (f w m n))) (Some ty.Bool) (both w m v n first second e) (truth_exact types (f w m n))
    by false e = none_exact types
  comparison_exact f _ _ first second = none_exact types

  arithmetic_exact : (f : ℕ → ℕ → ℕ → ℕ) → KeepsWidth f → (x y : Value-F Value) → IsLayer types x → IsLayer types y →
      IsExact types (of_numbers (λ w m n. Bits w (f w m n)) x y) (typed types signature.Arithmetic (Some (type_of_layer x) ∷ Some (type_of_layer y) ∷ []))
  arithmetic_exact f keeps (BitsLayer w m) (BitsLayer v n) first second = by (w == v) refl where
    by : (b : Bool) → (w == v) ≡ b →
        IsExact types (if b && (is_number w m && is_number w n) then Some (Bits w (f w m n)) else None) (if (b && true) && true then (if b then Some (ty.Bits w) else Some (ty.Bits w)) else None)
    by true e =
        let fit : (is_number w m && is_number w n) ≡ true = both w m v n first second e in
        let parts = and_parts (is_number w m) (is_number w n) fit in
        chosen (is_number w m && is_number w n) (Some (Bits w (f w m n))) (Some (ty.Bits w)) fit (bits_exact types w (f w m n) (keeps w m n parts.0 parts.1))
    by false e = none_exact types
  arithmetic_exact f keeps _ _ first second = none_exact types

  bnot_exact : (x : Value-F Value) → IsLayer types x → IsExact types (of_number (λ w. true) (λ w m. Bits w (number_of_op Bnot w m 0)) x) (typed types signature.Arithmetic (Some (type_of_layer x) ∷ []))
  bnot_exact (BitsLayer w m) is =
      let fits : is_number w m ≡ true = number_in types w m is in
      chosen (is_number w m && true) (Some (Bits w (number_of_op Bnot w m 0))) (Some (ty.Bits w)) (and_from (is_number w m) true fits refl)
      (bits_exact types w (number_of_op Bnot w m 0) (bnot_keeps w m fits))
  bnot_exact _ is = none_exact types

  -- bits of a width, where it is one
  width_exact : (w n : ℕ) → is_width w ≡ true → is_number w n ≡ true → IsExact types (Some (Bits w n)) (bits_of w)
  width_exact w n width is = by (is_width w) width where
    by : (b : Bool) → b ≡ true → IsExact types (Some (Bits w n)) (if b then Some (ty.Bits w) else None)
    by true e = bits_exact types w n is
    by false e = cc

  slice_exact : (hi lo : ℕ) (x : Value-F Value) → IsLayer types x →
      IsExact types (of_number (λ w. nat_le lo hi && nat_lt hi w) (λ w m. Bits (hi - lo + 1) (number_of_op (Slice hi lo) w m 0)) x)
      (typed types (signature.Slice hi lo) (Some (type_of_layer x) ∷ []))
  slice_exact hi lo (BitsLayer w m) is = by (nat_le lo hi) (nat_lt hi w) refl refl where
    fits : is_number w m ≡ true
    fits = number_in types w m is

    not_both : (c : Bool) → IsExact types (if c && false then Some (Bits (hi - lo + 1) (number_of_op (Slice hi lo) w m 0)) else None) None
    not_both true = none_exact types
    not_both false = none_exact types

    by : (a b : Bool) → nat_le lo hi ≡ a → nat_lt hi w ≡ b →
        IsExact types (if is_number w m && (a && b) then Some (Bits (hi - lo + 1) (number_of_op (Slice hi lo) w m 0)) else None)
        (if a && b then (if a then bits_of (hi - lo + 1) else None) else None)
    by true true order within =
        let number = slice_number hi lo w m fits order within in
        chosen (is_number w m && true) _ _ (and_from (is_number w m) true fits refl) (width_exact (hi - lo + 1) (number_of_op (Slice hi lo) w m 0) number.0 number.1)
    by true false order within = not_both (is_number w m)
    by false b order within = not_both (is_number w m)
  slice_exact hi lo _ is = none_exact types

  -- a number made longer
  extension_exact : (v : ℕ) (f : ℕ → ℕ → ℕ) → ((w m : ℕ) → is_number w m ≡ true → nat_le w v ≡ true → nat_le v widest ≡ true → is_number v (f w m) ≡ true) →
      (x : Value-F Value) → IsLayer types x →
      IsExact types (of_number (λ w. nat_le w v && nat_le v widest) (λ w m. Bits v (f w m)) x) (typed types (signature.Extension v) (Some (type_of_layer x) ∷ []))
  extension_exact v f keeps (BitsLayer w m) is = by (nat_le w v) (nat_le v widest) refl refl where
    fits : is_number w m ≡ true
    fits = number_in types w m is

    none : (c : Bool) → IsExact types (if c && false then Some (Bits v (f w m)) else None) None
    none true = none_exact types
    none false = none_exact types

    too_long : nat_le v widest ≡ false → bits_of v ≡ None
    too_long e = ap (λ b. if nat_le 1 v && b then Some (ty.Bits v) else None) e ∙ at (nat_le 1 v) where
      at : (b : Bool) → (if b && false then Some (ty.Bits v) else None) ≡ None
      at true = refl
      at false = refl

    by : (a b : Bool) → nat_le w v ≡ a → nat_le v widest ≡ b →
        IsExact types (if is_number w m && (a && b) then Some (Bits v (f w m)) else None) (if a then bits_of v else None)
    by true true longer small =
        chosen (is_number w m && true) _ _ (and_from (is_number w m) true fits refl)
        (width_exact v (f w m) (longer_width v w m fits longer small) (keeps w m fits longer small))
    by true false longer small = subst (λ t. IsExact types (if is_number w m && false then Some (Bits v (f w m)) else None) t) (sym (too_long small)) (none (is_number w m))
    by false b longer small = none (is_number w m)
  extension_exact v f keeps _ is = none_exact types

  cat_exact : (x y : Value-F Value) → IsLayer types x → IsLayer types y → IsExact types (of_parts x y) (typed types signature.Cat (Some (type_of_layer x) ∷ Some (type_of_layer y) ∷ []))
  cat_exact (BitsLayer v a) (BitsLayer w b) first second = by (nat_le (v + w) widest) refl where
    high : is_number v a ≡ true
    high = number_in types v a first

    low : is_number w b ≡ true
    low = number_in types w b second

    none : (c : Bool) → IsExact types (if c && false then Some (Bits (v + w) (number_of_op Cat w a b)) else None) None
    none true = none_exact types
    none false = none_exact types

    by : (c : Bool) → nat_le (v + w) widest ≡ c →
        IsExact types (if (is_number v a && is_number w b) && c then Some (Bits (v + w) (number_of_op Cat w a b)) else None) (if c then bits_of (v + w) else None)
    by true small =
        let number = cat_number v w a b high low small in
        chosen ((is_number v a && is_number w b) && true) _ _ (and_from (is_number v a && is_number w b) true (and_from (is_number v a) (is_number w b) high low) refl)
        (width_exact (v + w) (number_of_op Cat w a b) number.0 number.1)
    by false small = none (is_number v a && is_number w b)
  cat_exact _ _ first second = none_exact types

  equals_exact : (x y : Value) → IsExact types (of_equals x y) (typed types signature.Equality (Some (type_of_value x) ∷ Some (type_of_value y) ∷ []))
  equals_exact x y = by (same_type (type_of_value x) (type_of_value y)) where
    by : (b : Bool) → IsExact types (if b then Some (Truth (value_eq x y)) else None) (if (b && true) && true then Some ty.Bool else None)
    by true = truth_exact types (value_eq x y)
    by false = none_exact types

  -- one of two values of a type
  either_exact : (p : Bool) (x y : Value) (t : Ty) → type_of_value x ≡ t → type_of_value y ≡ t → IsValue types x → IsValue types y → IsExact types (Some (if p then x else y)) (Some t)
  either_exact true x y t first second x_is y_is = record { typed = ap Some first; there = x_is }
  either_exact false x y t first second x_is y_is = record { typed = ap Some second; there = y_is }

  choice_exact : (p : Bool) (x y : Value) (t u : Ty) → type_of_value x ≡ t → type_of_value y ≡ u → IsValue types x → IsValue types y →
      IsExact types (if can_be_chosen t && same_type t u then Some (if p then x else y) else None) (typed types signature.Choice (Some ty.Bool ∷ Some t ∷ Some u ∷ []))
  choice_exact p x y ty.Bool ty.Bool first second x_is y_is = either_exact p x y ty.Bool first second x_is y_is
  choice_exact p x y (ty.Bits w) (ty.Bits v) first second x_is y_is = by (w == v) refl where
    by : (b : Bool) → (w == v) ≡ b →
        IsExact types (if b then Some (if p then x else y) else None) (if (b && true) && true then (if b then Some (ty.Bits w) else Some (ty.Bits w)) else None)
    by true e = either_exact p x y (ty.Bits w) first (second ∙ ap ty.Bits (sym (eqb-true w v e))) x_is y_is
    by false e = none_exact types
  choice_exact p x y _ _ first second x_is y_is = none_exact types

  ite_exact : (c : Value-F Value) (x y : Value) → IsValue types x → IsValue types y →
      IsExact types (of_choice c x y) (typed types signature.Choice (Some (type_of_layer c) ∷ Some (type_of_value x) ∷ Some (type_of_value y) ∷ []))
  ite_exact (TruthLayer p) x y x_is y_is = choice_exact p x y (type_of_value x) (type_of_value y) refl refl x_is y_is
  ite_exact _ x y x_is y_is = none_exact types

  -- a field of a record is of its type
  field_exact : (xs : List Value) (fields : List Field) (i : ℕ) → all_pass (map (has_type types) xs) fields ≡ true →
      IsExact types (slice_get xs i) (option_map (λ (found : Field). found.ty) (slice_get fields i))
  field_exact [] [] i pass = none_exact types
  field_exact [] (field ∷ fields) i pass = cc
  field_exact (x ∷ xs) [] i pass = cc
  field_exact (x ∷ xs) (field ∷ fields) zero pass =
      let has : has_type types x field.ty ≡ true = (and_parts (has_type types x field.ty) (all_pass (map (has_type types) xs) fields) pass).0 in
      record { typed = ap Some (shows types field.ty x has); there = is_value types field.ty x has }
  field_exact (x ∷ xs) (field ∷ fields) (suc i) pass = field_exact xs fields i (and_parts (has_type types x field.ty) (all_pass (map (has_type types) xs) fields) pass).1

  record_exact : (xs : List Value) (declared : Option (List Field)) (i : ℕ) → pass_record (map (has_type types) xs) declared ≡ true →
      IsExact types (slice_get xs i) (option_map (λ (found : Field). found.ty) (option_and_then (λ fields. slice_get fields i) declared))
  record_exact xs (Some fields) i pass = field_exact xs fields i pass
  record_exact xs None i pass = cc

  get_exact : (of field : ℕ) (x : Value-F Value) → IsLayer types x → IsExact types (field_of of field x) (typed types (signature.Get of field) (Some (type_of_layer x) ∷ []))
  get_exact of field (RecLayer t xs) is = by (of == t) refl where
    by : (b : Bool) → (of == t) ≡ b →
        IsExact types (if b then slice_get xs field else None)
        (if (b && true) && true then option_map (λ (found : Field). found.ty) (option_and_then (λ fields. slice_get fields field) (fields_at types of)) else None)
    by true e =
        let pass : pass_record (map (has_type types) xs) (fields_at types t) ≡ true = (and_parts (t == t) (pass_record (map (has_type types) xs) (fields_at types t)) is).1 in
        record_exact xs (fields_at types of) field (ap (λ u. pass_record (map (has_type types) xs) (fields_at types u)) (eqb-true of t e) ∙ pass)
    by false e = none_exact types
  get_exact of field _ is = none_exact types

  one_exact : (op : Op) (x : Value) → IsValue types x → IsExact types (value_of_one op (out-Value x)) (type_of_op types op (Some (type_of_value x) ∷ []))
  one_exact Not x is = not_exact (out-Value x)
  one_exact Bnot x is = bnot_exact (out-Value x) (layer_of types x is)
  one_exact (Slice hi lo) x is = slice_exact hi lo (out-Value x) (layer_of types x is)
  one_exact (Zext v) x is = extension_exact v (λ w m. number_of_op (Zext v) w m 0) (zext_number v) (out-Value x) (layer_of types x is)
  one_exact (Sext v) x is = extension_exact v (λ w m. number_of_op (Sext v) w m 0) (sext_number v) (out-Value x) (layer_of types x is)
  one_exact (Get of field) x is = get_exact of field (out-Value x) (layer_of types x is)
  one_exact _ x is = none_exact types

  two_exact : (op : Op) (x y : Value) → IsValue types x → IsValue types y → IsExact types (value_of_two op x y) (type_of_op types op (Some (type_of_value x) ∷ Some (type_of_value y) ∷ []))
  two_exact And x y x_is y_is = truths_exact (λ p q. p && q) (out-Value x) (out-Value y)
  two_exact Or x y x_is y_is = truths_exact (λ p q. p || q) (out-Value x) (out-Value y)
  two_exact Eq x y x_is y_is = equals_exact x y
  two_exact Ult x y x_is y_is = comparison_exact (truth_of_op Ult) (out-Value x) (out-Value y) (layer_of types x x_is) (layer_of types y y_is)
  two_exact Ule x y x_is y_is = comparison_exact (truth_of_op Ule) (out-Value x) (out-Value y) (layer_of types x x_is) (layer_of types y y_is)
  two_exact Slt x y x_is y_is = comparison_exact (truth_of_op Slt) (out-Value x) (out-Value y) (layer_of types x x_is) (layer_of types y y_is)
  two_exact Sle x y x_is y_is = comparison_exact (truth_of_op Sle) (out-Value x) (out-Value y) (layer_of types x x_is) (layer_of types y y_is)
  two_exact Add x y x_is y_is = arithmetic_exact (number_of_op Add) add_keeps (out-Value x) (out-Value y) (layer_of types x x_is) (layer_of types y y_is)
  two_exact Sub x y x_is y_is = arithmetic_exact (number_of_op Sub) sub_keeps (out-Value x) (out-Value y) (layer_of types x x_is) (layer_of types y y_is)
  two_exact Mul x y x_is y_is = arithmetic_exact (number_of_op Mul) mul_keeps (out-Value x) (out-Value y) (layer_of types x x_is) (layer_of types y y_is)
  two_exact Band x y x_is y_is = arithmetic_exact (number_of_op Band) band_keeps (out-Value x) (out-Value y) (layer_of types x x_is) (layer_of types y y_is)
  two_exact Bor x y x_is y_is = arithmetic_exact (number_of_op Bor) bor_keeps (out-Value x) (out-Value y) (layer_of types x x_is) (layer_of types y y_is)
  two_exact Bxor x y x_is y_is = arithmetic_exact (number_of_op Bxor) bxor_keeps (out-Value x) (out-Value y) (layer_of types x x_is) (layer_of types y y_is)
  two_exact Shl x y x_is y_is = arithmetic_exact (number_of_op Shl) shl_keeps (out-Value x) (out-Value y) (layer_of types x x_is) (layer_of types y y_is)
  two_exact Shr x y x_is y_is = arithmetic_exact (number_of_op Shr) shr_keeps (out-Value x) (out-Value y) (layer_of types x x_is) (layer_of types y y_is)
  two_exact Sar x y x_is y_is = arithmetic_exact (number_of_op Sar) sar_keeps (out-Value x) (out-Value y) (layer_of types x x_is) (layer_of types y y_is)
  two_exact Cat x y x_is y_is = cat_exact (out-Value x) (out-Value y) (layer_of types x x_is) (layer_of types y y_is)
  two_exact _ x y x_is y_is = none_exact types

  three_exact : (op : Op) (c x y : Value) → IsValue types x → IsValue types y →
      IsExact types (value_of_three op c x y) (type_of_op types op (Some (type_of_value c) ∷ Some (type_of_value x) ∷ Some (type_of_value y) ∷ []))
  three_exact Ite c x y x_is y_is = ite_exact (out-Value c) x y x_is y_is
  three_exact Not c x y x_is y_is = none_exact types
  three_exact _ c x y x_is y_is = none_exact types

  -- no operation takes none, or more than three
  none_taken : (op : Op) → type_of_op types op [] ≡ None
  none_taken Not = refl
  none_taken _ = refl

  arity_most : (op : Op) → arity_of op ≤ 3
  arity_most Not = let e : 1 ≤ 3 = omega arith in e
  arity_most Bnot = let e : 1 ≤ 3 = omega arith in e
  arity_most (Slice hi lo) = let e : 1 ≤ 3 = omega arith in e
  arity_most (Zext v) = let e : 1 ≤ 3 = omega arith in e
  arity_most (Sext v) = let e : 1 ≤ 3 = omega arith in e
  arity_most (Get of field) = let e : 1 ≤ 3 = omega arith in e
  arity_most Ite = let e : 3 ≤ 3 = omega arith in e
  arity_most _ = let e : 2 ≤ 3 = omega arith in e

  many_taken : (op : Op) (args : List (Option Ty)) → 3 < length args → type_of_op types op args ≡ None
  many_taken op args many =
      ap (λ b. if b && (all_taken (signature_of op) 0 None args && widths_fit (signature_of op) args) then type_given types (signature_of op) args else None)
      (ne_eqb (length args) (arity_of op) (let most : arity_of op ≤ 3 = arity_most op in λ e. omega (arith, e, most, many)))

  pub op_exact : (op : Op) (xs : List Value) → AreValues types xs → IsExact types (value_of_op op xs) (type_of_application types op (map type_of_value xs))
  op_exact op [] is = subst (λ t. IsExact types None t) (sym (none_taken op)) (none_exact types)
  op_exact op (x ∷ []) is = one_exact op x is.0
  op_exact op (x ∷ y ∷ []) is = two_exact op x y is.0 is.1.0
  op_exact op (c ∷ x ∷ y ∷ []) is = three_exact op c x y is.1.0 is.1.1.0
  op_exact op (a ∷ b ∷ c ∷ d ∷ more) is =
      subst (λ t. IsExact types None t) (sym (many_taken op (map Some (map type_of_value (a ∷ b ∷ c ∷ d ∷ more))) (omega arith))) (none_exact types)

  -- the tests of a value are those of the type that it shows
  ctor_test : (x : Value) → IsValue types x → (ctor : Option Field) → passes_ctor (has_type types x) ctor ≡ passes_ctor (same_type (type_of_value x)) ctor
  ctor_test x is (Some ctor) = test_is types x is ctor.ty
  ctor_test x is None = refl

  all_test : (xs : List Value) → AreValues types xs → (fields : List Field) → all_pass (map (has_type types) xs) fields ≡ all_pass (map same_type (map type_of_value xs)) fields
  all_test [] are [] = refl
  all_test [] are (field ∷ fields) = refl
  all_test (x ∷ xs) are [] = refl
  all_test (x ∷ xs) are (field ∷ fields) =
      ap (λ b. b && all_pass (map (has_type types) xs) fields) (test_is types x are.0 field.ty)
      ∙ ap (λ b. same_type (type_of_value x) field.ty && b) (all_test xs are.1 fields)

  record_test : (xs : List Value) → AreValues types xs → (declared : Option (List Field)) →
      pass_record (map (has_type types) xs) declared ≡ pass_record (map same_type (map type_of_value xs)) declared
  record_test xs are (Some fields) = all_test xs are fields
  record_test xs are None = refl

  making_exact : (of ctor : ℕ) (x : Value) → IsValue types x → IsExact types (value_of_making types of ctor x) (type_of_making types of ctor (type_of_value x))
  making_exact of ctor x is =
      subst (λ b. IsExact types (value_of_making types of ctor x) (if b then Some (ty.Union of) else None)) (ctor_test x is (ctor_at types of ctor))
      (by (passes_ctor (has_type types x) (ctor_at types of ctor)) refl) where
        by : (b : Bool) → passes_ctor (has_type types x) (ctor_at types of ctor) ≡ b → IsExact types (if b then Some (Made of ctor x) else None) (if b then Some (ty.Union of) else None)
        by true e = record { typed = ap Some (shown-Made of ctor x); there = made_is_value types of ctor x e }
        by false e = none_exact types

  fields_exact : (of : ℕ) (xs : List Value) → AreValues types xs → IsExact types (value_of_record types of xs) (type_of_record types of (map type_of_value xs))
  fields_exact of xs are =
      subst (λ b. IsExact types (value_of_record types of xs) (if b then Some (ty.Rec of) else None)) (record_test xs are (fields_at types of))
      (by (pass_record (map (has_type types) xs) (fields_at types of)) refl) where
        by : (b : Bool) → pass_record (map (has_type types) xs) (fields_at types of) ≡ b → IsExact types (if b then Some (Rec of xs) else None) (if b then Some (ty.Rec of) else None)
        by true e = record { typed = ap Some (shown-Rec of xs); there = rec_is_value types of xs e }
        by false e = none_exact types

pub exact_operations : ExactOperations
exact_operations = record { operation = op_exact; making = making_exact; fields = fields_exact }
