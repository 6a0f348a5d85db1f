-- What operations give on values. An operation has a value exactly on values of types that it
-- takes.
use Rattle.std.specs.Prelude.{ℕ, Bool, true, false, not, ◌+◌, ◌-◌, ◌==◌, ◌&&◌, ◌||◌, nat_lt, nat_le, if◌then◌else◌, List, [], ◌∷◌, Option, Some, None, slice_get}
use Rattle.kat_value.specs.declared.op.Op.{Op}
use Rattle.kat_value.specs.declared.op.Op.TheVariants.{Not, And, Or, Eq, Ult, Ule, Slt, Sle, Add, Sub, Mul, Band, Bor, Bxor, Bnot, Shl, Shr, Sar, Slice, Cat, Zext, Sext, Ite, Get}
use Rattle.kat_value.specs.declared.types.Ty.{Ty}
use Rattle.kat_value.specs.declared.types.Ty.TheVariants as ty
use Rattle.kat_value.specs.declared.value.Value.{Value, out-Value}
use Rattle.kat_value.specs.declared.value.Value.TheVariants.{Bool as Truth, Bits}
use Rattle.kat_value.specs.declared.value.Value.TheOpen.{Value-F, Bool as TruthLayer, Bits as BitsLayer, Rec as RecLayer}
use Rattle.kat_value.specs.Equality.{value_eq}
use Rattle.kat_value.specs.Numbers.{truth_of_op, number_of_op}
use Rattle.kat_value.specs.Widths.{is_number, widest}
use Rattle.kat_value.specs.Shown.{type_of_value, one_type}

-- the truth that one layer of a value is
abbrev pub truth_in_layer : Value-F Value → Option Bool
truth_in_layer (TruthLayer p) = Some p
truth_in_layer _ = None

-- the number that one layer of a value is, behind its width
abbrev pub number_in_layer : Value-F Value → Option (ℕ × ℕ)
number_in_layer (BitsLayer w m) = if is_number w m then Some (w, m) else None
number_in_layer _ = None

-- an operation on a truth
abbrev pub of_truth : (Bool → Bool) → Value-F Value → Option Value
of_truth f (TruthLayer p) = Some (Truth (f p))
of_truth f _ = None

-- an operation on two truths
abbrev pub of_truths : (Bool → Bool → Bool) → Value-F Value → Value-F Value → Option Value
of_truths f (TruthLayer p) (TruthLayer q) = Some (Truth (f p q))
of_truths f _ _ = None

-- an operation on a number of a width that it takes
abbrev pub of_number : (ℕ → Bool) → (ℕ → ℕ → Value) → Value-F Value → Option Value
of_number takes f (BitsLayer w m) = if is_number w m && takes w then Some (f w m) else None
of_number takes f _ = None

-- an operation on two numbers of one width
abbrev pub of_numbers : (ℕ → ℕ → ℕ → Value) → Value-F Value → Value-F Value → Option Value
of_numbers f (BitsLayer w m) (BitsLayer v n) =
    if (w == v) && (is_number w m && is_number w n) then Some (f w m n) else None
of_numbers f _ _ = None

-- a comparison of two numbers
abbrev pub of_comparison : Op → Value-F Value → Value-F Value → Option Value
of_comparison op = of_numbers (λ w m n. Truth (truth_of_op op w m n))

-- a number made of two
abbrev pub of_arithmetic : Op → Value-F Value → Value-F Value → Option Value
of_arithmetic op = of_numbers (λ w m n. Bits w (number_of_op op w m n))

-- two numbers one above the other, where they are no wider than bits can be
abbrev pub of_parts : Value-F Value → Value-F Value → Option Value
of_parts (BitsLayer v a) (BitsLayer w b) =
    if (is_number v a && is_number w b) && nat_le (v + w) widest
    then Some (Bits (v + w) (number_of_op Cat w a b)) else None
of_parts _ _ = None

-- a field of a record of this type
abbrev pub field_of : ℕ → ℕ → Value-F Value → Option Value
field_of of field (RecLayer t fields) = if of == t then slice_get fields field else None
field_of of field _ = None

-- whether two values of one type are equal
abbrev pub of_equals : Value → Value → Option Value
of_equals x y = if one_type x y then Some (Truth (value_eq x y)) else None

-- whether values of this type can be chosen between: bits and bool
abbrev pub can_be_chosen : Ty → Bool
can_be_chosen ty.Bool = true
can_be_chosen (ty.Bits w) = true
can_be_chosen _ = false

-- one of two values of one type that can be chosen between
abbrev pub of_choice : Value-F Value → Value → Value → Option Value
of_choice (TruthLayer p) x y =
    if can_be_chosen (type_of_value x) && one_type x y then Some (if p then x else y) else None
of_choice _ x y = None

-- an operation on one value, seen as its layer
abbrev pub value_of_one : Op → Value-F Value → Option Value
value_of_one Not a = of_truth not a
value_of_one Bnot a = of_number (λ w. true) (λ w m. Bits w (number_of_op Bnot w m 0)) a
value_of_one (Slice hi lo) a =
    of_number (λ w. nat_le lo hi && nat_lt hi w)
    (λ w m. Bits (hi - lo + 1) (number_of_op (Slice hi lo) w m 0)) a
value_of_one (Zext v) a =
    of_number (λ w. nat_le w v && nat_le v widest) (λ w m. Bits v (number_of_op (Zext v) w m 0)) a
value_of_one (Sext v) a =
    of_number (λ w. nat_le w v && nat_le v widest) (λ w m. Bits v (number_of_op (Sext v) w m 0)) a
value_of_one (Get of field) a = field_of of field a
value_of_one _ a = None

-- an operation on two values
abbrev pub value_of_two : Op → Value → Value → Option Value
value_of_two And a b = of_truths (λ p q. p && q) (out-Value a) (out-Value b)
value_of_two Or a b = of_truths (λ p q. p || q) (out-Value a) (out-Value b)
value_of_two Eq a b = of_equals a b
value_of_two Ult a b = of_comparison Ult (out-Value a) (out-Value b)
value_of_two Ule a b = of_comparison Ule (out-Value a) (out-Value b)
value_of_two Slt a b = of_comparison Slt (out-Value a) (out-Value b)
value_of_two Sle a b = of_comparison Sle (out-Value a) (out-Value b)
value_of_two Add a b = of_arithmetic Add (out-Value a) (out-Value b)
value_of_two Sub a b = of_arithmetic Sub (out-Value a) (out-Value b)
value_of_two Mul a b = of_arithmetic Mul (out-Value a) (out-Value b)
value_of_two Band a b = of_arithmetic Band (out-Value a) (out-Value b)
value_of_two Bor a b = of_arithmetic Bor (out-Value a) (out-Value b)
value_of_two Bxor a b = of_arithmetic Bxor (out-Value a) (out-Value b)
value_of_two Shl a b = of_arithmetic Shl (out-Value a) (out-Value b)
value_of_two Shr a b = of_arithmetic Shr (out-Value a) (out-Value b)
value_of_two Sar a b = of_arithmetic Sar (out-Value a) (out-Value b)
value_of_two Cat a b = of_parts (out-Value a) (out-Value b)
value_of_two _ a b = None

-- an operation on three values
abbrev pub value_of_three : Op → Value → Value → Value → Option Value
value_of_three Ite a b c = of_choice (out-Value a) b c
value_of_three _ a b c = None

-- what an operation gives on values; none where it does not take them
abbrev pub value_of_op : Op → List Value → Option Value
value_of_op op [] = None
value_of_op op (a ∷ []) = value_of_one op (out-Value a)
value_of_op op (a ∷ b ∷ []) = value_of_two op a b
value_of_op op (a ∷ b ∷ c ∷ []) = value_of_three op a b c
value_of_op op (a ∷ b ∷ c ∷ d ∷ more) = None
