-- Operations on numbers, by the numbers that the layers of values are.
use Rattle.std.proofs.Common.{◌≡◌, ℕ, ◌+◌, ◌^◌, ◌<◌, ◌≤◌, ◌-◌, Bool, true, false, Option, Some, None, refl, if◌then◌else◌, nat_le, sym, ap, ◌∙◌, subst, arith}
use Rattle.std.specs.Prelude.{◌==◌, ◌&&◌}
use Rattle.std.proofs.lemmas.Bool.{eqb-true}
use Rattle.std.proofs.Math.Nat.{pow-le-pow_right}
use Rattle.kat_value.specs.declared.op.Op.TheVariants.{Cat}
use Rattle.kat_value.specs.declared.value.Value.{Value}
use Rattle.kat_value.specs.declared.value.Value.TheVariants.{Bits}
use Rattle.kat_value.specs.declared.value.Value.TheOpen.{Value-F, Bits as BitsLayer}
use Rattle.kat_value.specs.Numbers.{number_of_op}
use Rattle.kat_value.specs.Operations.{number_in_layer, of_numbers, of_parts}
use Rattle.kat_value.specs.Widths.{is_number, widest}

-- an operation on two numbers of one width, where both are there
abbrev pub on_two : (ℕ → ℕ → ℕ → Value) → Option (ℕ × ℕ) → Option (ℕ × ℕ) → Option Value
on_two f None n = None
on_two f (Some m) None = None
on_two f (Some m) (Some n) = if m.0 == n.0 then Some (f m.0 m.1 n.1) else None

-- two numbers one above the other, where both are there
abbrev pub one_above : Option (ℕ × ℕ) → Option (ℕ × ℕ) → Option Value
one_above None n = None
one_above (Some m) None = None
one_above (Some m) (Some n) =
    if nat_le (m.0 + n.0) widest then Some (Bits (m.0 + n.0) (number_of_op Cat n.0 m.1 n.1)) else None

bits_on_two : (f : ℕ → ℕ → ℕ → Value) (w m v n : ℕ) (p q b : Bool) → is_number w m ≡ p → is_number v n ≡ q → (w == v) ≡ b →
    (if b && (p && is_number w n) then Some (f w m n) else None)
    ≡ on_two f (if p then Some (w, m) else None) (if q then Some (v, n) else None)
bits_on_two f w m v n true true true first second same =
    let e : is_number w n ≡ true = ap (λ u. is_number u n) (eqb-true w v same) ∙ second in
    ap (λ c. if c then Some (f w m n) else None) e ∙ sym (ap (λ c. if c then Some (f w m n) else None) same)
bits_on_two f w m v n true true false first second same = sym (ap (λ c. if c then Some (f w m n) else None) same)
bits_on_two f w m v n true false true first second same =
    ap (λ c. if c then Some (f w m n) else None) (ap (λ u. is_number u n) (eqb-true w v same) ∙ second)
bits_on_two f w m v n true false false first second same = refl
bits_on_two f w m v n false q true first second same = refl
bits_on_two f w m v n false q false first second same = refl

none_on_two : (f : ℕ → ℕ → ℕ → Value) (o : Option (ℕ × ℕ)) → on_two f o None ≡ None
none_on_two f None = refl
none_on_two f (Some m) = refl

pub numbers_by_layers : (f : ℕ → ℕ → ℕ → Value) (x y : Value-F Value) → of_numbers f x y ≡ on_two f (number_in_layer x) (number_in_layer y)
numbers_by_layers f (BitsLayer w m) (BitsLayer v n) = bits_on_two f w m v n (is_number w m) (is_number v n) (w == v) refl refl refl
numbers_by_layers f (BitsLayer w m) _ = sym (none_on_two f (if is_number w m then Some (w, m) else None))
numbers_by_layers f _ _ = refl

bits_above : (v a w b : ℕ) (p q : Bool) →
    (if (p && q) && nat_le (v + w) widest then Some (Bits (v + w) (number_of_op Cat w a b)) else None)
    ≡ one_above (if p then Some (v, a) else None) (if q then Some (w, b) else None)
bits_above v a w b true true = refl
bits_above v a w b true false = refl
bits_above v a w b false true = refl
bits_above v a w b false false = refl

none_above : (o : Option (ℕ × ℕ)) → one_above o None ≡ None
none_above None = refl
none_above (Some m) = refl

pub parts_by_layers : (x y : Value-F Value) → of_parts x y ≡ one_above (number_in_layer x) (number_in_layer y)
parts_by_layers (BitsLayer v a) (BitsLayer w b) = bits_above v a w b (is_number v a) (is_number w b)
parts_by_layers (BitsLayer v a) _ = sym (none_above (if is_number v a then Some (v, a) else None))
parts_by_layers _ _ = refl

-- a number of w bits is one of more
pow_of_longer : (w v : ℕ) → w ≤ v → 2 ^ w ≤ 2 ^ v
pow_of_longer w v longer = pow-le-pow_right (omega arith) longer

pub below_longer : (a w v : ℕ) → w ≤ v → a < 2 ^ w → a < 2 ^ v
below_longer a w v longer below = omega (arith, below, pow_of_longer w v longer)
