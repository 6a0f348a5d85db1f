-- What the value of an operation says of the values of its arguments, and what the type that a term
-- tells says of its value.
use Rattle.std.specs.Prelude.{◌≡◌, ℕ, Bool, true, not, ◌&&◌, ◌||◌, nat_lt, nat_le, List, Some}
use Rattle.kat_value.specs.declared.op.Op.TheVariants.{Not, And, Or, Eq, Ult, Ule, Zext}
use Rattle.kat_value.specs.declared.types.Ty.{Ty}
use Rattle.kat_value.specs.declared.types.TypeDecl.{TypeDecl}
use Rattle.kat_value.specs.declared.value.Value.{Value}
use Rattle.kat_value.specs.declared.value.Value.TheVariants.{Bool as Truth, Bits}
use Rattle.kat_value.specs.Equality.{value_eq}
use Rattle.kat_term.specs.declared.term.Term.{Term}
use Rattle.kat_value.specs.Shown.{one_type}
use Rattle.kat_term.specs.Types.{IsValuation}
use Rattle.kat_term.specs.Values.{Valuation, value_of}
use Rattle.kat_term.specs.Views.{one, two, truth, bits}
use Rattle.kat_rules.specs.Widths.{width_of, is_bool}

module _ (types : List TypeDecl) (v : Valuation) where
  -- a truth under an operation on one, which gives this value
  pub record IsTruth (gives : Bool → Bool) (a : Term) (x : Value) : Type 0 where
    pub p : Bool
    pub has : value_of types v a ≡ Some (Truth p)
    pub is : x ≡ Truth (gives p)

  -- two truths under an operation on two
  pub record AreTruths (gives : Bool → Bool → Bool) (a b : Term) (x : Value) : Type 0 where
    pub p : Bool
    pub q : Bool
    pub first : value_of types v a ≡ Some (Truth p)
    pub second : value_of types v b ≡ Some (Truth q)
    pub is : x ≡ Truth (gives p q)

  -- two numbers of one width under a comparison
  pub record AreCompared (gives : ℕ → ℕ → Bool) (a b : Term) (x : Value) : Type 0 where
    pub w : ℕ
    pub m : ℕ
    pub n : ℕ
    pub first : value_of types v a ≡ Some (Bits w m)
    pub second : value_of types v b ≡ Some (Bits w n)
    pub is : x ≡ Truth (gives m n)

  -- two values of one type under an equation
  pub record AreEquated (a b : Term) (x : Value) : Type 0 where
    pub y : Value
    pub z : Value
    pub first : value_of types v a ≡ Some y
    pub second : value_of types v b ≡ Some z
    pub alike : one_type y z ≡ true
    pub is : x ≡ Truth (value_eq y z)

  -- a number under a `zext`
  pub record IsExtended (a : Term) (width : ℕ) (x : Value) : Type 0 where
    pub w : ℕ
    pub n : ℕ
    pub has : value_of types v a ≡ Some (Bits w n)
    pub is : x ≡ Bits width n

  -- what the values of operations say
  pub record OperationValues : Type 0 where
    pub truth : (p : Bool) → value_of types v (truth p) ≡ Some (Truth p)
    pub literal : (w n : ℕ) (x : Value) → value_of types v (bits w n) ≡ Some x → x ≡ Bits w n
    pub negation : (a : Term) (x : Value) → value_of types v (one Not a) ≡ Some x → IsTruth not a x
    pub negated :
        (a : Term) (p : Bool) →
        value_of types v a ≡ Some (Truth p) → value_of types v (one Not a) ≡ Some (Truth (not p))
    pub conjunction :
        (a b : Term) (x : Value) →
        value_of types v (two And a b) ≡ Some x → AreTruths (λ p q. p && q) a b x
    pub disjunction :
        (a b : Term) (x : Value) →
        value_of types v (two Or a b) ≡ Some x → AreTruths (λ p q. p || q) a b x
    pub less :
        (a b : Term) (x : Value) → value_of types v (two Ult a b) ≡ Some x → AreCompared nat_lt a b x
    pub at_most :
        (a b : Term) (x : Value) → value_of types v (two Ule a b) ≡ Some x → AreCompared nat_le a b x
    pub equation :
        (a b : Term) (x : Value) → value_of types v (two Eq a b) ≡ Some x → AreEquated a b x
    pub equated :
        (a b : Term) (y z : Value) →
        value_of types v a ≡ Some y → value_of types v b ≡ Some z → one_type y z ≡ true →
        value_of types v (two Eq a b) ≡ Some (Truth (value_eq y z))
    pub extension :
        (width : ℕ) (a : Term) (x : Value) →
        value_of types v (one (Zext width) a) ≡ Some x → IsExtended a width x

-- under every valuation
abbrev pub ValuesOfOperations : Type 0
ValuesOfOperations = (types : List TypeDecl) (v : Valuation) → OperationValues types v

-- a term that tells that it is of type bool has truths alone for values
abbrev pub ToldTruths : Type 0
ToldTruths =
    (types : List TypeDecl) (vars : List Ty) (v : Valuation) → IsValuation types vars v →
    (t : Term) (x : Value) → value_of types v t ≡ Some x → is_bool vars t ≡ true →
    (p : Bool) × (x ≡ Truth p)

-- a term that tells a width has numbers of this width alone
abbrev pub ToldNumbers : Type 0
ToldNumbers =
    (types : List TypeDecl) (vars : List Ty) (v : Valuation) → IsValuation types vars v →
    (t : Term) (x : Value) → value_of types v t ≡ Some x → (w : ℕ) → width_of vars t ≡ Some w →
    (n : ℕ) × (x ≡ Bits w n)
