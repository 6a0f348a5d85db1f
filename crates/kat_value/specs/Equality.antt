-- Equality of values, as a test that computes.
use Rattle.std.specs.Prelude.{Bool, true, false, IsTrue, ◌≡◌, ◌↔◌, ◌==◌, ◌&&◌, List, [], ◌∷◌, map}
use Rattle.std.specs.Bool.{beq}
use Rattle.kat_value.specs.declared.value.Value.{Value, fold-Value, out-Value}
use Rattle.kat_value.specs.declared.value.Value.TheOpen.{Value-F, Unit, Bool as Truth, Bits, Member, Made, Rec}

-- whether each test holds of the value at its place, there being as many values as tests
abbrev pub all_hold : List (Value → Bool) → List Value → Bool
all_hold [] [] = true
all_hold [] (v ∷ vs) = false
all_hold (test ∷ tests) [] = false
all_hold (test ∷ tests) (v ∷ vs) = test v && all_hold tests vs

-- one layer of a value, with a test of equality for each child, against one layer of another
abbrev pub same_layer : Value-F (Value → Bool) → Value-F Value → Bool
same_layer Unit Unit = true
same_layer (Truth p) (Truth q) = beq p q
same_layer (Bits w m) (Bits v n) = (w == v) && (m == n)
same_layer (Member t i) (Member u j) = (t == u) && (i == j)
same_layer (Made t k test) (Made u l inner) = (t == u) && ((k == l) && test inner)
same_layer (Rec t tests) (Rec u fields) = (t == u) && all_hold tests fields
same_layer _ _ = false

-- whether two values are equal
abbrev pub value_eq : Value → Value → Bool
value_eq = fold-Value (Value → Bool) (λ layer v. same_layer layer (out-Value v))

-- whether two lists of values are equal
abbrev pub values_eq : List Value → List Value → Bool
values_eq xs ys = all_hold (map value_eq xs) ys

-- the test holds of equal values, and of no others
abbrev pub TestsEquality : Type 0
TestsEquality = (v w : Value) → IsTrue (value_eq v w) ↔ (v ≡ w)
