-- The rules on sums and differences, and on the order of the sides of operations.
use Rattle.std.specs.Prelude.{ℕ, ◌==◌, if◌then◌else◌, List, [], ◌∷◌, Option, Some, None}
use Rattle.kat_value.specs.declared.op.Op.{Op}
use Rattle.kat_value.specs.declared.op.Op.TheVariants.{Add, Sub, Mul, Band, Bor, Bxor}
use Rattle.kat_value.specs.Numbers.{number_of_op}
use Rattle.kat_term.specs.declared.term.Term.{Term}
use Rattle.kat_term.specs.Equality.{term_eq}
use Rattle.kat_term.specs.Views.{two, bits}
use Rattle.kat_rules.specs.Equations.{is_after}
use Rattle.kat_rules.specs.Patterns.{Rule, only_if, on_two, on_bits}
use Rattle.kat_rules.specs.Widths.{on_width}

-- sub(a,a) is 0
abbrev pub sub_of_same : Rule
sub_of_same vars t =
    on_two Sub t (λ a b. on_width vars a (λ w. only_if (term_eq a b) (bits w 0)))

-- sub(a,n) is add(-n, a), modulo 2^w
abbrev pub sub_of_literal : Rule
sub_of_literal vars t =
    on_two Sub t (λ a l. on_bits l (λ w n. Some (two Add (bits w (number_of_op Sub w 0 n)) a)))

-- an operation whose second side is before the first has them swapped
abbrev pub out_of_order : Op → Rule
out_of_order op vars t = on_two op t (λ a b. only_if (is_after a b) (two op b a))

-- add(a,b) with b before a is add(b,a)
abbrev pub add_out_of_order : Rule
add_out_of_order = out_of_order Add

-- mul(a,b) with b before a is mul(b,a)
abbrev pub mul_out_of_order : Rule
mul_out_of_order = out_of_order Mul

-- band(a,b) with b before a is band(b,a)
abbrev pub band_out_of_order : Rule
band_out_of_order = out_of_order Band

-- bor(a,b) with b before a is bor(b,a)
abbrev pub bor_out_of_order : Rule
bor_out_of_order = out_of_order Bor

-- bxor(a,b) with b before a is bxor(b,a)
abbrev pub bxor_out_of_order : Rule
bxor_out_of_order = out_of_order Bxor

-- add(0,a) is a
abbrev pub add_of_zero : Rule
add_of_zero vars t = on_two Add t (λ l a. on_bits l (λ w n. only_if (n == 0) a))

-- goes on with the literal and the other side of a sum that begins with one
abbrev pub on_sum : Term → (ℕ → ℕ → Term → Option Term) → Option Term
on_sum t go = on_two Add t (λ l a. on_bits l (λ w n. go w n a))

-- add(m, add(n,a)) is add(m+n, a), modulo 2^w
abbrev pub add_of_literals : Rule
add_of_literals vars t =
    on_sum t (λ w m s. on_sum s (λ v n a.
    if v == w then Some (two Add (bits w (number_of_op Add w m n)) a) else None))

-- add(a, add(n,b)) is add(n, add(a,b))
abbrev pub add_of_second_sum : Rule
add_of_second_sum vars t =
    on_two Add t (λ a s. on_sum s (λ w n b. Some (two Add (bits w n) (two Add a b))))

-- add(add(n,a), b) is add(n, add(a,b))
abbrev pub add_of_first_sum : Rule
add_of_first_sum vars t =
    on_two Add t (λ s b. on_sum s (λ w n a. Some (two Add (bits w n) (two Add a b))))

-- the rules on sums, differences and the order of sides
abbrev pub sum_rules : List Rule
sum_rules =
    sub_of_same ∷ sub_of_literal ∷ add_out_of_order ∷ mul_out_of_order ∷ band_out_of_order
    ∷ bor_out_of_order ∷ bxor_out_of_order ∷ add_of_zero ∷ add_of_literals ∷ add_of_second_sum
    ∷ add_of_first_sum ∷ []
