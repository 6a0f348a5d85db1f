-- The rules on products and on operations bit by bit.
use Rattle.std.specs.Prelude.{ℕ, ◌-◌, ◌^◌, ◌==◌, if◌then◌else◌, List, [], ◌∷◌, Option, Some, None}
use Rattle.kat_value.specs.declared.op.Op.{Op}
use Rattle.kat_value.specs.declared.op.Op.TheVariants.{Mul, Band, Bor, Bxor, Bnot}
use Rattle.kat_term.specs.declared.term.Term.{Term}
use Rattle.kat_term.specs.Equality.{term_eq}
use Rattle.kat_term.specs.Views.{one, bits}
use Rattle.kat_rules.specs.Patterns.{Rule, only_if, on_one, on_two, on_bits}
use Rattle.kat_rules.specs.Widths.{on_width}

-- goes on with the width and the other side where the first is zero
abbrev pub on_zero : Op → Term → (ℕ → Term → Term) → Option Term
on_zero op t go = on_two op t (λ l a. on_bits l (λ w n. only_if (n == 0) (go w a)))

-- goes on with the width and the other side where the first has all bits
abbrev pub on_ones : Op → Term → (ℕ → Term → Term) → Option Term
on_ones op t go = on_two op t (λ l a. on_bits l (λ w n. only_if (n == 2 ^ w - 1) (go w a)))

-- goes on with the one side of two that are equal
abbrev pub on_same : Op → Term → (Term → Option Term) → Option Term
on_same op t go = on_two op t (λ a b. if term_eq a b then go a else None)

-- mul(0,a) is 0
abbrev pub mul_of_zero : Rule
mul_of_zero vars t = on_zero Mul t (λ w a. bits w 0)

-- band(0,a) is 0
abbrev pub band_of_zero : Rule
band_of_zero vars t = on_zero Band t (λ w a. bits w 0)

-- mul(1,a) is a
abbrev pub mul_of_one : Rule
mul_of_one vars t = on_two Mul t (λ l a. on_bits l (λ w n. only_if (n == 1) a))

-- band(ones,a) is a
abbrev pub band_of_ones : Rule
band_of_ones vars t = on_ones Band t (λ w a. a)

-- band(a,a) is a
abbrev pub band_of_same : Rule
band_of_same vars t = on_same Band t (λ a. Some a)

-- bor(0,a) is a
abbrev pub bor_of_zero : Rule
bor_of_zero vars t = on_zero Bor t (λ w a. a)

-- bor(a,a) is a
abbrev pub bor_of_same : Rule
bor_of_same vars t = on_same Bor t (λ a. Some a)

-- bxor(0,a) is a
abbrev pub bxor_of_zero : Rule
bxor_of_zero vars t = on_zero Bxor t (λ w a. a)

-- bor(ones,a) is ones
abbrev pub bor_of_ones : Rule
bor_of_ones vars t = on_ones Bor t (λ w a. bits w (2 ^ w - 1))

-- bxor(ones,a) is bnot a
abbrev pub bxor_of_ones : Rule
bxor_of_ones vars t = on_ones Bxor t (λ w a. one Bnot a)

-- bxor(a,a) is 0
abbrev pub bxor_of_same : Rule
bxor_of_same vars t = on_same Bxor t (λ a. on_width vars a (λ w. Some (bits w 0)))

-- bnot(bnot a) is a
abbrev pub bnot_of_bnot : Rule
bnot_of_bnot vars t = on_one Bnot t (λ n. on_one Bnot n (λ a. Some a))

-- the rules on products and on operations bit by bit
abbrev pub bit_rules : List Rule
bit_rules =
    mul_of_zero ∷ band_of_zero ∷ mul_of_one ∷ band_of_ones ∷ band_of_same ∷ bor_of_zero
    ∷ bor_of_same ∷ bxor_of_zero ∷ bor_of_ones ∷ bxor_of_ones ∷ bxor_of_same ∷ bnot_of_bnot ∷ []
