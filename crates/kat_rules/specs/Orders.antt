-- The rules on comparisons.
use Rattle.std.specs.Prelude.{ℕ, Bool, true, false, ◌-◌, ◌^◌, ◌==◌, nat_le, if◌then◌else◌, List, [], ◌∷◌, Option, Some}
use Rattle.kat_value.specs.declared.op.Op.{Op}
use Rattle.kat_value.specs.declared.op.Op.TheVariants.{Not, Eq, Ult, Ule, Slt, Sle, Zext}
use Rattle.kat_value.specs.declared.types.Ty.{Ty}
use Rattle.kat_term.specs.declared.term.Term.{Term}
use Rattle.kat_term.specs.Equality.{term_eq}
use Rattle.kat_term.specs.Views.{one, two, truth, bits}
use Rattle.kat_rules.specs.Patterns.{Rule, only_if, on_one, on_two, on_bits, on_zext}
use Rattle.kat_rules.specs.Widths.{on_width}

-- a comparison of equal sides is this truth
abbrev pub comparison_of_same : Op → Bool → Rule
comparison_of_same op holds vars t = on_two op t (λ a b. only_if (term_eq a b) (truth holds))

-- ult(a,a) is false
abbrev pub ult_of_same : Rule
ult_of_same = comparison_of_same Ult false

-- slt(a,a) is false
abbrev pub slt_of_same : Rule
slt_of_same = comparison_of_same Slt false

-- ule(a,a) is true
abbrev pub ule_of_same : Rule
ule_of_same = comparison_of_same Ule true

-- sle(a,a) is true
abbrev pub sle_of_same : Rule
sle_of_same = comparison_of_same Sle true

-- ult(a,0) is false
abbrev pub ult_of_zero : Rule
ult_of_zero vars t = on_two Ult t (λ a l. on_bits l (λ w n. only_if (n == 0) (truth false)))

-- ult(ones,a) is false
abbrev pub ult_of_ones : Rule
ult_of_ones vars t = on_two Ult t (λ l a. on_bits l (λ w n. only_if (n == 2 ^ w - 1) (truth false)))

-- ule(0,a) is true
abbrev pub ule_of_zero : Rule
ule_of_zero vars t = on_two Ule t (λ l a. on_bits l (λ w n. only_if (n == 0) (truth true)))

-- ule(a,ones) is true
abbrev pub ule_of_ones : Rule
ule_of_ones vars t = on_two Ule t (λ a l. on_bits l (λ w n. only_if (n == 2 ^ w - 1) (truth true)))

-- the equation of a term with zero
abbrev pub is_zero : ℕ → Term → Term
is_zero w a = two Eq (bits w 0) a

-- ult(a,1) is eq(0,a)
abbrev pub ult_of_one : Rule
ult_of_one vars t = on_two Ult t (λ a l. on_bits l (λ w n. only_if (n == 1) (is_zero w a)))

-- ule(a,0) is eq(0,a)
abbrev pub ule_of_no_more : Rule
ule_of_no_more vars t = on_two Ule t (λ a l. on_bits l (λ w n. only_if (n == 0) (is_zero w a)))

-- ult(0,a) is not(eq(0,a))
abbrev pub ult_of_none : Rule
ult_of_none vars t =
    on_two Ult t (λ l a. on_bits l (λ w n. only_if (n == 0) (one Not (is_zero w a))))

-- ule(1,a) is not(eq(0,a))
abbrev pub ule_of_one : Rule
ule_of_one vars t =
    on_two Ule t (λ l a. on_bits l (λ w n. only_if (n == 1) (one Not (is_zero w a))))

-- a comparison of zext a and zext b with equal widths of a and b compares a and b
abbrev pub comparison_of_zexts : Op → Rule
comparison_of_zexts op vars t =
    on_two op t (λ y z. on_zext y (λ u a. on_zext z (λ v b.
    on_width vars a (λ p. on_width vars b (λ q. only_if (p == q) (two op a b))))))

-- ult(zext a, zext b) is ult(a,b)
abbrev pub ult_of_zexts : Rule
ult_of_zexts = comparison_of_zexts Ult

-- ule(zext a, zext b) is ule(a,b)
abbrev pub ule_of_zexts : Rule
ule_of_zexts = comparison_of_zexts Ule

-- goes on with the number of a literal, the argument of a zext beside it and the argument's width
abbrev pub on_bits_and_zext : List Ty → Term → Term → (ℕ → ℕ → Term → Option Term) → Option Term
on_bits_and_zext vars l z go =
    on_bits l (λ w m. on_one (Zext w) z (λ a. on_width vars a (λ v. go v m a)))

-- with v the width of a: ult(m, zext a) is false where m >= 2^v - 1, else ult(m,a)
abbrev pub ult_of_literal_and_zext : Rule
ult_of_literal_and_zext vars t =
    on_two Ult t (λ l z. on_bits_and_zext vars l z (λ v m a.
    Some (if nat_le (2 ^ v - 1) m then truth false else two Ult (bits v m) a)))

-- ult(zext a, m) is true where m >= 2^v, else ult(a,m)
abbrev pub ult_of_zext_and_literal : Rule
ult_of_zext_and_literal vars t =
    on_two Ult t (λ z l. on_bits_and_zext vars l z (λ v m a.
    Some (if nat_le (2 ^ v) m then truth true else two Ult a (bits v m))))

-- ule(m, zext a) is false where m >= 2^v, else ule(m,a)
abbrev pub ule_of_literal_and_zext : Rule
ule_of_literal_and_zext vars t =
    on_two Ule t (λ l z. on_bits_and_zext vars l z (λ v m a.
    Some (if nat_le (2 ^ v) m then truth false else two Ule (bits v m) a)))

-- ule(zext a, m) is true where m >= 2^v - 1, else ule(a,m)
abbrev pub ule_of_zext_and_literal : Rule
ule_of_zext_and_literal vars t =
    on_two Ule t (λ z l. on_bits_and_zext vars l z (λ v m a.
    Some (if nat_le (2 ^ v - 1) m then truth true else two Ule a (bits v m))))

-- the rules on comparisons
abbrev pub order_rules : List Rule
order_rules =
    ult_of_same ∷ slt_of_same ∷ ule_of_same ∷ sle_of_same ∷ ult_of_zero ∷ ult_of_ones ∷ ule_of_zero
    ∷ ule_of_ones ∷ ult_of_one ∷ ule_of_no_more ∷ ult_of_none ∷ ule_of_one ∷ ult_of_zexts
    ∷ ule_of_zexts ∷ ult_of_literal_and_zext ∷ ult_of_zext_and_literal ∷ ule_of_literal_and_zext
    ∷ ule_of_zext_and_literal ∷ []
