-- The rules on equations.
use Rattle.std.specs.Prelude.{ℕ, Bool, true, false, not, ◌-◌, ◌/◌, ◌%◌, ◌^◌, ◌==◌, ◌&&◌, nat_lt, if◌then◌else◌, List, [], ◌∷◌, Option, Some, None}
use Rattle.std.specs.Option.{option_map}
use Rattle.std.specs.declared.cmp.Ordering.{Ordering}
use Rattle.std.specs.declared.cmp.Ordering.TheVariants.{Greater}
use Rattle.kat_value.specs.declared.op.Op.TheVariants.{Not, And, Eq, Add, Sub, Bxor, Bnot, Cat, Zext, Ite}
use Rattle.kat_value.specs.Numbers.{number_of_op}
use Rattle.kat_term.specs.declared.term.Term.{Term}
use Rattle.kat_term.specs.Equality.{term_eq}
use Rattle.kat_term.specs.Order.{term_cmp}
use Rattle.kat_term.specs.Views.{MadeTerm, RecTerm, one, two, truth, bits}
use Rattle.kat_rules.specs.Patterns.{Rule, only_if, on_one, on_two, on_three, on_truth, on_bits, on_bits_of, on_made, on_rec, on_zext}
use Rattle.kat_rules.specs.Widths.{on_width}

-- whether a comparison found the second before the first
abbrev pub is_greater : Ordering → Bool
is_greater Greater = true
is_greater _ = false

-- whether the second of two terms is before the first
abbrev pub is_after : Term → Term → Bool
is_after a b = is_greater (term_cmp a b)

-- eq(a,a) is true
abbrev pub eq_of_same : Rule
eq_of_same vars t = on_two Eq t (λ a b. only_if (term_eq a b) (truth true))

-- the equations of terms in pairs, a right-nested `and`; none of no terms, or where one list is
-- longer
abbrev pub equations_of : List Term → List Term → Option Term
equations_of [] others = None
equations_of (a ∷ terms) [] = None
equations_of (a ∷ []) (b ∷ []) = Some (two Eq a b)
equations_of (a ∷ []) (b ∷ d ∷ others) = None
equations_of (a ∷ c ∷ terms) (b ∷ others) =
    option_map (λ rest. two And (two Eq a b) rest) (equations_of (c ∷ terms) others)

-- eq of two `rec` is the right-nested `and` of the fields' eq
abbrev pub eq_of_recs : Rule
eq_of_recs vars t =
    on_two Eq t (λ a b. on_rec a (λ (r : RecTerm). on_rec b (λ (s : RecTerm).
    if r.of == s.of then equations_of r.fields s.fields else None)))

-- eq(make K a, make K b) is eq(a,b); of two constructors it is false
abbrev pub eq_of_makes : Rule
eq_of_makes vars t =
    on_two Eq t (λ a b. on_made a (λ (k : MadeTerm). on_made b (λ (l : MadeTerm).
    only_if (k.of == l.of)
    (if k.ctor == l.ctor then two Eq k.inner l.inner else truth false))))

-- eq(a,b) with b before a in the order is eq(b,a)
abbrev pub eq_out_of_order : Rule
eq_out_of_order vars t = on_two Eq t (λ a b. only_if (is_after a b) (two Eq b a))

-- eq(true,a) is a; eq(false,a) is not a
abbrev pub eq_of_truth : Rule
eq_of_truth vars t = on_two Eq t (λ l a. on_truth l (λ p. Some (if p then a else one Not a)))

-- eq(m, add(n,a)) is eq(m-n, a), modulo 2^w
abbrev pub eq_of_literal_and_add : Rule
eq_of_literal_and_add vars t =
    on_two Eq t (λ l s. on_bits l (λ w m. on_two Add s (λ k a. on_bits_of w k (λ n.
    Some (two Eq (bits w (number_of_op Sub w m n)) a)))))

-- eq(m, bxor(n,a)) is eq(m bxor n, a)
abbrev pub eq_of_literal_and_bxor : Rule
eq_of_literal_and_bxor vars t =
    on_two Eq t (λ l s. on_bits l (λ w m. on_two Bxor s (λ k a. on_bits_of w k (λ n.
    Some (two Eq (bits w (number_of_op Bxor w m n)) a)))))

-- eq(m, bnot a) is eq(ones-m, a)
abbrev pub eq_of_literal_and_bnot : Rule
eq_of_literal_and_bnot vars t =
    on_two Eq t (λ l s. on_bits l (λ w m. on_one Bnot s (λ a.
    Some (two Eq (bits w (number_of_op Bnot w m 0)) a))))

-- eq(m, zext a) is eq(m,a) where m fits a's width, else false
abbrev pub eq_of_literal_and_zext : Rule
eq_of_literal_and_zext vars t =
    on_two Eq t (λ l z. on_bits l (λ w m. on_one (Zext w) z (λ a. on_width vars a (λ v.
    Some (if nat_lt m (2 ^ v) then two Eq (bits v m) a else truth false)))))

-- eq(m, cat(a,b)) is and(eq(high part,a), eq(low part,b))
abbrev pub eq_of_literal_and_cat : Rule
eq_of_literal_and_cat vars t =
    on_two Eq t (λ l c. on_bits l (λ w m. on_two Cat c (λ a b. on_width vars b (λ v.
    only_if (nat_lt v w)
    (two And (two Eq (bits (w - v) (m / 2 ^ v)) a) (two Eq (bits v (m % 2 ^ v)) b))))))

-- eq(zext a, zext b) with equal widths of a and b is eq(a,b)
abbrev pub eq_of_zexts : Rule
eq_of_zexts vars t =
    on_two Eq t (λ y z. on_zext y (λ u a. on_zext z (λ v b.
    on_width vars a (λ p. on_width vars b (λ q. only_if (p == q) (two Eq a b))))))

-- eq(cat(a,b), cat(c,d)) with equal widths of the parts is and(eq(a,c), eq(b,d))
abbrev pub eq_of_cats : Rule
eq_of_cats vars t =
    on_two Eq t (λ y z. on_two Cat y (λ a b. on_two Cat z (λ c d.
    on_width vars a (λ p. on_width vars b (λ q. on_width vars c (λ r. on_width vars d (λ s.
    only_if ((p == r) && (q == s)) (two And (two Eq a c) (two Eq b d)))))))))

-- which truth of the condition chooses this number out of two, as a term
abbrev pub choosing : ℕ → ℕ → ℕ → Term → Term
choosing m p q c = if p == m then c else if q == m then one Not c else truth false

-- eq(m, ite(c,p,q)), where p and q differ, is c where p = m, not c where q = m, else false
abbrev pub eq_of_literal_and_ite : Rule
eq_of_literal_and_ite vars t =
    on_two Eq t (λ l i. on_bits l (λ w m. on_three Ite i (λ c x y.
    on_bits_of w x (λ p. on_bits_of w y (λ q. only_if (not (p == q)) (choosing m p q c))))))

-- the rules on equations
abbrev pub equation_rules : List Rule
equation_rules =
    eq_of_same ∷ eq_of_recs ∷ eq_of_makes ∷ eq_out_of_order ∷ eq_of_truth ∷ eq_of_literal_and_add
    ∷ eq_of_literal_and_bxor ∷ eq_of_literal_and_bnot ∷ eq_of_literal_and_zext
    ∷ eq_of_literal_and_cat ∷ eq_of_zexts ∷ eq_of_cats ∷ eq_of_literal_and_ite ∷ []
