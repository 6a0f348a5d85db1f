-- What a list of formulas tells of an atom.
use Rattle.std.specs.Prelude.{Bool, true, false, ◌==◌, ◌&&◌, ◌||◌, nat_lt, nat_le, if◌then◌else◌, List, Option, Some, None, option_and_then}
use Rattle.std.specs.Option.{option_map, option_or}
use Rattle.kat_value.specs.declared.op.Op.TheVariants.{Not, Eq, Ult, Ule}
use Rattle.kat_value.specs.declared.types.Ty.{Ty}
use Rattle.kat_term.specs.declared.term.Term.{Term}
use Rattle.kat_term.specs.Views.{one, two, truth}
use Rattle.kat_rules.specs.Widths.{width_of}
use Rattle.kat_known.specs.declared.bounds.Interval.{Interval}
use Rattle.kat_known.specs.Bounds.{bounds_of}
use Rattle.kat_known.specs.Views.{with_two, where_so, contains, contains_there, is_atom}

-- whether the numbers of one interval are less than those of another
abbrev pub less_by : Interval → Interval → Option Bool
less_by i j =
    if nat_lt i.high j.low then Some true else if nat_le j.high i.low then Some false else None

-- whether they are at most those of another
abbrev pub at_most_by : Interval → Interval → Option Bool
at_most_by i j =
    if nat_le i.high j.low then Some true else if nat_lt j.high i.low then Some false else None

-- whether both intervals are one number, the same
abbrev pub is_one_number : Interval → Interval → Bool
is_one_number i j = (i.low == i.high) && ((j.low == j.high) && (i.low == j.low))

-- whether the numbers of one interval are equal to those of another
abbrev pub equal_by : Interval → Interval → Option Bool
equal_by i j =
    if nat_lt i.high j.low then Some false
    else if nat_lt j.high i.low then Some false
    else if is_one_number i j then Some true
    else None

-- what a comparison in the list tells of another, or of an equation, of the same sides
abbrev pub by_order : List Term → Term → Option Bool
by_order list t =
    option_or (with_two Ule t (λ a b. where_so (contains (two Ult a b) list) (Some true)))
    (with_two Eq t (λ a b.
    where_so (contains (two Ult a b) list || contains (two Ult b a) list) (Some false)))

-- what bounds tell of a comparison, or of an equation of bits
abbrev pub by_bounds : List Ty → List Term → Term → Option Bool
by_bounds vars list t =
    option_or (with_two Ult t (λ a b. less_by (bounds_of vars list a) (bounds_of vars list b)))
    (option_or (with_two Ule t (λ a b. at_most_by (bounds_of vars list a) (bounds_of vars list b)))
    (with_two Eq t (λ a b.
    option_and_then (λ w. equal_by (bounds_of vars list a) (bounds_of vars list b))
    (width_of vars a))))

-- whether an atom is known, and how: true where it is in the list, false where its normed negation
-- is, then by comparisons in the list, then by bounds; the first that speaks decides
abbrev pub known : List Ty → (Term → Option Term) → List Term → Term → Option Bool
known vars norm list t =
    option_or (where_so (contains t list) (Some true))
    (option_or (where_so (contains_there (norm (one Not t)) list) (Some false))
    (option_or (by_order list t) (by_bounds vars list t)))

-- the literal of a known atom
abbrev pub known_atom : List Ty → (Term → Option Term) → List Term → Term → Option Term
known_atom vars norm list t =
    where_so (is_atom vars t) (option_map truth (known vars norm list t))
