-- The bounds of a term, by the comparisons with literals in a list.
use Rattle.std.specs.Prelude.{ℕ, Bool, true, false, zero, suc, ◌+◌, ◌-◌, ◌^◌, ◌==◌, ◌&&◌, if◌then◌else◌, List, [], ◌∷◌, length, max, min, Option, Some, None, option_and_then, unwrap_or}
use Rattle.std.specs.Option.{option_or}
use Rattle.kat_value.specs.declared.op.Op.{Op}
use Rattle.kat_value.specs.declared.op.Op.TheVariants.{Not, Eq, Ult, Ule, Zext}
use Rattle.kat_value.specs.declared.types.Ty.{Ty}
use Rattle.kat_value.specs.declared.value.Value.TheVariants.{Bits}
use Rattle.kat_value.specs.Widths.{widest}
use Rattle.kat_term.specs.declared.term.Term.{Term}
use Rattle.kat_term.specs.declared.term.Term.TheOpen.{Term-F, Var, Lit, Apply, Make, Rec}
use Rattle.kat_term.specs.Equality.{term_eq}
use Rattle.kat_term.specs.Views.{one_item, two_items}
use Rattle.kat_rules.specs.Widths.{width_of}
use Rattle.kat_known.specs.declared.bounds.Interval.{Interval}
use Rattle.kat_known.specs.declared.facts.Fact.{Fact}
use Rattle.kat_known.specs.declared.facts.Fact.TheVariants.{Above, AtLeast, Below, AtMost, Exactly, Differs}
use Rattle.kat_known.specs.Parts.{Part, found_of}
use Rattle.kat_known.specs.Views.{with_one, with_two, with_number, where_so}

-- the numbers from one to another, both included
abbrev pub from_to : ℕ → ℕ → Interval
from_to low high = record { low = low; high = high }

-- what a comparison of a term with a literal, on either side, tells of the term
abbrev pub told_by_order : (ℕ → Fact) → (ℕ → Fact) → Term → Term → Term → Option Fact
told_by_order above below t a b =
    option_or (where_so (term_eq b t) (with_number a above))
    (where_so (term_eq a t) (with_number b below))

-- what an equation of a literal and a term tells of the term
abbrev pub told_by_equation : (ℕ → Fact) → Term → Term → Term → Option Fact
told_by_equation fact t a b = where_so (term_eq b t) (with_number a fact)

-- what the negation of a formula tells of a term
abbrev pub told_by_negation : Term → Term → Option Fact
told_by_negation t inner = with_two Eq inner (told_by_equation Differs t)

-- what a formula tells of the number of a term
abbrev pub fact_of : Term → Term → Option Fact
fact_of t formula =
    option_or (with_two Ult formula (told_by_order Above Below t))
    (option_or (with_two Ule formula (told_by_order AtLeast AtMost t))
    (option_or (with_two Eq formula (told_by_equation Exactly t))
    (with_one Not formula (told_by_negation t))))

-- the same, by the operation and its arguments
abbrev pub fact_by : Op → Term → List Term → Option Fact
fact_by Ult t args =
    option_and_then (λ sides. told_by_order Above Below t sides.0 sides.1) (two_items args)
fact_by Ule t args =
    option_and_then (λ sides. told_by_order AtLeast AtMost t sides.0 sides.1) (two_items args)
fact_by Eq t args =
    option_and_then (λ sides. told_by_equation Exactly t sides.0 sides.1) (two_items args)
fact_by Not t args = option_and_then (told_by_negation t) (one_item args)
fact_by _ t args = None

-- an interval from which a bound that is this number is taken, where the bounds differ
abbrev pub inwards : ℕ → Interval → Interval
inwards n i =
    if i.low == i.high then i
    else if i.low == n then from_to (i.low + 1) i.high
    else if i.high == n then from_to i.low (i.high - 1)
    else i

-- an interval with what is told taken in
abbrev pub taken_in : Option Fact → Interval → Interval
taken_in None i = i
taken_in (Some (Above n)) i = from_to (max i.low (n + 1)) i.high
taken_in (Some (Below n)) i = from_to i.low (min i.high (n - 1))
taken_in (Some (AtLeast n)) i = from_to (max i.low n) i.high
taken_in (Some (AtMost n)) i = from_to i.low (min i.high n)
taken_in (Some (Exactly n)) i = from_to (max i.low n) (min i.high n)
taken_in (Some (Differs n)) i = inwards n i

-- the list is read once, in order
abbrev pub read_all : Term → List Term → Interval → Interval
read_all t [] i = i
read_all t (formula ∷ list) i = read_all t list (taken_in (fact_of t formula) i)

-- whether two intervals are the same
abbrev pub same_interval : Interval → Interval → Bool
same_interval i j = (i.low == j.low) && (i.high == j.high)

-- the list is read until nothing changes, at most so many times
abbrev pub read_times : ℕ → Term → List Term → Interval → Interval
read_times zero t list i = i
read_times (suc more) t list i =
    if same_interval (read_all t list i) i then i
    else read_times more t list (read_all t list i)

-- it is read until nothing changes: twice for each formula is as often as anything can change
abbrev pub read_often : Term → List Term → Interval → Interval
read_often t list = read_times (length list + length list) t list

-- the numbers of this many bits; no number has more bits than the widest
abbrev pub all_of_width : ℕ → Interval
all_of_width w = from_to 0 (2 ^ min w widest - 1)

-- the numbers of the width that a term tells; all numbers, where it tells none
abbrev pub all_numbers : List Ty → Term → Interval
all_numbers vars t = all_of_width (unwrap_or (width_of vars t) widest)

-- whether an operation is `zext`
abbrev pub is_zext : Op → Bool
is_zext (Zext w) = true
is_zext _ = false

-- what an operation begins with: a `zext` with the bounds of its argument
abbrev pub begins_with : Bool → Interval → List (Part Interval) → Interval
begins_with zext all [] = all
begins_with zext all (arg ∷ []) = if zext then arg.found else all
begins_with zext all (arg ∷ other ∷ more) = all

-- one layer, with the bounds of its parts: a literal of bits has its number alone; any other term
-- begins with all numbers of its width, a `zext` with the bounds of its argument, and the list is
-- read for it
abbrev pub bounds_layer : List Ty → List Term → Term → Term-F (Part Interval) → Interval
bounds_layer vars list t (Var i) = read_often t list (all_numbers vars t)
bounds_layer vars list t (Lit (Bits w n)) = from_to n n
bounds_layer vars list t (Lit _) = read_often t list (all_numbers vars t)
bounds_layer vars list t (Apply op args) =
    read_often t list (begins_with (is_zext op) (all_numbers vars t) args)
bounds_layer vars list t (Make of ctor inner) = read_often t list (all_numbers vars t)
bounds_layer vars list t (Rec of fields) = read_often t list (all_numbers vars t)

-- the bounds of a term
abbrev pub bounds_of : List Ty → List Term → Term → Interval
bounds_of vars list = found_of (bounds_layer vars list)
