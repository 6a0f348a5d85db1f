-- Bounds moved, and what they tell, in numbers.
use Rattle.std.proofs.Common.{◌≡◌, true, false, Some, None, refl}
use Rattle.kat_known.specs.Bounds.{from_to, taken_in}
use Rattle.kat_known.specs.Known.{less_by, at_most_by, equal_by}
use Rattle.kat_known.specs.declared.facts.Fact.TheVariants.{Above, AtLeast, Below, AtMost, Exactly, Differs}

-- a literal below, and one that bounds below
below : taken_in (Some (Above 3)) (from_to 0 255) ≡ from_to 4 255
below = refl

from : taken_in (Some (AtLeast 3)) (from_to 0 255) ≡ from_to 3 255
from = refl

-- a literal above, and one that bounds above
above : taken_in (Some (Below 9)) (from_to 4 255) ≡ from_to 4 8
above = refl

up_to : taken_in (Some (AtMost 9)) (from_to 4 255) ≡ from_to 4 9
up_to = refl

-- a number that it is, and one that it is not, at a bound and between
exactly : taken_in (Some (Exactly 7)) (from_to 4 9) ≡ from_to 7 7
exactly = refl

not_at_the_bound : taken_in (Some (Differs 4)) (from_to 4 9) ≡ from_to 5 9
not_at_the_bound = refl

not_between : taken_in (Some (Differs 6)) (from_to 4 9) ≡ from_to 4 9
not_between = refl

-- one number stays
not_alone : taken_in (Some (Differs 4)) (from_to 4 4) ≡ from_to 4 4
not_alone = refl

-- at an equal bound less is open, and at most is known
less_is_open : less_by (from_to 2 5) (from_to 5 9) ≡ None
less_is_open = refl

at_most_is_known : at_most_by (from_to 2 5) (from_to 5 9) ≡ Some true
at_most_is_known = refl

not_less : less_by (from_to 5 9) (from_to 2 5) ≡ Some false
not_less = refl

-- equal only where both are one number
not_equal : equal_by (from_to 2 4) (from_to 5 9) ≡ Some false
not_equal = refl

equal : equal_by (from_to 5 5) (from_to 5 5) ≡ Some true
equal = refl

equal_is_open : equal_by (from_to 5 6) (from_to 5 6) ≡ None
equal_is_open = refl
