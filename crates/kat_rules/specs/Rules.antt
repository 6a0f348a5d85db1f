-- The pick of the first rule whose left side is there.
use Rattle.std.specs.Prelude.{List, [], ◌∷◌, None}
use Rattle.kat_rules.specs.BitOperations.{bit_rules}
use Rattle.kat_rules.specs.Equations.{equation_rules}
use Rattle.kat_rules.specs.Joins.{join_rules}
use Rattle.kat_rules.specs.Orders.{order_rules}
use Rattle.kat_rules.specs.Patterns.{Rule, or_else}
use Rattle.kat_rules.specs.Shifts.{shift_rules}
use Rattle.kat_rules.specs.Sums.{sum_rules}
use Rattle.kat_rules.specs.Truths.{truth_rules}

-- the right side of the first rule whose left side is there
abbrev pub first_of : List Rule → Rule
first_of [] vars t = None
first_of (rule ∷ more) vars t = or_else (rule vars t) (first_of more vars t)

-- the groups of rules in order; the first that is there in a group is itself a rule
abbrev pub rules : List Rule
rules =
    first_of truth_rules ∷ first_of equation_rules ∷ first_of order_rules ∷ first_of sum_rules
    ∷ first_of bit_rules ∷ first_of shift_rules ∷ first_of join_rules ∷ []

-- what is done at one place of a term: the first rule there
unfoldable pub rule_of : Rule
rule_of = first_of rules
