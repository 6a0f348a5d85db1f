-- The first rule that is there keeps values, as each rule does.
use Rattle.std.proofs.Common.{List, [], ◌∷◌}
use Rattle.kat_term.specs.Values.{IsKept, value_of}
use Rattle.kat_rules.specs.BitOperations.{bit_rules}
use Rattle.kat_rules.specs.Equations.{equation_rules}
use Rattle.kat_rules.specs.Joins.{join_rules}
use Rattle.kat_rules.specs.Keeps.{Keeps, AllKeep}
use Rattle.kat_rules.specs.Orders.{order_rules}
use Rattle.kat_rules.specs.Patterns.{Rule}
use Rattle.kat_rules.specs.Rules.{first_of, rules, rule_of}
use Rattle.kat_rules.specs.Shifts.{shift_rules}
use Rattle.kat_rules.specs.Sums.{sum_rules}
use Rattle.kat_rules.specs.Truths.{truth_rules}
use Rattle.kat_rules.proofs.Patterns.{either_is}

first_keeps : (rules : List Rule) → AllKeep rules → Keeps (first_of rules)
first_keeps [] keep types vars v given t r e = cc
first_keeps (rule ∷ more) keep types vars v given t r e =
    either_is (IsKept (value_of types v t) (value_of types v r)) (rule vars t) (first_of more vars t) r e
    (λ h. keep.0 types vars v given t r h) (λ h. first_keeps more keep.1 types vars v given t r h)

pub rule_keeps : AllKeep truth_rules → AllKeep equation_rules → AllKeep order_rules → AllKeep sum_rules → AllKeep bit_rules → AllKeep shift_rules → AllKeep join_rules → Keeps rule_of
unfolding rule_of
rule_keeps truths equations orders sums bits shifts joins =
    first_keeps rules (first_keeps truth_rules truths, (first_keeps equation_rules equations, (first_keeps order_rules orders, (first_keeps sum_rules sums, (first_keeps bit_rules bits, (first_keeps shift_rules shifts, (first_keeps join_rules joins, tt)))))))
