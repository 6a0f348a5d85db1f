use Rattle.kat_rules.proofs.ValueLaws.{told_truths, told_numbers}
use Rattle.kat_rules.proofs.laws.told_types_hold.Goals as goal

pub returns-clause-truths : goal.returns-clause-truths
returns-clause-truths c = told_truths c.types_of_values.ensures.truths c.types_of_values.ensures.numbers

pub returns-clause-numbers : goal.returns-clause-numbers
returns-clause-numbers c = told_numbers c.types_of_values.ensures.truths c.types_of_values.ensures.numbers
