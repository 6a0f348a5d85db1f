use Rattle.kat_value.proofs.TypeLawLemmas.{unit_is_unit, bool_is_truths, bits_are_numbers}
use Rattle.kat_value.proofs.laws.types_of_values.Goals as goal

pub returns-clause-unit : goal.returns-clause-unit
returns-clause-unit c = unit_is_unit

pub returns-clause-truths : goal.returns-clause-truths
returns-clause-truths c = bool_is_truths

pub returns-clause-numbers : goal.returns-clause-numbers
returns-clause-numbers c = bits_are_numbers
