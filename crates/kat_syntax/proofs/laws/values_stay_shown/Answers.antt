use Rattle.kat_syntax.proofs.ShownStatements.{values_stay_shown}
use Rattle.kat_syntax.proofs.laws.values_stay_shown.Goals as goal

pub returns : goal.returns
returns c = values_stay_shown (record {
  exact = c.operations_are_exact.ensures;
  shown = c.values_show_types.ensures;
  unit = c.types_of_values.ensures.unit;
  truths = c.types_of_values.ensures.truths;
  numbers = c.types_of_values.ensures.numbers;
})
