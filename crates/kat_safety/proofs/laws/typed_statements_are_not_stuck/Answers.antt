use Rattle.kat_safety.proofs.laws.typed_statements_are_not_stuck.Goals as goal
use Rattle.kat_safety.proofs.TypedRuns.{statements_are}

pub returns : goal.returns
returns c =
    statements_are c.values_show_types.ensures c.types_of_values.ensures.unit c.types_of_values.ensures.truths
    c.types_of_values.ensures.numbers c.typed_expressions_have_values.ensures c.states_stay.ensures
