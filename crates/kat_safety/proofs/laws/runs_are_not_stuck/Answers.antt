use Rattle.kat_safety.proofs.laws.runs_are_not_stuck.Goals as goal
use Rattle.kat_safety.proofs.TypedRuns.{runs_are, runs_fail}

pub returns-clause-never : goal.returns-clause-never
returns-clause-never c =
    runs_are c.values_show_types.ensures c.types_of_values.ensures.unit c.types_of_values.ensures.truths
    c.types_of_values.ensures.numbers c.typed_expressions_have_values.ensures c.states_stay.ensures

pub returns-clause-fails : goal.returns-clause-fails
returns-clause-fails c =
    runs_fail c.values_show_types.ensures c.types_of_values.ensures.unit c.types_of_values.ensures.truths
    c.types_of_values.ensures.numbers c.typed_expressions_have_values.ensures c.states_stay.ensures c.statements_do_their_parts.ensures
