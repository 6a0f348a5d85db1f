use Rattle.kat_safety.proofs.laws.typed_expressions_have_values.Goals as goal
use Rattle.kat_safety.proofs.TypedExpressions.{expression_has}
use Rattle.kat_safety.proofs.TypedNames.{looks_alike}
use Rattle.kat_safety.proofs.TypedReads.{reads_alike}

pub returns : goal.returns
returns c = λ spec k at standing reads scope locals e machine formed clean are among.
    expression_has (record {
      exact = c.operations_are_exact.ensures;
      shown = c.values_show_types.ensures;
      unit = c.types_of_values.ensures.unit;
      truths = c.types_of_values.ensures.truths;
      numbers = c.types_of_values.ensures.numbers;
    }) spec.decls k standing reads
    (looks_alike c.values_show_types.ensures c.operations_are_exact.ensures spec.decls k
    (c.types_name_earlier_ones.ensures spec machine.typed))
    (reads_alike c.types_of_values.ensures.numbers spec.decls k machine.typed standing reads are)
    scope locals among e at formed clean
