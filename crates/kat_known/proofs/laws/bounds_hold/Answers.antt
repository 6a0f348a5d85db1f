use Rattle.kat_known.proofs.BoundsRest.{bounds_rest}
use Rattle.kat_known.proofs.KeptLaws.{bounds_hold}
use Rattle.kat_known.proofs.laws.bounds_hold.Goals as goal

pub returns-clause-rest : goal.returns-clause-rest
returns-clause-rest c = bounds_rest

pub returns-clause-hold : goal.returns-clause-hold
returns-clause-hold c =
    bounds_hold
    (record {
      operations = c.equal_terms_are_tested.ensures.operations;
      terms = c.equal_terms_are_tested.ensures.terms;
      values = c.equality_is_tested.ensures;
      truths = c.types_of_values.ensures.truths;
      parts = c.terms_by_parts.ensures;
      types = c.types_are_values.ensures;
      meanings = c.values_of_operations.ensures;
      told = c.told_types_hold.ensures.numbers;
    })
