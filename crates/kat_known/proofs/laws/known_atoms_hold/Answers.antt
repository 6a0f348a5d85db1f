use Rattle.kat_known.proofs.KeptLaws.{known_holds, atoms_keep_values, atoms_keep_types}
use Rattle.kat_known.proofs.laws.known_atoms_hold.Goals as goal

pub returns-clause-known : goal.returns-clause-known
returns-clause-known c =
    known_holds
    (record {
      operations = c.equal_terms_are_tested.ensures.operations;
      terms = c.equal_terms_are_tested.ensures.terms;
      values = c.equality_is_tested.ensures;
      truths = c.types_of_values.ensures.truths;
      parts = c.terms_by_parts.ensures;
      types = c.types_are_values.ensures;
      meanings = c.values_of_operations.ensures;
      told = c.told_types_hold.ensures.numbers;
    })
    c.told_types_hold.ensures.truths

pub returns-clause-values : goal.returns-clause-values
returns-clause-values c =
    atoms_keep_values
    (record {
      operations = c.equal_terms_are_tested.ensures.operations;
      terms = c.equal_terms_are_tested.ensures.terms;
      values = c.equality_is_tested.ensures;
      truths = c.types_of_values.ensures.truths;
      parts = c.terms_by_parts.ensures;
      types = c.types_are_values.ensures;
      meanings = c.values_of_operations.ensures;
      told = c.told_types_hold.ensures.numbers;
    })
    c.told_types_hold.ensures.truths

pub returns-clause-types : goal.returns-clause-types
returns-clause-types c =
    atoms_keep_types
    (record {
      operations = c.equal_terms_are_tested.ensures.operations;
      terms = c.equal_terms_are_tested.ensures.terms;
      values = c.equality_is_tested.ensures;
      truths = c.types_of_values.ensures.truths;
      parts = c.terms_by_parts.ensures;
      types = c.types_are_values.ensures;
      meanings = c.values_of_operations.ensures;
      told = c.told_types_hold.ensures.numbers;
    })
    c.told_types_hold.ensures.truths c.worlds_grow.ensures.valuations
