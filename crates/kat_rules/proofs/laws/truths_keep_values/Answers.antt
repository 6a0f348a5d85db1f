use Rattle.kat_rules.proofs.Groups.{truths_keep}
use Rattle.kat_rules.proofs.laws.truths_keep_values.Goals as goal

pub returns : goal.returns
returns c =
    truths_keep
    (record {
      operations = c.equal_terms_are_tested.ensures.operations;
      terms = c.equal_terms_are_tested.ensures.terms;
      values = c.equality_is_tested.ensures;
      truths = c.types_of_values.ensures.truths;
      numbers = c.types_of_values.ensures.numbers;
    })
