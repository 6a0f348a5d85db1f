-- The laws of the crates below that those of rules rest on.
use Rattle.kat_value.specs.Equality.{TestsEquality}
use Rattle.kat_value.specs.TypeLaws.{BoolIsTruths, BitsAreNumbers}
use Rattle.kat_term.specs.Equality.{TestsOperations, TestsTerms}

pub record TermLaws : Type 0 where
  pub operations : TestsOperations
  pub terms : TestsTerms
  pub values : TestsEquality
  pub truths : BoolIsTruths
  pub numbers : BitsAreNumbers
