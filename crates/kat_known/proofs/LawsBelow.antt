-- The laws of the crates below that those here rest on.
use Rattle.kat_value.specs.Equality.{TestsEquality}
use Rattle.kat_value.specs.TypeLaws.{BoolIsTruths}
use Rattle.kat_term.specs.Equality.{TestsOperations, TestsTerms}
use Rattle.kat_term.specs.Parts.{TermsByParts}
use Rattle.kat_term.specs.Types.{TypesAreValues}
use Rattle.kat_rules.specs.Values.{ValuesOfOperations, ToldNumbers}

pub record LawsBelow : Type 0 where
  pub operations : TestsOperations
  pub terms : TestsTerms
  pub values : TestsEquality
  pub truths : BoolIsTruths
  pub parts : TermsByParts
  pub types : TypesAreValues
  pub meanings : ValuesOfOperations
  pub told : ToldNumbers
