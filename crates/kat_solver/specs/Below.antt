-- The laws of the crates below.
use Rattle.kat_value.specs.Equality.{TestsEquality}
use Rattle.kat_value.specs.TypeLaws.{BoolIsTruths}
use Rattle.kat_term.specs.Equality.{TestsOperations}
use Rattle.kat_term.specs.Growth.{WorldsHaveValuations}
use Rattle.kat_term.specs.Parts.{TermsByParts}
use Rattle.kat_term.specs.Types.{TypesAreValues}
use Rattle.kat_rules.specs.Values.{ToldTruths, ValuesOfOperations}
use Rattle.kat_norm.specs.Kept.{KeptBySubstitution, TypesAreKept, ValuesAreKept}
use Rattle.kat_known.specs.First.{FoundHaveValues}
use Rattle.kat_known.specs.Kept.{AtomsKeepTypes, AtomsKeepValues, KnownHolds, NormalKeepsTypes, NormalKeepsValues, ReducedKeepsTypes, ReducedKeepsValues, StrictlyKeepsValues}

-- what the laws of settled worlds and of a prover stand on
pub record Below : Type 0 where
  pub operations : TestsOperations
  pub equal : TestsEquality
  pub truths : BoolIsTruths
  pub parts : TermsByParts
  pub values : ValuesOfOperations
  pub typed : TypesAreValues
  pub valuations : WorldsHaveValuations
  pub told : ToldTruths
  pub pairs : KeptBySubstitution
  pub norm_values : ValuesAreKept
  pub norm_types : TypesAreKept
  pub known : KnownHolds
  pub atom_values : AtomsKeepValues
  pub atom_types : AtomsKeepTypes
  pub normal_values : NormalKeepsValues
  pub normal_types : NormalKeepsTypes
  pub reduced_values : ReducedKeepsValues
  pub reduced_types : ReducedKeepsTypes
  pub strict_values : StrictlyKeepsValues
  pub found : FoundHaveValues
