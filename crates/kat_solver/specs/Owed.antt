-- The laws that a prover owes, from the fact that they hold.
use Rattle.std.specs.Prelude.{List, Option}
use Rattle.std.specs.Coded.{Coded-set, coded_option, Unit-prop, Π_prop, →_prop}
use Rattle.std.proofs.Math.Logic.{∥∥₁_elim}
use mathlib.Core.HLevel.{⊥_prop}
use Rattle.kat_value.specs.contracts.types.Ty as type
use Rattle.kat_value.specs.contracts.value.Value as value
use Rattle.kat_value.specs.declared.types.Ty.{Ty}
use Rattle.kat_value.specs.declared.types.TypeDecl.{TypeDecl}
use Rattle.kat_value.specs.declared.value.Value.{Value}
use Rattle.kat_term.specs.declared.kind.Kind.{Kind}
use Rattle.kat_term.specs.declared.kind.Kind.TheVariants as kind
use Rattle.kat_term.specs.declared.prover.Answer.{Answer}
use Rattle.kat_term.specs.declared.prover.Answer.TheVariants.{Proved, Contradiction, Residue}
use Rattle.kat_term.specs.declared.term.Term.{Term}
use Rattle.kat_term.specs.Provers.{AnswerHolds, AnswersHold, IsNormLimit, LimitsOfNorm, NormKeeps, ResidueIsFormula, ResiduesAreFormulas}
use Rattle.kat_term.specs.Worlds.{World}
use Rattle.kat_solver.specs.Left.{left_of, normal_of}
use Rattle.kat_solver.specs.Means.{SolverLaws}

-- equations of values and of types are facts
value_set : IsSet (Option Value)
value_set = Coded-set (coded_option value.the_row.coded)

type_set : IsSet (Option Ty)
type_set = Coded-set (coded_option type.the_row.coded)

IsNormLimit-prop : (limit : Kind) → IsProp (IsNormLimit limit)
IsNormLimit-prop kind.Nodes = Unit-prop
IsNormLimit-prop kind.Depth = Unit-prop
IsNormLimit-prop kind.Rules = Unit-prop
IsNormLimit-prop _ = ⊥_prop

AnswerHolds-prop :
    (types : List TypeDecl) (world : World) (goal : Term) (answer : Answer) →
    IsProp (AnswerHolds types world goal answer)
AnswerHolds-prop types world goal Proved = Π_prop (λ v. →_prop (value_set _ _))
AnswerHolds-prop types world goal Contradiction = Π_prop (λ v. →_prop ⊥_prop)
AnswerHolds-prop types world goal (Residue term) = Unit-prop

ResidueIsFormula-prop :
    (types : List TypeDecl) (world : World) (answer : Answer) →
    IsProp (ResidueIsFormula types world answer)
ResidueIsFormula-prop types world Proved = Unit-prop
ResidueIsFormula-prop types world Contradiction = Unit-prop
ResidueIsFormula-prop types world (Residue term) = type_set _ _

-- each law, where all of them hold
pub limits_owed : ∥ SolverLaws ∥₁ → LimitsOfNorm normal_of
limits_owed laws world t limit e =
    ∥∥₁_elim laws (IsNormLimit-prop limit) (λ (l : SolverLaws). l.limits world t limit e)

pub keeps_owed : ∥ SolverLaws ∥₁ → NormKeeps normal_of
keeps_owed laws types world is t result e =
    record {
      typed = λ ty typed.
          ∥∥₁_elim laws (type_set _ _)
          (λ (l : SolverLaws). (l.keeps types world is t result e).typed ty typed);
      values = λ v fits x has.
          ∥∥₁_elim laws (value_set _ _)
          (λ (l : SolverLaws). (l.keeps types world is t result e).values v fits x has);
    }

pub holds_owed : ∥ SolverLaws ∥₁ → AnswersHold left_of
holds_owed laws types world goal is formula =
    ∥∥₁_elim laws (AnswerHolds-prop types world goal (left_of world goal))
    (λ (l : SolverLaws). l.holds types world goal is formula)

pub residues_owed : ∥ SolverLaws ∥₁ → ResiduesAreFormulas normal_of left_of
residues_owed laws types world goal is formula passes =
    ∥∥₁_elim laws (ResidueIsFormula-prop types world (left_of world goal))
    (λ (l : SolverLaws). l.residues types world goal is formula passes)
