-- What answers mean, and what adding formulas keeps.
use Rattle.std.specs.Prelude.{true, List}
use Rattle.kat_value.specs.declared.types.Ty.{Ty}
use Rattle.kat_value.specs.declared.types.TypeDecl.{TypeDecl}
use Rattle.kat_term.specs.declared.prover.Answer.{Answer}
use Rattle.kat_term.specs.declared.prover.Answer.TheVariants.{Proved, Contradiction, Residue}
use Rattle.kat_term.specs.declared.term.Term.{Term}
use Rattle.kat_term.specs.Provers.{AnswersHold, LimitsOfNorm, NormKeeps, ResiduesAreFormulas}
use Rattle.kat_term.specs.Types.{IsValuation}
use Rattle.kat_term.specs.Values.{Valuation, IsKept, value_of}
use Rattle.kat_term.specs.Worlds.{World, Fits, IsTrueUnder, AreTrueUnder}
use Rattle.kat_known.specs.Kept.{IsAtMost}
use Rattle.kat_known.specs.Normal.{norm_in}
use Rattle.kat_solver.specs.Add.{added, settled_of}
use Rattle.kat_solver.specs.Left.{left_of, normal_of}
use Rattle.kat_solver.specs.Settled.{FitsSettled}
use Rattle.kat_solver.specs.declared.settled.Settled.{Settled}

-- of a valuation under which the formulas are true: a goal that is proved is true where it has a
-- value, there is none where the answer is a contradiction, and a residue has the goal's value
abbrev pub AnswerMeans : List TypeDecl → Valuation → Term → Answer → Type 0
AnswerMeans types v goal Proved = IsAtMost types v goal true
AnswerMeans types v goal Contradiction = ⊥
AnswerMeans types v goal (Residue term) = IsKept (value_of types v goal) (value_of types v term)

-- each answer means this under each valuation that fits the world
abbrev pub AnswersMean : Type 0
AnswersMean =
    (types : List TypeDecl) (world : World) (v : Valuation) → Fits types world v →
    (goal : Term) → AnswerMeans types v goal (left_of world goal)

-- a valuation that fits a settled world and makes a formula true fits the world with the formula
abbrev pub AddedFits : Type 0
AddedFits =
    (types : List TypeDecl) (vars : List Ty) (v : Valuation) → IsValuation types vars v →
    (world : Settled) (f : Term) → FitsSettled types v world → IsTrueUnder types v f →
    FitsSettled types v (added vars (norm_in vars) world f)

-- a valuation that makes formulas true fits them settled
abbrev pub SettledFits : Type 0
SettledFits =
    (types : List TypeDecl) (vars : List Ty) (v : Valuation) → IsValuation types vars v →
    (formulas : List Term) → AreTrueUnder types v formulas →
    FitsSettled types v (settled_of vars (norm_in vars) formulas)

-- the laws that a prover owes, of the normal form under settled formulas and of what is left
pub record SolverLaws : Type 0 where
  pub limits : LimitsOfNorm normal_of
  pub keeps : NormKeeps normal_of
  pub holds : AnswersHold left_of
  pub residues : ResiduesAreFormulas normal_of left_of
