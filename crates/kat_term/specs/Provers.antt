-- What provers answer, and what their answers say.
use Rattle.std.specs.Prelude.{◌≡◌, List, Result, Ok, Err, ⊤}
use Rattle.kat_value.specs.declared.types.Ty.{Ty}
use Rattle.kat_value.specs.declared.types.TypeDecl.{TypeDecl}
use Rattle.kat_term.specs.declared.kind.Kind.{Kind}
use Rattle.kat_term.specs.declared.kind.Kind.TheVariants as kind
use Rattle.kat_term.specs.declared.prover.Answer.{Answer}
use Rattle.kat_term.specs.declared.prover.Answer.TheVariants.{Proved, Contradiction, Residue}
use Rattle.kat_term.specs.declared.prover.NormError.{NormError}
use Rattle.kat_term.specs.declared.prover.NormError.TheVariants as error
use Rattle.kat_term.specs.declared.term.Term.{Term}
use Rattle.kat_term.specs.Types.{IsTermOf}
use Rattle.kat_term.specs.Values.{Valuation, IsKept, value_of}
use Rattle.kat_term.specs.Worlds.{World, IsWorldOf, IsFormulaOf, Fits, IsValid, HasNoValuation}

-- the normal form of a term in a world, or the limit that it passes
abbrev pub Normal : Type 0
Normal = World → Term → Result Term Kind

-- what is left of a goal in a world
abbrev pub Left : Type 0
Left = World → Term → Answer

-- what an answer of `norm` says; want of memory says nothing
abbrev pub AnswersNorm : Result Term NormError → Result Term Kind → Type 0
AnswersNorm (Ok term) normal = normal ≡ Ok term
AnswersNorm (Err error.Nodes) normal = normal ≡ Err kind.Nodes
AnswersNorm (Err error.Depth) normal = normal ≡ Err kind.Depth
AnswersNorm (Err error.Rules) normal = normal ≡ Err kind.Rules
AnswersNorm (Err error.Memory) normal = ⊤

-- a limit that a normal form can pass: nodes, depth or rules
abbrev pub IsNormLimit : Kind → Type 0
IsNormLimit kind.Nodes = ⊤
IsNormLimit kind.Depth = ⊤
IsNormLimit kind.Rules = ⊤
IsNormLimit _ = ⊥

-- each limit that a normal form passes is one of these
abbrev pub LimitsOfNorm : Normal → Type 0
LimitsOfNorm normal =
    (world : World) (term : Term) (limit : Kind) → normal world term ≡ Err limit → IsNormLimit limit

-- a normal form passes no limit
abbrev pub PassesNoLimit : Result Term Kind → Type 0
PassesNoLimit (Ok term) = ⊤
PassesNoLimit (Err limit) = ⊥

-- a normal form is of the term's type, and has its value under every valuation that fits
pub record IsNormalOf (types : List TypeDecl) (world : World) (term normal : Term) : Type 0 where
  pub typed : (t : Ty) → IsTermOf types world.vars t term → IsTermOf types world.vars t normal
  pub values :
      (v : Valuation) → Fits types world v →
      IsKept (value_of types v term) (value_of types v normal)

-- `norm` keeps types and values
abbrev pub NormKeeps : Normal → Type 0
NormKeeps normal =
    (types : List TypeDecl) (world : World) → IsWorldOf types world →
    (term result : Term) → normal world term ≡ Ok result → IsNormalOf types world term result

-- what an answer means: a goal that is proved is valid, and a contradiction has no valuation
abbrev pub AnswerHolds : List TypeDecl → World → Term → Answer → Type 0
AnswerHolds types world goal Proved = IsValid types world goal
AnswerHolds types world goal Contradiction = HasNoValuation types world
AnswerHolds types world goal (Residue term) = ⊤

-- each answer holds, of goals that are formulas
abbrev pub AnswersHold : Left → Type 0
AnswersHold left =
    (types : List TypeDecl) (world : World) (goal : Term) →
    IsWorldOf types world → IsFormulaOf types world.vars goal →
    AnswerHolds types world goal (left world goal)

-- a residue is a formula of the world
abbrev pub ResidueIsFormula : List TypeDecl → World → Answer → Type 0
ResidueIsFormula types world Proved = ⊤
ResidueIsFormula types world Contradiction = ⊤
ResidueIsFormula types world (Residue term) = IsFormulaOf types world.vars term

-- each residue is one, of goals whose normal form passes no limit
abbrev pub ResiduesAreFormulas : Normal → Left → Type 0
ResiduesAreFormulas normal left =
    (types : List TypeDecl) (world : World) (goal : Term) →
    IsWorldOf types world → IsFormulaOf types world.vars goal →
    PassesNoLimit (normal world goal) → ResidueIsFormula types world (left world goal)
