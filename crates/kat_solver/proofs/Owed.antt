-- The laws that a prover owes.
use Rattle.std.proofs.Common.{◌∙◌, List, sym}
use Rattle.kat_value.specs.declared.types.TypeDecl.{TypeDecl}
use Rattle.kat_term.specs.declared.prover.Answer.{Answer}
use Rattle.kat_term.specs.declared.prover.Answer.TheVariants.{Proved, Contradiction, Residue}
use Rattle.kat_term.specs.declared.term.Term.{Term}
use Rattle.kat_term.specs.Provers.{AnswerHolds, AnswersHold, NormKeeps, ResidueIsFormula, ResiduesAreFormulas}
use Rattle.kat_term.specs.Values.{Valuation}
use Rattle.kat_term.specs.Worlds.{World, IsFormulaOf, Fits}
use Rattle.kat_norm.specs.Substitution.{AreEqual}
use Rattle.kat_known.specs.Normal.{norm_in}
use Rattle.kat_solver.specs.Add.{settled_of}
use Rattle.kat_solver.specs.Left.{left_of, normal_of}
use Rattle.kat_solver.specs.Means.{AnswerMeans, SolverLaws}
use Rattle.kat_solver.specs.Settled.{pairs_of, FitsSettled}
use Rattle.kat_solver.specs.declared.settled.Settled.{Settled}
use Rattle.kat_solver.specs.declared.settled.Settled.TheVariants.{Closed, Open}
use Rattle.kat_solver.proofs.AddKeeps.{settled_fits}
use Rattle.kat_solver.specs.Below.{Below}
use Rattle.kat_solver.proofs.LeftTyped.{IsTypedAnswer, left_typed, settled_pairs}
use Rattle.kat_solver.proofs.NormLimits.{limits_named}
use Rattle.kat_solver.proofs.ProveSound.{left_means}

pairs_equal : (types : List TypeDecl) (v : Valuation) (world : Settled) →
    FitsSettled types v world → AreEqual types v (pairs_of world)
pairs_equal types v Closed is = absurd is
pairs_equal types v (Open pairs list) is = is.0

module _ (below : Below) where
  norm_keeps : NormKeeps normal_of
  norm_keeps types world is t result e =
      let pairs = pairs_of (settled_of world.vars (norm_in world.vars) world.formulas) in
      record {
        typed = below.norm_types world.vars pairs t result e types is.vars
            (settled_pairs below types world.vars is.vars world.formulas is.formulas);
        values = λ v fits. below.norm_values world.vars pairs t result e types v fits.valued
            (pairs_equal types v (settled_of world.vars (norm_in world.vars) world.formulas)
            (settled_fits below types world.vars v fits.valued world.formulas fits.truths));
      }

  holds_by : (types : List TypeDecl) (world : World) (goal : Term) →
      IsFormulaOf types world.vars goal → (answer : Answer) →
      ((v : Valuation) → Fits types world v → AnswerMeans types v goal answer) →
      AnswerHolds types world goal answer
  holds_by types world goal is Proved means = λ v fits.
      let has = (below.typed types world.vars v fits.valued _ goal).0 is in
      has.1 ∙ sym (means v fits has.0 has.1)
  holds_by types world goal is Contradiction means = means
  holds_by types world goal is (Residue term) means = tt

  answers_hold : AnswersHold left_of
  answers_hold types world goal world_is is =
      holds_by types world goal is (left_of world goal)
      (λ v fits. left_means below types world.vars v fits.valued world.formulas goal fits.truths)

  residue_by : (types : List TypeDecl) (world : World) (has : _) (answer : Answer) →
      IsTypedAnswer below types world.vars has answer →
      ResidueIsFormula types world answer
  residue_by types world has Proved typed = tt
  residue_by types world has Contradiction typed = tt
  residue_by types world has (Residue term) typed = typed

  residues_typed : ResiduesAreFormulas normal_of left_of
  residues_typed types world goal world_is is passes =
      residue_by types world world_is.vars (left_of world goal)
      (left_typed below types world.vars world_is.vars world.formulas goal world_is.formulas is)

  pub solver_laws : SolverLaws
  solver_laws = record {
    limits = λ world t limit e. limits_named world.vars
        (pairs_of (settled_of world.vars (norm_in world.vars) world.formulas)) t limit e;
    keeps = norm_keeps;
    holds = answers_hold;
    residues = residues_typed;
  }
