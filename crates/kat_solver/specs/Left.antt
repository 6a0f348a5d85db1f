-- What is left of a goal under formulas, and the normal form there.
use Rattle.std.specs.Prelude.{Bool, if◌then◌else◌, List, Option, Some, None}
use Rattle.kat_value.specs.declared.types.Ty.{Ty}
use Rattle.kat_term.specs.declared.prover.Answer.{Answer}
use Rattle.kat_term.specs.declared.prover.Answer.TheVariants.{Proved, Contradiction, Residue}
use Rattle.kat_term.specs.declared.term.Term.{Term}
use Rattle.kat_term.specs.Provers.{Normal, Left}
use Rattle.kat_norm.specs.Norm.{norm_of}
use Rattle.kat_norm.specs.Substitution.{Substitution, substituted}
use Rattle.kat_known.specs.Normal.{norm_in}
use Rattle.kat_solver.specs.Add.{reduced_by, settled_of}
use Rattle.kat_solver.specs.Prove.{is_proved}
use Rattle.kat_solver.specs.Settled.{pairs_of}
use Rattle.kat_solver.specs.declared.settled.Settled.{Settled}
use Rattle.kat_solver.specs.declared.settled.Settled.TheVariants.{Closed, Open}

-- a goal that is normed and reduced is proved, or it is the residue
abbrev pub answer_by : Bool → Term → Answer
answer_by proved g = if proved then Proved else Residue g

module _ (vars : List Ty) (norm : Term → Option Term) where
  -- what is left of a goal by its normal form; where norm passes a limit on it, the goal itself
  abbrev pub answer_of : Substitution → List Term → Term → Option Term → Answer
  answer_of pairs list goal None = Residue goal
  answer_of pairs list goal (Some n) =
      answer_by (is_proved vars norm (Open pairs list) (reduced_by vars norm list n))
      (reduced_by vars norm list n)

  -- what is left of a goal in a settled world
  abbrev pub left_in : Settled → Term → Answer
  left_in Closed goal = Contradiction
  left_in (Open pairs list) goal = answer_of pairs list goal (norm (substituted pairs goal))

  -- what is left of a goal under formulas
  abbrev pub left_by : List Term → Term → Answer
  left_by formulas goal = left_in (settled_of vars norm formulas) goal

-- what is left of a goal in a world
abbrev pub left_of : Left
left_of world goal = left_by world.vars (norm_in world.vars) world.formulas goal

-- the normal form of a term in a world, under the substitution of its settled formulas
abbrev pub normal_of : Normal
normal_of world t =
    norm_of world.vars (pairs_of (settled_of world.vars (norm_in world.vars) world.formulas)) t
