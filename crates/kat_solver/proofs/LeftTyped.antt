-- A residue is a formula of the world.
use Rattle.std.proofs.Common.{◌≡◌, Bool, true, false, List, Option, Some, None, Result, Ok, Err, refl, ap}
use Rattle.kat_value.specs.declared.types.Ty.{Ty}
use Rattle.kat_value.specs.declared.types.Ty.TheVariants as ty
use Rattle.kat_value.specs.declared.types.TypeDecl.{TypeDecl}
use Rattle.kat_term.specs.declared.kind.Kind.{Kind}
use Rattle.kat_term.specs.declared.prover.Answer.{Answer}
use Rattle.kat_term.specs.declared.prover.Answer.TheVariants.{Proved, Contradiction, Residue}
use Rattle.kat_term.specs.declared.term.Term.{Term}
use Rattle.kat_term.specs.Types.{IsTermOf}
use Rattle.kat_term.specs.Worlds.{HaveValues, AreFormulasOf}
use Rattle.kat_norm.specs.Norm.{norm_of}
use Rattle.kat_norm.specs.Substitution.{Substitution, substituted, IsPairOf, ArePairsOf}
use Rattle.kat_known.specs.Known.{known_atom}
use Rattle.kat_known.specs.Normal.{within_limits, norm_in}
use Rattle.kat_solver.specs.Add.{reduced_by, settled_of}
use Rattle.kat_solver.specs.Left.{answer_by, answer_of, left_in, left_by}
use Rattle.kat_solver.specs.Prove.{is_proved}
use Rattle.kat_solver.specs.Settled.{pairs_of}
use Rattle.kat_solver.specs.declared.settled.Settled.{Settled}
use Rattle.kat_solver.specs.declared.settled.Settled.TheVariants.{Closed, Open}
use Rattle.kat_solver.specs.Below.{Below}
use Rattle.kat_solver.proofs.Carries.{Carrying, HoldsIn, settled_holds}
use Rattle.kat_solver.proofs.Types.{and_typed, pair_typed}

-- a normal form that passes no limit is that under the pairs
pub normal_there : (vars : List Ty) (pairs : Substitution) (f g : Term) →
    norm_in vars (substituted pairs f) ≡ Some g → norm_of vars pairs f ≡ Ok g
normal_there vars pairs f g e = by (norm_of vars pairs f) e where
  by : (r : Result Term Kind) → within_limits r ≡ Some g → r ≡ Ok g
  by (Ok n) h = let same : n ≡ g = cc in ap Ok same
  by (Err limit) h = cc

module _ (below : Below) (types : List TypeDecl) (vars : List Ty)
    (has : HaveValues types vars) where
  abbrev norm : Term → Option Term
  norm = norm_in vars

  abbrev IsBool : Term → Type 0
  IsBool = IsTermOf types vars ty.Bool

  normal_typed : (pairs : Substitution) → ArePairsOf types vars pairs → (f g : Term) →
      norm (substituted pairs f) ≡ Some g → IsBool f → IsBool g
  normal_typed pairs typed f g e =
      below.norm_types vars pairs f g (normal_there vars pairs f g e) types has typed ty.Bool

  reduced_typed : (list : List Term) (t : Term) → IsBool t → IsBool (reduced_by vars norm list t)
  reduced_typed list t =
      below.reduced_types types vars (known_atom vars norm list) norm
      (below.atom_types types vars has norm list) (below.normal_types types vars has) t ty.Bool

  -- types are carried into the world; a closed world needs none
  carries_types : Carrying vars norm IsBool (IsPairOf types vars) (Unit {0})
  carries_types = record {
    closes = λ is. tt;
    parts = and_typed below types vars has;
    pairs = pair_typed below types vars has;
    reduces = λ list holds t is. reduced_typed list t is;
    refutes = λ list holds g is e. tt;
    norms = normal_typed;
  }

  abbrev IsTyped : Settled → Type 0
  IsTyped = HoldsIn below.operations vars norm IsBool (IsPairOf types vars) (Unit {0}) carries_types

  settled_typed : (formulas : List Term) → AreFormulasOf types vars formulas →
      IsTyped (settled_of vars norm formulas)
  settled_typed = settled_holds below.operations vars norm IsBool (IsPairOf types vars)
      (Unit {0}) carries_types

  pairs_typed : (world : Settled) → IsTyped world → ArePairsOf types vars (pairs_of world)
  pairs_typed Closed typed = tt
  pairs_typed (Open pairs list) typed = typed.0

  -- the pairs of settled formulas are of the types of their variables
  pub settled_pairs : (formulas : List Term) → AreFormulasOf types vars formulas →
      ArePairsOf types vars (pairs_of (settled_of vars norm formulas))
  settled_pairs formulas typed = pairs_typed (settled_of vars norm formulas)
      (settled_typed formulas typed)

  abbrev pub IsTypedAnswer : Answer → Type 0
  IsTypedAnswer (Residue term) = IsBool term
  IsTypedAnswer Proved = Unit {0}
  IsTypedAnswer Contradiction = Unit {0}

  answer_typed : (pairs : Substitution) (list : List Term) (goal : Term) →
      ArePairsOf types vars pairs → IsBool goal →
      (o : Option Term) → norm (substituted pairs goal) ≡ o →
      IsTypedAnswer (answer_of vars norm pairs list goal o)
  answer_typed pairs list goal typed is None e = is
  answer_typed pairs list goal typed is (Some n) e =
      by (is_proved vars norm (Open pairs list) (reduced_by vars norm list n)) where
        by : (b : Bool) → IsTypedAnswer (answer_by b (reduced_by vars norm list n))
        by true = tt
        by false = reduced_typed list n (normal_typed pairs typed goal n e is)

  in_typed : (world : Settled) (goal : Term) → IsTyped world → IsBool goal →
      IsTypedAnswer (left_in vars norm world goal)
  in_typed Closed goal typed is = tt
  in_typed (Open pairs list) goal typed is =
      answer_typed pairs list goal typed.0 is (norm (substituted pairs goal)) refl

  -- a residue is of type bool, where the formulas and the goal are
  pub left_typed : (formulas : List Term) (goal : Term) → AreFormulasOf types vars formulas →
      IsBool goal → IsTypedAnswer (left_by vars norm formulas goal)
  left_typed formulas goal typed is =
      in_typed (settled_of vars norm formulas) goal (settled_typed formulas typed) is
