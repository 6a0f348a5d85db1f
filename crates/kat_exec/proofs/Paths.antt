-- All paths of a walk.
use Rattle.std.proofs.Common.{◌≡◌, ◌≤◌, ℕ, zero, suc, List, [], ◌∷◌, Some, refl, sym, subst, slice_get, lt_of_lt_of_le}
use Rattle.std.specs.List.{AllByRecursion}
use Rattle.kat_ast.specs.Spec.{Spec}
use Rattle.kat_term.specs.Values.{Valuation}
use Rattle.kat_syntax.specs.FirstTypeFault.{IsTyped}
use Rattle.kat_syntax.specs.Fragments.{Fragment}
use Rattle.kat_term.specs.declared.kind.Kind.{Kind}
use Rattle.kat_heap.specs.declared.mode.Mode.{Mode}
use Rattle.kat_heap.specs.Asking.{Answers}
use Rattle.kat_heap.specs.Laws.{AreSound, IsMetUnder, Leads, LeadsBy}
use Rattle.kat_heap.specs.Met.{MetAt}
use Rattle.kat_heap.specs.Stands.{StandsFor, point_at}
use Rattle.kat_heap.specs.Typed.{IsWalkOf}
use Rattle.kat_heap.specs.Walks.{Taken, Goes, Past, Pruned, Shut, Walk}
use Rattle.kat_exec.specs.Laws.{AllEnd, AtClose, AtEnd, Chooses, ContractsMetBelow, GoesOn, IsNext, LemmasHold, Passes, PassesBy, PathsAreMet, StepsAreMet, WalksStay}

-- contracts that are met below n are met below less
fewer : (spec : Spec) (n k : ℕ) → k ≤ n → ContractsMetBelow spec n → ContractsMetBelow spec k
fewer spec n k few met j below = met j (lt_of_lt_of_le below few)

module _
    (steps : StepsAreMet) (stay : WalksStay) (answers : Answers) (sound : AreSound answers)
    (spec : Spec) (is_typed : IsTyped spec) (mode : Mode) where
  -- the lemmas that the jobs of a walk use hold
  abbrev Lemmas : Walk → Type 0
  Lemmas w = LemmasHold spec mode w.point.jobs

  -- those of a walk that a step leads to are among them
  still : (w next : Walk) → Lemmas w → IsNext spec.decls mode w next → Lemmas next
  still w next lemmas is_next l lemma uses declared =
      lemmas l lemma (is_next.lemmas l uses) declared

  -- what is to be shown of a walk
  abbrev IsMetWherever : Walk → Type 0
  IsMetWherever w =
      (ρ : Valuation) (p : Fragment) (n : ℕ) → ContractsMetBelow spec n → Lemmas w →
      IsWalkOf spec.decls w → StandsFor spec.decls w ρ p →
      MetAt spec (point_at spec.decls ρ w.point) p n

  -- from there it follows under every extension, of a walk that a step leads to
  under :
      (w next : Walk) (n : ℕ) (ρ : Valuation) → ContractsMetBelow spec n → Lemmas w →
      IsNext spec.decls mode w next → IsMetWherever next → IsMetUnder spec n ρ next
  under w next n ρ contracts lemmas is_next met k few more extends q stands =
      met more q k (fewer spec n k few contracts) (still w next lemmas is_next) is_next.typed
      stands

  -- the options of a choice, none of which is at a limit
  options_under :
      (w : Walk) (options : List Taken) (n : ℕ) (ρ : Valuation) →
      ContractsMetBelow spec n → Lemmas w →
      AllByRecursion (PassesBy (IsNext spec.decls mode w)) options →
      ((k : ℕ) (kind : Kind) → slice_get options k ≡ Some (Past kind) → ⊥) →
      ((k : ℕ) (next : Walk) → slice_get options k ≡ Some (Goes next) → IsMetWherever next) →
      AllByRecursion (LeadsBy (IsMetUnder spec n ρ)) options
  options_under w [] n ρ contracts lemmas passes none met = tt
  options_under w (Pruned ∷ options) n ρ contracts lemmas passes none met = (
    tt,
    options_under w options n ρ contracts lemmas passes.1
        (λ k kind e. none (suc k) kind e) (λ k next e. met (suc k) next e),
  )
  options_under w (Shut ∷ options) n ρ contracts lemmas passes none met = (
    tt,
    options_under w options n ρ contracts lemmas passes.1
        (λ k kind e. none (suc k) kind e) (λ k next e. met (suc k) next e),
  )
  options_under w (Goes next ∷ options) n ρ contracts lemmas passes none met = (
    under w next n ρ contracts lemmas passes.0 (met zero next refl),
    options_under w options n ρ contracts lemmas passes.1
        (λ k kind e. none (suc k) kind e) (λ k next e. met (suc k) next e),
  )
  options_under w (Past kind ∷ options) n ρ contracts lemmas passes none met =
      absurd (none zero kind refl)

  -- every path of a walk ends
  pub all_paths : (w : Walk) → AllEnd answers spec.decls mode w → IsMetWherever w
  all_paths w (AtEnd e) ρ p n contracts lemmas typed stands =
      steps answers sound spec is_typed mode w ρ p n contracts lemmas typed stands
      (subst (λ moved. Leads moved (IsMetUnder spec n ρ)) (sym e) tt)
  all_paths w (AtClose e) ρ p n contracts lemmas typed stands =
      steps answers sound spec is_typed mode w ρ p n contracts lemmas typed stands
      (subst (λ moved. Leads moved (IsMetUnder spec n ρ)) (sym e) tt)
  all_paths w (GoesOn next e ends) ρ p n contracts lemmas typed stands =
      steps answers sound spec is_typed mode w ρ p n contracts lemmas typed stands
      (subst (λ moved. Leads moved (IsMetUnder spec n ρ)) (sym e)
      (under w next n ρ contracts lemmas
      (subst (λ moved. Passes moved (IsNext spec.decls mode w)) e
      (stay answers sound spec is_typed mode w typed))
      (all_paths next ends)))
  all_paths w (Chooses options e none ends) ρ p n contracts lemmas typed stands =
      steps answers sound spec is_typed mode w ρ p n contracts lemmas typed stands
      (subst (λ moved. Leads moved (IsMetUnder spec n ρ)) (sym e)
      (options_under w options n ρ contracts lemmas
      (subst (λ moved. Passes moved (IsNext spec.decls mode w)) e
      (stay answers sound spec is_typed mode w typed))
      none (λ k next is. all_paths next (ends k next is))))

-- all paths
pub paths_are_met : PathsAreMet
paths_are_met steps stay answers sound spec is_typed mode w ends ρ p n contracts lemmas typed
    stands =
    all_paths steps stay answers sound spec is_typed mode w ends ρ p n contracts lemmas typed stands
