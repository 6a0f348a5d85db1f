-- The backward rule of every move.
use Rattle.std.proofs.Common.{ℕ, zero, suc, List, [], ◌∷◌, Some, slice_get}
use Rattle.std.specs.List.{AllByRecursion}
use Rattle.kat_ast.specs.Spec.{Spec}
use Rattle.kat_term.specs.Values.{Valuation}
use Rattle.kat_heap.specs.Laws.{Comes, ComesBy, Continues, IsMetUnder, JobsAreMetBackwards, Leads, LeadsBy}
use Rattle.kat_heap.specs.Walks.{Moved, Choose, Closed, Ended, Limit, On, Owed, Taken, Goes, Past, Pruned, Shut, Walk}

module _ (spec : Spec) (n : ℕ) (ρ : Valuation) (Before : Type 0) where
  -- from a walk whose jobs are met
  of_walk : (w : Walk) → IsMetUnder spec n ρ w → Continues spec n ρ Before w → Before
  of_walk w met goes = goes.back (λ k few. met k few goes.more goes.extends goes.owned goes.stands)

  -- from an option
  of_option :
      (taken : Taken) → LeadsBy (IsMetUnder spec n ρ) taken →
      ComesBy (Continues spec n ρ Before) (Some taken) → Before
  of_option Pruned met goes = absurd goes
  of_option Shut met goes = absurd goes
  of_option (Goes w) met goes = of_walk w met goes
  of_option (Past kind) met goes = absurd met

  -- from the option at a place
  of_options :
      (options : List Taken) (k : ℕ) → AllByRecursion (LeadsBy (IsMetUnder spec n ρ)) options →
      ComesBy (Continues spec n ρ Before) (slice_get options k) → Before
  of_options [] k met goes = absurd goes
  of_options (taken ∷ options) zero met goes = of_option taken met.0 goes
  of_options (taken ∷ options) (suc k) met goes = of_options options k met.1 goes

  -- from a move
  pub of_move :
      (moved : Moved) → Leads moved (IsMetUnder spec n ρ) →
      Comes moved (Continues spec n ρ Before) → Before
  of_move Ended met goes = absurd goes
  of_move (On w) met goes = of_walk w met goes
  of_move Closed met goes = absurd goes
  of_move (Choose options) met goes = of_options options goes.0 met goes.1
  of_move (Owed world residue) met goes = absurd met
  of_move (Limit kind) met goes = absurd met

-- jobs are met backwards
pub met_backwards : JobsAreMetBackwards
met_backwards spec n ρ before p moved met goes = of_move spec n ρ _ moved met goes
