-- Contracts that are met with fewer calls.
use Rattle.std.proofs.Common.{arith, ◌≡◌, ◌≢◌, ℕ, ◌+◌, ◌-◌, List, ◌++◌, Option, Some, None, sym, subst}
use Rattle.kat_value.specs.declared.value.Value.{Value}
use Rattle.kat_ast.specs.declared.decl.DeclForm.{DeclForm}
use Rattle.kat_ast.specs.declared.place.Place.{Place}
use Rattle.kat_syntax.specs.Cycle.{bound, call_of, progress_at}
use Rattle.kat_syntax.specs.Evaluation.{Locals}
use Rattle.kat_syntax.specs.Machine.{MachineState}
use Rattle.kat_syntax.specs.Meaning.{meaning}
use Rattle.kat_syntax.specs.MeaningLaws.{MoreCallsChangeNoOutcome, outcome_with_more}
use Rattle.kat_syntax.specs.Meets.{Ends, LeavesPost, body_with}
use Rattle.kat_syntax.specs.Outcomes.{Outcome, Done, Out, Fail, Stuck, StmSite, at_site, given, inside, place_in}
use Rattle.kat_syntax.specs.Tables.{Function}
use Rattle.kat_claims.specs.Budgets.{FewerCallsMeet}

-- the outcome of a body, whose failures stand in its declaration
abbrev whole_body : Function → Outcome StmSite → Outcome Place
whole_body function o = at_site (place_in function.decl) (inside function.body_at o)

-- what is so with more calls is so with fewer, where an outcome that is not Out is the same
fewer :
    (function : Function) (d : ℕ) (o u : Outcome StmSite) (P : Value → MachineState → Type 0) →
    (o ≢ Out → u ≡ outcome_with_more d o) →
    Ends (whole_body function u) P → Ends (whole_body function o) P
fewer function d (Done v p) u P same ends =
    subst (λ x. Ends (whole_body function x) P) (same (λ e. cc)) ends
fewer function d Out u P same ends = tt
fewer function d (Fail site) u P same ends =
    subst (λ x. Ends (whole_body function x) P) (same (λ e. cc)) ends
fewer function d Stuck u P same ends =
    subst (λ x. Ends (whole_body function x) P) (same (λ e. cc)) ends

module _ (more : MoreCallsChangeNoOutcome) (decls : List DeclForm) (function : Function)
    (state : MachineState) (P : Value → MachineState → Type 0) where
  -- what the body means, with n calls
  abbrev body_meaning : ℕ → Locals → Outcome StmSite
  body_meaning n locals =
      meaning decls (call_of decls n) function.body locals (progress_at n state)

  -- with arguments, as many as there are parameters or not
  given_bound :
      (k d : ℕ) (locals : Option Locals) →
      Ends (given locals (λ locals. whole_body function (body_meaning (k + d) locals))) P →
      Ends (given locals (λ locals. whole_body function (body_meaning k locals))) P
  given_bound k d None ends = ends
  given_bound k d (Some locals) ends =
      fewer function d (body_meaning k locals) (body_meaning (k + d) locals) P
      (more decls k d function.body locals (progress_at k state) (omega arith)) ends

  -- with these arguments
  pub fewer_calls :
      (k d : ℕ) (args : List Value) →
      Ends (body_with decls (k + d) function args state) P →
      Ends (body_with decls k function args state) P
  fewer_calls k d args = given_bound k d (bound function.params args)

-- a budget of calls only cuts runs short
pub fewer_calls_meet : MoreCallsChangeNoOutcome → FewerCallsMeet
fewer_calls_meet more spec contract n k less met args values params names
    is_args is_values is_params is_names state owned rest is_state join holds =
    fewer_calls more spec.decls contract.function state post k (n - k) args
    (subst (λ m. Ends (body_with spec.decls m contract.function args state) post) (sym sum)
    (met args values params names is_args is_values is_params is_names state owned rest is_state
    join holds))
  where
    post : Value → MachineState → Type 0
    post = LeavesPost spec contract (names ++ params) rest

    sum : k + (n - k) ≡ n
    sum = omega (arith, less)
