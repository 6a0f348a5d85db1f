-- Calls of functions, and one cycle of a machine: a call of its step function.
use Rattle.std.specs.Prelude.{ℕ, zero, suc, List, [], ◌∷◌, length, Option, None, Some, unwrap_or}
use Rattle.std.specs.Option.{option_map}
use Rattle.kat_value.specs.declared.value.Value.{Value}
use Rattle.kat_ast.specs.declared.place.Place.{Place}
use Rattle.kat_ast.specs.declared.type_name.Param.{Param}
use Rattle.kat_ast.specs.declared.decl.DeclForm.{DeclForm}
use Rattle.kat_ast.specs.declared.stm.Stm.{Stm}
use Rattle.kat_ast.specs.Spec.{Spec}
use Rattle.kat_syntax.specs.Tables.{Function, function_from, step_of, step_function_of}
use Rattle.kat_syntax.specs.Machine.{MachineState, Progress}
use Rattle.kat_syntax.specs.Evaluation.{Locals}
use Rattle.kat_syntax.specs.Outcomes.{Outcome, Done, Out, Fail, Stuck, StmSite, given, at_site, inside, place_in}
use Rattle.kat_syntax.specs.Meaning.{Calls, meaning}

-- each parameter with its argument, where there are as many. An argument of another type than its
-- parameter is bound all the same: what is of the wrong type is stuck where it is used, if at all
abbrev pub bound : List Param → List Value → Option Locals
bound [] [] = Some []
bound [] (value ∷ values) = None
bound (param ∷ params) [] = None
bound (param ∷ params) (value ∷ values) =
    option_map (λ locals. (param.name, value) ∷ locals) (bound params values)

-- what the body of a function does with these arguments; its failures stand in its declaration
abbrev pub body_of : List DeclForm → Calls → List Value → Progress → Function → Outcome Place
body_of decls calls args progress function =
    given (bound function.params args)
    (λ locals. at_site (place_in function.decl)
    (inside function.body_at (meaning decls calls function.body locals progress)))

-- one call is spent; with none left the outcome is Out
abbrev pub spend_one : ℕ → Progress → (Progress → Outcome Place) → Outcome Place
spend_one zero progress go = Out
spend_one (suc left) progress go = go (record progress { left = left })

-- what a call does, where calls may stand this deep in one another. As deep as calls are left is
-- deep enough
abbrev pub call_of : List DeclForm → ℕ → Calls
call_of decls zero f args progress = Out
call_of decls (suc depth) f args progress =
    spend_one progress.left progress
    (λ next. given (function_from 0 decls f) (body_of decls (call_of decls depth) args next))

-- what there is before anything is done, with n calls allowed
abbrev pub progress_at : ℕ → MachineState → Progress
progress_at n state = record { state = state; left = n; stores = [] }

-- what a statement does among these locals in a state, with n calls allowed
abbrev pub eval_of : Spec → ℕ → Stm → Locals → MachineState → Outcome StmSite
eval_of spec n stm locals state =
    meaning spec.decls (call_of spec.decls n) stm locals (progress_at n state)

-- how a cycle ends
pub data CycleOutcome : Type 0 where
  Completed : (progress : Progress) → CycleOutcome
  OutOfCalls : CycleOutcome
  FailedAt : (place : Place) → CycleOutcome

-- where a cycle fails that is stuck: at the declaration of the step function
abbrev pub stuck_place : List DeclForm → Place
stuck_place decls = record {
  decl = unwrap_or (option_map (λ (function : Function). function.decl) (step_function_of decls))
      (length decls);
  tree = 0;
}

-- the outcome of a call as that of a cycle: one that is stuck is a failure at this place
abbrev pub as_cycle : Place → Outcome Place → CycleOutcome
as_cycle stuck (Done value progress) = Completed progress
as_cycle stuck Out = OutOfCalls
as_cycle stuck (Fail place) = FailedAt place
as_cycle stuck Stuck = FailedAt stuck

-- what the call of the step function does, with n calls allowed
abbrev pub step_call : Spec → ℕ → MachineState → Outcome Place
step_call spec n state =
    given (step_of spec.decls) (λ f. call_of spec.decls n f [] (progress_at n state))

-- one cycle with n calls allowed
abbrev pub cycle_of : Spec → ℕ → MachineState → CycleOutcome
cycle_of spec n state = as_cycle (stuck_place spec.decls) (step_call spec n state)
