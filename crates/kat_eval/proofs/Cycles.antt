-- A cycle is what the call of the step function does.
use Rattle.std.proofs.Common.{◌≡◌, ◌∙◌, ℕ, true, List, [], Option, Some, None, option_and_then, is_some, refl, ap, sym, subst, arith}
use Rattle.std.specs.Prelude.{length, unwrap_or}
use Rattle.std.specs.Option.{option_map}
use Rattle.kat_value.specs.declared.value.Value.{Value}
use Rattle.kat_ast.specs.Spec.{Spec}
use Rattle.kat_ast.specs.declared.place.Place.{Place}
use Rattle.kat_syntax.specs.Tables.{Name, Function, function_from, step_of, step_function_of}
use Rattle.kat_syntax.specs.Machine.{MachineState}
use Rattle.kat_syntax.specs.Outcomes.{Outcome, given}
use Rattle.kat_syntax.specs.Functions.{IsFunctionSeen}
use Rattle.kat_syntax.specs.declared.checked.FunctionSeen.{FunctionSeen}
use Rattle.kat_syntax.specs.Cycle.{CycleOutcome, as_cycle, call_of, cycle_of, progress_at, step_call, stuck_place}
use Rattle.kat_eval.specs.declared.running.Running.{Running}
use Rattle.kat_eval.specs.declared.running.CallEnd.{CallEnd}
use Rattle.kat_eval.specs.Running.{progress_of, as_call_outcome, HasCalled}
use Rattle.kat_eval.proofs.Calls.{call_is}

-- no step function was seen where there is one
pub unseen_step : (found : Option Function) → is_some found ≡ true → IsFunctionSeen None found → ⊥
unseen_step None some is = absurd (cc some)
unseen_step (Some function) some is = is

module _ (spec : Spec) (n : ℕ) (state : MachineState) (old new : Running) (end : CallEnd)
    (values : List Value) (no_values : values ≡ [])
    (left : old.left ≡ n) (starts : progress_of old ≡ progress_at n state) where
  abbrev stuck_in : Option Function → Place
  stuck_in found = record {
    decl = unwrap_or (option_map (λ (function : Function). function.decl) found) (length spec.decls);
    tree = 0;
  }

  -- the call of the step function, by its name
  by_name : (name : Option Name) (function : Function) →
      option_and_then (function_from 0 spec.decls) name ≡ Some function →
      HasCalled spec (Some function) values old new end →
      given name (λ f. call_of spec.decls n f [] (progress_at n state))
      ≡ as_call_outcome end (progress_of new)
  by_name None function found called = absurd (let e : None ≡ Some function = found in cc)
  by_name (Some f) function found called =
      ap (call_of spec.decls n f []) (sym starts)
      ∙ call_is spec old [] f [] [] new end
      (subst (λ vs. HasCalled spec (option_and_then (function_from 0 spec.decls) (Some f)) vs old new end) no_values
      (subst (λ o. HasCalled spec o values old new end) (sym found) called)) n (omega (arith, left))

  by_found : (found : Option Function) (seen : FunctionSeen) → step_function_of spec.decls ≡ found →
      IsFunctionSeen (Some seen) found → HasCalled spec found values old new end →
      cycle_of spec n state
      ≡ as_cycle (record { decl = seen.decl; tree = 0 }) (as_call_outcome end (progress_of new))
  by_found None seen found is called = absurd is
  by_found (Some function) seen found is called =
      ap (λ (o : Option Function). as_cycle (stuck_in o) (step_call spec n state)) found
      ∙ ap (λ (k : ℕ). as_cycle (record { decl = k; tree = 0 }) (step_call spec n state)) is.decl
      ∙ ap (as_cycle (record { decl = seen.decl; tree = 0 }))
      (by_name (step_of spec.decls) function found called)

  -- the cycle is what the call of the step function that was seen does
  pub cycle_is : (seen : FunctionSeen) → IsFunctionSeen (Some seen) (step_function_of spec.decls) →
      HasCalled spec (step_function_of spec.decls) values old new end →
      cycle_of spec n state
      ≡ as_cycle (record { decl = seen.decl; tree = 0 }) (as_call_outcome end (progress_of new))
  cycle_is seen is called = by_found (step_function_of spec.decls) seen refl is called
