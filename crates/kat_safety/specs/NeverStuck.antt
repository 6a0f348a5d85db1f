-- A typed machine is never stuck: what typing knows of a form is what the meaning gives.
use Rattle.std.specs.Prelude.{◌≡◌, ◌≢◌, ℕ, true, List, [], ◌∷◌, Option, Some}
use Rattle.std.specs.List.{AllByRecursion, AllZip}
use Rattle.kat_value.specs.declared.types.Ty.{Ty}
use Rattle.kat_value.specs.declared.value.Value.{Value}
use Rattle.kat_ast.specs.declared.place.Place.{Place}
use Rattle.kat_ast.specs.declared.decl.DeclForm.{DeclForm}
use Rattle.kat_ast.specs.declared.expr.Expr.{Expr}
use Rattle.kat_ast.specs.declared.stm.Stm.{Stm}
use Rattle.kat_ast.specs.Expressions.{is_formed_expr}
use Rattle.kat_ast.specs.Statements.{is_formed_stm}
use Rattle.kat_ast.specs.Spec.{Spec}
use Rattle.kat_syntax.specs.Around.{Around, FunctionSeen, a_function, meant}
use Rattle.kat_syntax.specs.Cycle.{Completed, call_of, cycle_of, step_call}
use Rattle.kat_syntax.specs.Declares.{types_of}
use Rattle.kat_syntax.specs.Evaluation.{Locals, Reads, value_of_expr}
use Rattle.kat_syntax.specs.Machine.{MachineState, Progress}
use Rattle.kat_syntax.specs.Meaning.{meaning}
use Rattle.kat_syntax.specs.Outcomes.{Outcome, Done, Out, Fail, Stuck}
use Rattle.kat_syntax.specs.OutsideWrites.{poked}
use Rattle.kat_syntax.specs.Run.{Event, Cycle, OutsideWrite, FailedIn, run_of, state_behind}
use Rattle.kat_syntax.specs.States.{IsState}
use Rattle.kat_syntax.specs.Tables.{Name}
use Rattle.kat_syntax.specs.TypesWritten.{Scope}
use Rattle.kat_syntax.specs.TypeTable.{types_of_decls}
use Rattle.kat_syntax.specs.TypingExpressions.{Standing, known_of_expr}
use Rattle.kat_syntax.specs.TypingStatements.{known_of_stm}
use Rattle.kat_laws.specs.Runs.{IsMachine}
use Rattle.kat_safety.specs.Failing.{FailsInBody}
use Rattle.kat_safety.specs.Typed.{IsOfKnown, HasKnownValue, AreOfScope, AreReadsOf}

-- the declaration of this number among those of a specification
abbrev pub around_of : Spec → ℕ → Around
around_of spec k = record { decls = spec.decls; number = k }

-- an expression without faults has, wherever it stands, a value of its type, among locals of its
-- scope and where it reads what typing takes there
abbrev pub ExpressionsHaveValues : Type 0
ExpressionsHaveValues =
    (spec : Spec) (k at : ℕ) (standing : Standing) (reads : Reads) →
    (scope : Scope) (locals : Locals) (e : Expr) →
    IsMachine spec → is_formed_expr e ≡ true →
    (known_of_expr (around_of spec k) standing scope e).faults at ≡ [] →
    AreReadsOf spec.decls standing reads → AreOfScope (types_of_decls spec.decls) scope locals →
    HasKnownValue (types_of_decls spec.decls)
    (known_of_expr (around_of spec k) standing scope e).type
    (value_of_expr (record { decls = spec.decls; reads = reads; locals = locals }) e)

-- an outcome is not stuck, and where it is done its value is of what is known of its type and its
-- state is one of the machine
abbrev pub KeepsTypes : {S : Type 0} → List DeclForm → Option Ty → Outcome S → Type 0
KeepsTypes decls known (Done value progress) =
    IsOfKnown (types_of_decls decls) known value × IsState decls progress.state
KeepsTypes decls known Out = Unit {0}
KeepsTypes decls known (Fail site) = Unit {0}
KeepsTypes decls known Stuck = ⊥

-- a statement without faults is not stuck and keeps types, from locals of its scope and a state of
-- the machine on, whatever calls are left and however deep they may stand in one another
abbrev pub StatementsAreNotStuck : Type 0
StatementsAreNotStuck =
    (spec : Spec) (k at depth : ℕ) (scope : Scope) (locals : Locals) (stm : Stm) (p : Progress) →
    IsMachine spec → is_formed_stm stm ≡ true →
    (known_of_stm (around_of spec k) stm scope).faults at ≡ [] →
    AreOfScope (types_of_decls spec.decls) scope locals → IsState spec.decls p.state →
    KeepsTypes spec.decls
    (known_of_stm (around_of spec k) stm scope).type
    (meaning spec.decls (call_of spec.decls depth) stm locals p)

-- so is a call of a function of the specification with arguments of its parameters' types, and its
-- result is of the type that is declared
abbrev pub CallsAreNotStuck : Type 0
CallsAreNotStuck =
    (spec : Spec) (k depth : ℕ) (f : Name) (seen : FunctionSeen) →
    (args : List Value) (p : Progress) →
    IsMachine spec → meant a_function (around_of spec k) f ≡ Some seen →
    AllZip (IsOfKnown (types_of_decls spec.decls)) (types_of seen.params) args →
    IsState spec.decls p.state →
    KeepsTypes spec.decls seen.result (call_of spec.decls depth f args p)

-- a cycle is not stuck, from a state of the machine on and with any number of calls, and leaves a
-- state of the machine
pub record CyclesAreNotStuck : Type 0 where
  pub never :
      (spec : Spec) (n : ℕ) (state : MachineState) → IsMachine spec → IsState spec.decls state →
      step_call spec n state ≢ Stuck
  pub leaves :
      (spec : Spec) (n : ℕ) (state : MachineState) (p : Progress) →
      IsMachine spec → IsState spec.decls state →
      cycle_of spec n state ≡ Completed p → IsState spec.decls p.state

-- no cycle is stuck over these events, from a state on and with n calls in each cycle
abbrev pub NeverStuckFrom : Spec → ℕ → MachineState → List Event → Type 0
NeverStuckFrom spec n state [] = Unit {0}
NeverStuckFrom spec n state (Cycle ∷ events) =
    (step_call spec n state ≢ Stuck)
    × ((p : Progress) → cycle_of spec n state ≡ Completed p →
    NeverStuckFrom spec n p.state events)
NeverStuckFrom spec n state (OutsideWrite poke ∷ events) =
    NeverStuckFrom spec n (state_behind state (poked spec poke state)) events

-- no run is stuck, from a state of the machine on, over any cycles and outside writes; all states
-- at its boundaries are of the machine
abbrev pub RunsAreNotStuck : Type 0
RunsAreNotStuck =
    (spec : Spec) (n : ℕ) (start : MachineState) (events : List Event) →
    IsMachine spec → IsState spec.decls start →
    NeverStuckFrom spec n start events
    × AllByRecursion (IsState spec.decls) (run_of spec n start events).boundaries

-- so a run fails only in a body, at a `fail`, a `check`, a `load` or a `store`, and its place is
-- the tree of that statement
abbrev pub RunsFailInBodies : Type 0
RunsFailInBodies =
    (spec : Spec) (n cycle : ℕ) (start : MachineState) (events : List Event) (place : Place) →
    IsMachine spec → IsState spec.decls start →
    (run_of spec n start events).end ≡ FailedIn cycle place → FailsInBody spec.decls place
