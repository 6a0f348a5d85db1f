-- Statements, calls, cycles and runs of a machine are not stuck.
use Rattle.std.proofs.Common.{◌≡◌, ◌≢◌, ℕ, zero, suc, ◌+◌, is_some, true, List, [], ◌∷◌, length, Option, Some, None, refl, sym, subst, arith}
use Rattle.std.specs.Prelude.{◌==◌}
use Rattle.std.specs.List.{AllByRecursion, AllZip, list_any}
use Rattle.std.proofs.lemmas.Bool.{and_parts, eqb-true, false≢true}
use Rattle.kat_value.specs.declared.types.Ty.{Ty}
use Rattle.kat_value.specs.declared.types.TypeDecl.{TypeDecl}
use Rattle.kat_value.specs.declared.value.Value.{Value}
use Rattle.kat_value.specs.Shown.{ShownTypes}
use Rattle.kat_value.specs.TypeLaws.{UnitIsUnit, BoolIsTruths, BitsAreNumbers}
use Rattle.kat_ast.specs.declared.place.Place.{Place}
use Rattle.kat_ast.specs.declared.decl.DeclForm.{DeclForm}
use Rattle.kat_ast.specs.declared.decl.DeclForm.TheVariants as d
use Rattle.kat_ast.specs.Spec.{Spec}
use Rattle.kat_syntax.specs.declared.type_rule.TypeRule.TheVariants.{NameUnknown, NotOnce}
use Rattle.kat_syntax.specs.declared.places.Poke.{Poke}
use Rattle.kat_syntax.specs.Around.{Around, FunctionSeen, a_function, meant}
use Rattle.kat_syntax.specs.Cycle.{Completed, OutOfCalls, FailedAt, CycleOutcome, as_cycle, body_of, bound, call_of, cycle_of, progress_at, spend_one, step_call, stuck_place}
use Rattle.kat_syntax.specs.Evaluation.{Locals}
use Rattle.kat_syntax.specs.Meaning.{meaning}
use Rattle.kat_syntax.specs.Declares.{TypedName, declared_by, look_up, types_of}
use Rattle.kat_syntax.specs.Machine.{MachineState, Progress}
use Rattle.kat_syntax.specs.MeaningLaws.{StatementsByParts, StatesStay}
use Rattle.kat_syntax.specs.Outcomes.{Outcome, Done, Out, Fail, Stuck, at_site, given, inside, place_in}
use Rattle.kat_syntax.specs.OutsideWrites.{Poked, Wrote, NoPlace, NoFit, poked}
use Rattle.kat_syntax.specs.Run.{Event, Cycle, OutsideWrite, FailedIn, after_cycle, run_from, state_behind}
use Rattle.kat_syntax.specs.States.{IsState}
use Rattle.kat_syntax.specs.Tables.{Function, Name, function_from, step_of}
use Rattle.kat_syntax.specs.TypeRules.{unless}
use Rattle.kat_syntax.specs.TypeTable.{types_of_decls}
use Rattle.kat_syntax.specs.TypingDeclarations.{is_step, may_step}
use Rattle.kat_syntax.specs.FirstTypeFault.{missing_faults}
use Rattle.kat_syntax.specs.TypingExpressions.{unknown}
use Rattle.kat_laws.specs.Runs.{IsMachine}
use Rattle.kat_safety.specs.NeverStuck.{CallsAreNotStuck, CyclesAreNotStuck, ExpressionsHaveValues, NeverStuckFrom, RunsAreNotStuck, RunsFailInBodies, StatementsAreNotStuck}
use Rattle.kat_safety.specs.Failing.{FailsInBody}
use Rattle.kat_safety.specs.Typed.{IsOfKnown}
use Rattle.kat_safety.proofs.Clean.{AreClean, empty_first, empty_second, inner_clean, met}
use Rattle.kat_safety.proofs.TypedStatements.{Gives}
use Rattle.kat_safety.proofs.TypedCalls.{calls_give, keeps, statement_gives}
use Rattle.kat_safety.proofs.FailingBodies.{IsPlaced, calls_placed}
use Rattle.kat_safety.proofs.LayerTables.{tables_of}

-- nothing that has to stand once is missing
missing_clean : (all : List DeclForm) (k : ℕ) (decls : List DeclForm) → AreClean all k decls →
    missing_faults all ≡ []
missing_clean all k [] clean = clean.0
missing_clean all k (decl ∷ decls) clean = missing_clean all (k + 1) decls clean.1

-- the step function is known, and takes nothing
pub record HasStep (all : List DeclForm) (step : Option Name) : Type 0 where
  pub name : Name
  pub there : step ≡ Some name
  pub seen : FunctionSeen
  pub known : look_up a_function (declared_by all) name ≡ Some seen
  pub none : length seen.params ≡ 0

step_seen : (all : List DeclForm) (f : Name) (o : Option FunctionSeen) →
    look_up a_function (declared_by all) f ≡ o → is_some o ≡ true →
    may_step o ≡ true → HasStep all (Some f)
step_seen all f None known some may = absurd (false≢true some)
step_seen all f (Some seen) known some may = record {
  name = f;
  there = refl;
  seen = seen;
  known = known;
  none = eqb-true (length seen.params) 0 (and_parts (length seen.params == 0) _ may).0;
}

step_there : (all : List DeclForm) (k : ℕ) (decls : List DeclForm) → AreClean all k decls →
    list_any is_step decls ≡ true → HasStep all (step_of decls)
step_there all k [] clean some = absurd (false≢true some)
step_there all k (d.Step f ∷ decls) clean some =
    let around : Around = record { decls = all; number = k } in
    let seen = meant a_function around f in
    let inner = inner_clean all k (d.Step f) clean.0 in
    step_seen all f seen refl
    (met (is_some seen) 2 NameUnknown (empty_first (unknown 2 seen) _ inner))
    (met (may_step seen) 2 NotOnce (empty_first (unless (may_step seen) 2 NotOnce) _
    (empty_second (unknown 2 seen) _ inner)))
step_there all k (_ ∷ decls) clean some = step_there all (k + 1) decls clean.1 some

no_args : (types : List TypeDecl) (params : List TypedName) → length params ≡ 0 →
    AllZip (IsOfKnown types) (types_of params) []
no_args types [] none = tt
no_args types (param ∷ params) none = absurd (omega (arith, none))

not_stuck : {S : Type 0} (types : List TypeDecl) (known : Option Ty) (o : Outcome S) →
    Gives types known o → o ≢ Stuck
not_stuck {S = S} types known o is = λ e. subst (λ (x : Outcome S). Gives types known x) e is

module _ (shown : ShownTypes) (units : UnitIsUnit) (truths : BoolIsTruths) (bits : BitsAreNumbers)
    (exprs : ExpressionsHaveValues) (states : StatesStay) where
  pub statements_are : StatementsAreNotStuck
  statements_are spec k at depth scope locals stm p machine formed clean are is =
      let tables = tables_of shown bits spec machine in
      keeps spec.decls _ _
      (statement_gives shown units truths bits exprs states spec machine tables depth
      (calls_give shown units truths bits exprs states spec machine tables depth) k stm at scope
      locals p formed clean are is)
      (λ v q done. states.statement spec.decls depth stm locals p q v is done)

  -- a call is spent, and leaves a state of the machine as the body does
  done_before : {S U : Type 0} (move : S → U) (o : Outcome S) (v : Value) (q : Progress) →
      at_site move o ≡ Done v q → o ≡ Done v q
  done_before move (Done u p) v q e = cc
  done_before move Out v q e = cc
  done_before move (Fail site) v q e = cc
  done_before move Stuck v q e = cc

  call_stays : (decls : List DeclForm) (depth : ℕ) (f : Name) (args : List Value)
      (p : Progress) (v : Value) (q : Progress) → IsState decls p.state →
      call_of decls depth f args p ≡ Done v q → IsState decls q.state
  call_stays decls zero f args p v q is done = absurd (cc)
  call_stays decls (suc depth) f args p v q is done = spent p.left done where
    of_body : (next : Progress) (function : Function) (o : Option Locals) →
        IsState decls next.state →
        given o (λ locals. at_site (place_in function.decl) (inside function.body_at
        (meaning decls (call_of decls depth) function.body locals next))) ≡ Done v q →
        IsState decls q.state
    of_body next function None is e = absurd (cc)
    of_body next function (Some locals) is e =
        states.statement decls depth function.body locals next q v is
        (done_before _ (meaning decls (call_of decls depth) function.body locals next) v q
        (done_before (place_in function.decl) _ v q e))

    found : (next : Progress) (o : Option Function) → IsState decls next.state →
        given o (body_of decls (call_of decls depth) args next) ≡ Done v q → IsState decls q.state
    found next None is e = absurd (cc)
    found next (Some function) is e =
        of_body next function (bound function.params args) is e

    spent : (left : ℕ) → spend_one left p (λ next. given (function_from 0 decls f)
        (body_of decls (call_of decls depth) args next)) ≡ Done v q → IsState decls q.state
    spent zero e = absurd (cc)
    spent (suc left) e = found (record p { left = left }) (function_from 0 decls f) is e

  pub calls_are : CallsAreNotStuck
  calls_are spec k depth f seen args p machine there are is =
      let tables = tables_of shown bits spec machine in
      keeps spec.decls seen.result (call_of spec.decls depth f args p)
      (calls_give shown units truths bits exprs states spec machine tables depth f seen args p there
      are is)
      (λ v q done. call_stays spec.decls depth f args p v q is done)

  step_gives : (spec : Spec) (n : ℕ) (state : MachineState) → IsMachine spec →
      IsState spec.decls state → step_call spec n state ≢ Stuck
  step_gives spec n state machine is =
      let tables = tables_of shown bits spec machine in
      let missing = missing_clean spec.decls 0 spec.decls machine.typed in
      let step = step_there spec.decls 0 spec.decls machine.typed
      (met (list_any is_step spec.decls) 0 NotOnce (empty_first _ _ missing)) in
      let call = calls_give shown units truths bits exprs states spec machine tables n step.name
      step.seen [] (progress_at n state) step.known
      (no_args (types_of_decls spec.decls) step.seen.params step.none) is in
      subst (λ (o : Option Name).
      given o (λ f. call_of spec.decls n f [] (progress_at n state)) ≢ Stuck) (sym step.there)
      (not_stuck (types_of_decls spec.decls) step.seen.result
      (call_of spec.decls n step.name [] (progress_at n state)) call)

  pub cycles_are : CyclesAreNotStuck
  cycles_are = record {
    never = step_gives;
    leaves = λ spec n state p machine is e. states.cycle spec n state p is e;
  }

  -- a state behind an outside write is one of the machine
  behind_write : (spec : Spec) (poke : Poke) (state : MachineState) → IsState spec.decls state →
      IsState spec.decls (state_behind state (poked spec poke state))
  behind_write spec poke state is = by (poked spec poke state) refl where
    by : (o : Poked) → poked spec poke state ≡ o → IsState spec.decls (state_behind state o)
    by (Wrote after) e = states.outside_write spec poke state after is e
    by NoPlace e = is
    by NoFit e = is

  never_from : (spec : Spec) (n : ℕ) (state : MachineState) (events : List Event) →
      IsMachine spec → IsState spec.decls state → NeverStuckFrom spec n state events
  never_from spec n state [] machine is = tt
  never_from spec n state (Cycle ∷ events) machine is = (
    step_gives spec n state machine is,
    λ p e. never_from spec n p.state events machine (states.cycle spec n state p is e),
  )
  never_from spec n state (OutsideWrite poke ∷ events) machine is =
      never_from spec n (state_behind state (poked spec poke state)) events machine
      (behind_write spec poke state is)

  boundaries_from : (spec : Spec) (n c : ℕ) (state : MachineState) (events : List Event) →
      IsState spec.decls state →
      AllByRecursion (IsState spec.decls) (run_from spec n c state events).boundaries
  boundaries_from spec n c state [] is = (is, tt)
  boundaries_from spec n c state (Cycle ∷ events) is = (
    is,
    by (cycle_of spec n state) refl
        (λ p e. boundaries_from spec n (c + 1) p.state events (states.cycle spec n state p is e)),
  )
    where
      by : (o : CycleOutcome) → cycle_of spec n state ≡ o →
          ((p : Progress) → cycle_of spec n state ≡ Completed p →
          AllByRecursion (IsState spec.decls) (run_from spec n (c + 1) p.state events).boundaries) →
          AllByRecursion (IsState spec.decls)
          (after_cycle (c + 1) o (λ next. run_from spec n (c + 1) next events)).boundaries
      by (Completed p) e rest = rest p e
      by OutOfCalls e rest = tt
      by (FailedAt place) e rest = tt
  boundaries_from spec n c state (OutsideWrite poke ∷ events) is =
      boundaries_from spec n c (state_behind state (poked spec poke state)) events
      (behind_write spec poke state is)

  pub runs_are : RunsAreNotStuck
  runs_are spec n start events machine is =
      (never_from spec n start events machine is, boundaries_from spec n 0 start events is)

  module _ (counts : StatementsByParts) where
    -- a cycle fails in a body
    cycle_fails : (spec : Spec) (n : ℕ) (state : MachineState) (place : Place) → IsMachine spec →
        IsState spec.decls state → cycle_of spec n state ≡ FailedAt place →
        FailsInBody spec.decls place
    cycle_fails spec n state place machine is e =
        by (step_call spec n state) (step_gives spec n state machine is)
        (called (step_of spec.decls)) e where
          called : (o : Option Name) → IsPlaced spec.decls
              (given o (λ f. call_of spec.decls n f [] (progress_at n state)))
          called None = tt
          called (Some f) = calls_placed counts spec.decls n f [] (progress_at n state)

          by : (o : Outcome Place) → o ≢ Stuck → IsPlaced spec.decls o →
              as_cycle (stuck_place spec.decls) o ≡ FailedAt place → FailsInBody spec.decls place
          by (Done v p) never placed same = absurd (cc)
          by Out never placed same = absurd (cc)
          by (Fail other) never placed same =
              let here : other ≡ place = cc in subst (FailsInBody spec.decls) here placed
          by Stuck never placed same = absurd (never refl)

    fails_from : (spec : Spec) (n c cycle : ℕ) (state : MachineState) (events : List Event)
        (place : Place) → IsMachine spec → IsState spec.decls state →
        (run_from spec n c state events).end ≡ FailedIn cycle place → FailsInBody spec.decls place
    fails_from spec n c cycle state [] place machine is e = absurd (cc)
    fails_from spec n c cycle state (Cycle ∷ events) place machine is e =
        by (cycle_of spec n state) refl
        (λ p done same. fails_from spec n (c + 1) cycle p.state events place machine
        (states.cycle spec n state p is done) same) e
      where
        by : (o : CycleOutcome) → cycle_of spec n state ≡ o →
            ((p : Progress) → cycle_of spec n state ≡ Completed p →
            (run_from spec n (c + 1) p.state events).end ≡ FailedIn cycle place →
            FailsInBody spec.decls place) →
            (after_cycle (c + 1) o (λ next. run_from spec n (c + 1) next events)).end
            ≡ FailedIn cycle place → FailsInBody spec.decls place
        by (Completed p) done rest same = rest p done same
        by OutOfCalls done rest same = absurd (cc)
        by (FailedAt other) done rest same =
            let here : other ≡ place = cc in
            subst (FailsInBody spec.decls) here (cycle_fails spec n state other machine is done)
    fails_from spec n c cycle state (OutsideWrite poke ∷ events) place machine is e =
        fails_from spec n c cycle (state_behind state (poked spec poke state)) events place machine
        (behind_write spec poke state is) e

    pub runs_fail : RunsFailInBodies
    runs_fail spec n cycle start events place machine is e =
        fails_from spec n 0 cycle start events place machine is e
