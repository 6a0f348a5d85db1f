-- A run from a state of the machine is one of the machine, and its text tells it.
use Rattle.std.proofs.Common.{◌≡◌, ℕ, ◌+◌, ◌<◌, ◌^◌, List, [], ◌∷◌, length, refl, arith}
use Rattle.std.proofs.lemmas.List.Elements.{All-nil, All-cons}
use Rattle.kat_ast.specs.Spec.{Spec}
use Rattle.kat_syntax.specs.Machine.{MachineState}
use Rattle.kat_syntax.specs.Cycle.{CycleOutcome, Completed, OutOfCalls, FailedAt, cycle_of}
use Rattle.kat_syntax.specs.MeaningLaws.{StatesStay, CyclesFailAtTrees}
use Rattle.kat_syntax.specs.OutsideWrites.{Poked, Wrote, NoPlace, NoFit, poked}
use Rattle.kat_syntax.specs.Run.{Event, Cycle, OutsideWrite, Run, after_cycle, state_behind, run_from}
use Rattle.kat_syntax.specs.States.{IsState}
use Rattle.kat_syntax.specs.declared.places.Poke.{Poke}
use Rattle.kat_laws.specs.TextLaw.{IsOfMachine, TextTellsRun, BeginningTellsRun}
use Rattle.kat_laws.specs.Runs.{IsMachine, MachinesHaveNames, RunsKeepStates, Setup, run_in, TextTellsItsRun, BeginningTellsItsRun}
use Rattle.kat_laws.proofs.Clean.{few_declarations}

module _ (stay : StatesStay) (fail : CyclesFailAtTrees) (spec : Spec) (machine : IsMachine spec)
  where
    -- what follows a cycle
    after_keeps : (n k : ℕ) (state : MachineState) (outcome : CycleOutcome) (go : MachineState →
        Run) →
        cycle_of spec n state ≡ outcome → IsState spec.decls state → k < 2 ^ 64 →
        ((next : MachineState) → IsState spec.decls next → IsOfMachine spec (go next)) →
        IsOfMachine spec (after_cycle k outcome go)
    after_keeps n k state (Completed progress) go ends is within more =
        more progress.state (stay.cycle spec n state progress is ends)
    after_keeps n k state OutOfCalls go ends is within more =
        record { states = All-nil (IsState spec.decls); end = within }
    after_keeps n k state (FailedAt place) go ends is within more =
        let at = fail spec n state place machine.written ends in
        let few = few_declarations spec machine.typed in
        record {
          states = All-nil (IsState spec.decls);
          end =
              (within, omega (arith, at.0, few), omega (arith, at.1));
        }

    -- an outside write
    behind_keeps : (poke : Poke) (state : MachineState) (written : Poked) → poked spec poke state ≡
        written →
        IsState spec.decls state → IsState spec.decls (state_behind state written)
    behind_keeps poke state (Wrote after) e is = stay.outside_write spec poke state after is e
    behind_keeps poke state NoPlace e is = is
    behind_keeps poke state NoFit e is = is

    runs_from : (n k : ℕ) (state : MachineState) (events : List Event) → IsState spec.decls state →
        k + length events < 2 ^ 64 →
        IsOfMachine spec (run_from spec n k state events)
    runs_from n k state [] is few = record {
      states = All-cons (IsState spec.decls) state [] is
          (All-nil (IsState spec.decls));
      end = tt;
    }
    runs_from n k state (Cycle ∷ events) is few =
        let rest = after_keeps n (k + 1) state (cycle_of spec n state)
        (λ next. run_from spec n (k + 1) next events) refl is (omega arith)
        (λ next h. runs_from n (k + 1) next events h (omega arith)) in
        record {
          states = All-cons (IsState spec.decls) state
              (after_cycle (k + 1) (cycle_of spec n state) (λ next. run_from spec n (k + 1) next
              events)).boundaries is rest.states;
          end = rest.end;
        }
    runs_from n k state (OutsideWrite poke ∷ events) is few =
        runs_from n k (state_behind state (poked spec poke state)) events
        (behind_keeps poke state (poked spec poke state) refl is) (omega arith)

pub runs_keep : StatesStay → CyclesFailAtTrees → RunsKeepStates
runs_keep stay fail spec n start events machine is few = runs_from stay fail spec machine n 0 start
    events is (omega arith)

-- a run that is set up is one of its machine
of_machine : RunsKeepStates → (spec : Spec) (setup : Setup spec) → IsMachine spec → IsOfMachine spec
    (run_in spec setup)
of_machine runs spec setup machine = runs spec setup.calls setup.start setup.events machine
    setup.is_state setup.few

pub text_tells_its_run : TextTellsRun → MachinesHaveNames → RunsKeepStates → TextTellsItsRun
text_tells_its_run tells named runs spec first second machine e =
    tells spec (run_in spec first) (run_in spec second) (named spec machine)
    (of_machine runs spec first machine) (of_machine runs spec second machine) e

pub beginning_tells_its_run : BeginningTellsRun → MachinesHaveNames → RunsKeepStates →
    BeginningTellsItsRun
beginning_tells_its_run tells named runs spec first second more other machine e =
    tells spec (run_in spec first) (run_in spec second) more other (named spec machine)
    (of_machine runs spec first machine) (of_machine runs spec second machine) e
