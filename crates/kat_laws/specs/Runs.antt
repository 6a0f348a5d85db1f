-- What runs of a typed specification keep, and what their texts tell.
use Rattle.std.specs.Prelude.{◌≡◌, ◌<◌, ◌^◌, ◌++◌, ℕ, List, length}
use Rattle.std.specs.List.{AllByRecursion}
use Rattle.kat_ast.specs.Declarations.{IsDecl}
use Rattle.kat_ast.specs.Spec.{Spec}
use Rattle.kat_syntax.specs.FirstTypeFault.{IsTyped}
use Rattle.kat_syntax.specs.Machine.{MachineState}
use Rattle.kat_syntax.specs.Run.{Event, Run, run_of}
use Rattle.kat_syntax.specs.Start.{start_of}
use Rattle.kat_syntax.specs.States.{IsState}
use Rattle.kat_runner.specs.StateText.{state_text_of}
use Rattle.kat_laws.specs.TextLaw.{HasNames, IsOfMachine}

-- a typed specification of the language's text
pub record IsMachine (spec : Spec) : Type 0 where
  pub typed : IsTyped spec
  pub written : AllByRecursion IsDecl spec.decls

-- the state before an image is one of the machine
abbrev pub StartsAreStates : Type 0
StartsAreStates = (spec : Spec) → IsMachine spec → IsState spec.decls (start_of spec)

-- the names of registers, members and constructors are words and differ, and the indices of the
-- memory are below 2 ^ 64
abbrev pub MachinesHaveNames : Type 0
MachinesHaveNames = (spec : Spec) → IsMachine spec → HasNames spec

-- a run over few enough events is one of the machine, from a state of the machine on and with any
-- number of calls
abbrev pub RunsKeepStates : Type 0
RunsKeepStates =
    (spec : Spec) (n : ℕ) (start : MachineState) (events : List Event) →
    IsMachine spec → IsState spec.decls start → length events < 2 ^ 64 →
    IsOfMachine spec (run_of spec n start events)

-- what makes a run: how many calls each cycle has, a start that is a state of the machine, and few
-- enough events
pub record Setup (spec : Spec) : Type 0 where
  pub calls : ℕ
  pub start : MachineState
  pub events : List Event
  pub is_state : IsState spec.decls start
  pub few : length events < 2 ^ 64

-- the run that it makes
abbrev pub run_in : (spec : Spec) → Setup spec → Run
run_in spec setup = run_of spec setup.calls setup.start setup.events

-- two runs of a machine that print the same text are the same run
abbrev pub TextTellsItsRun : Type 0
TextTellsItsRun =
    (spec : Spec) (first second : Setup spec) → IsMachine spec →
    state_text_of spec (run_in spec first) ≡ state_text_of spec (run_in spec second) →
    run_in spec first ≡ run_in spec second

-- where the texts of two runs of a machine begin one text, they are the same run, and so is what
-- follows
abbrev pub BeginningTellsItsRun : Type 0
BeginningTellsItsRun =
    (spec : Spec) (first second : Setup spec) (more other : List ℕ) →
    IsMachine spec →
    state_text_of spec (run_in spec first) ++ more
    ≡ state_text_of spec (run_in spec second) ++ other →
    (run_in spec first ≡ run_in spec second) × (more ≡ other)
