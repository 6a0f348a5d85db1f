-- A run: cycles, with outside writes between them.
use Rattle.std.specs.Prelude.{ℕ, Bool, true, ◌+◌, List, [], ◌∷◌}
use Rattle.kat_ast.specs.declared.place.Place.{Place}
use Rattle.kat_ast.specs.Spec.{Spec}
use Rattle.kat_syntax.specs.Machine.{MachineState}
use Rattle.kat_syntax.specs.Cycle.{CycleOutcome, Completed, OutOfCalls, FailedAt, cycle_of}
use Rattle.kat_syntax.specs.declared.places.Poke.{Poke}
use Rattle.kat_syntax.specs.OutsideWrites.{Poked, Wrote, NoPlace, NoFit, is_declared_write, poked}

-- what happens at once
pub data Event : Type 0 where
  Cycle : Event
  OutsideWrite : (poke : Poke) → Event

-- an event list is empty or begins with a cycle
abbrev pub IsEventList : List Event → Type 0
IsEventList [] = Unit {0}
IsEventList (Cycle ∷ events) = Unit {0}
IsEventList (OutsideWrite poke ∷ events) = ⊥

-- whether an event is a cycle, or a write of a number that fits to a declared outside place
abbrev pub is_declared_event : Spec → Event → Bool
is_declared_event spec Cycle = true
is_declared_event spec (OutsideWrite poke) = is_declared_write spec poke

-- how a run ends: after the last event, or in the cycle of this number, counted from 1
pub data RunEnd : Type 0 where
  Ended : RunEnd
  OutIn : (cycle : ℕ) → RunEnd
  FailedIn : (cycle : ℕ) (place : Place) → RunEnd

-- the states at the boundaries, boundary 0 being the start and boundary k what cycle k and the
-- outside writes before the next cycle leave; and the end. A cycle that does not complete adds no
-- boundary
pub record Run : Type 0 where
  pub boundaries : List MachineState
  pub end : RunEnd

-- a run with one boundary in front
abbrev pub with_boundary : MachineState → Run → Run
with_boundary state run = record run { boundaries = state ∷ run.boundaries }

-- goes on from where cycle k is completed
abbrev pub after_cycle : ℕ → CycleOutcome → (MachineState → Run) → Run
after_cycle k (Completed progress) go = go progress.state
after_cycle k OutOfCalls go = record { boundaries = []; end = OutIn k }
after_cycle k (FailedAt place) go = record { boundaries = []; end = FailedIn k place }

-- the state behind an outside write, which changes nothing where it is refused
abbrev pub state_behind : MachineState → Poked → MachineState
state_behind before (Wrote state) = state
state_behind before NoPlace = before
state_behind before NoFit = before

-- from a state on, k cycles having been made, and each cycle having n calls
abbrev pub run_from : Spec → ℕ → ℕ → MachineState → List Event → Run
run_from spec n k state [] = record { boundaries = state ∷ []; end = Ended }
run_from spec n k state (Cycle ∷ events) =
    with_boundary state
    (after_cycle (k + 1) (cycle_of spec n state) (λ next. run_from spec n (k + 1) next events))
run_from spec n k state (OutsideWrite poke ∷ events) =
    run_from spec n k (state_behind state (poked spec poke state)) events

-- a run from a start over a list of events
abbrev pub run_of : Spec → ℕ → MachineState → List Event → Run
run_of spec n start events = run_from spec n 0 start events
