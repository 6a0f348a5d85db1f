-- Writes that are refused change nothing.
use Rattle.std.proofs.Common.{◌≡◌, ◌∙◌, ℕ, ◌+◌, Bool, true, false, List, [], ◌∷◌, Option, Some, None, refl, ap, sym, if◌then◌else◌}
use Rattle.std.specs.Prelude.{filter, unwrap_or}
use Rattle.std.specs.Option.{option_map}
use Rattle.kat_ast.specs.Spec.{Spec}
use Rattle.kat_syntax.specs.declared.places.Poke.{Poke}
use Rattle.kat_syntax.specs.Machine.{MachineState}
use Rattle.kat_syntax.specs.Cycle.{CycleOutcome, Completed, OutOfCalls, FailedAt, cycle_of}
use Rattle.kat_syntax.specs.OutsideWrites.{Target, target_of, takes_bits, with_target, Wrote, NoFit, poked_at}
use Rattle.kat_syntax.specs.Run.{Event, Cycle, OutsideWrite, Run, is_declared_event, with_boundary, after_cycle, state_behind, run_from}
use Rattle.kat_syntax.specs.MeaningLaws.{RefusedWritesChangeNothing}

-- what comes behind a cycle is the same where it is the same from each state
behind_cycle : (k : ℕ) (o : CycleOutcome) (go more : MachineState → Run) →
    ((next : MachineState) → go next ≡ more next) → after_cycle k o go ≡ after_cycle k o more
behind_cycle k (Completed progress) go more same = same progress.state
behind_cycle k OutOfCalls go more same = refl
behind_cycle k (FailedAt place) go more same = refl

module _ (spec : Spec) (n : ℕ) where
  abbrev declared : List Event → List Event
  declared events = filter (is_declared_event spec) events

  abbrev IsSame : List Event → Type 0
  IsSame events = (k : ℕ) (state : MachineState) →
      run_from spec n k state events ≡ run_from spec n k state (declared events)

  -- a write to a target that takes the number, and another
  write_same : (poke : Poke) (events : List Event) → IsSame events →
      (k : ℕ) (state : MachineState) (t : Option Target) (b : Bool) →
      target_of spec.decls poke ≡ t → unwrap_or (option_map (takes_bits poke.bits) t) false ≡ b →
      run_from spec n k (state_behind state (poked_at t poke.bits state)) events
      ≡ run_from spec n k state (if b then OutsideWrite poke ∷ declared events else declared events)
  write_same poke events same k state None true is e = cc
  write_same poke events same k state None false is e = same k state
  write_same poke events same k state (Some target) true is e =
      same k (state_behind state
      (if takes_bits poke.bits target then Wrote (with_target target poke.bits state) else NoFit))
      ∙ ap (λ (t : Option Target).
      run_from spec n k (state_behind state (poked_at t poke.bits state)) (declared events))
      (sym is)
  write_same poke events same k state (Some target) false is e =
      ap (λ b. run_from spec n k
      (state_behind state (if b then Wrote (with_target target poke.bits state) else NoFit)) events)
      e
      ∙ same k state

  same_run : (events : List Event) → IsSame events
  same_run [] k state = refl
  same_run (Cycle ∷ events) k state =
      ap (with_boundary state)
      (behind_cycle (k + 1) (cycle_of spec n state) _ _ (λ next. same_run events (k + 1) next))
  same_run (OutsideWrite poke ∷ events) k state =
      write_same poke events (same_run events) k state (target_of spec.decls poke)
      (is_declared_event spec (OutsideWrite poke)) refl refl

pub refused_writes_change_nothing : RefusedWritesChangeNothing
refused_writes_change_nothing spec n start events = same_run spec n events 0 start
