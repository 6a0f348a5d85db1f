-- What the runner writes of a run, and what its answer says.
use Rattle.std.specs.Prelude.{◌≡◌, ◌==◌, ℕ, Bool, false, List, length, replicate}
use Rattle.std.specs.List.{list_any}
use Rattle.kat_io.specs.declared.writing.SinkError.TheVariants as sink_error
use Rattle.kat_io.specs.Seen.{SinkSeen, TookAll, GaveUp}
use Rattle.kat_ast.specs.Spec.{Spec}
use Rattle.kat_syntax.specs.Machine.{MachineState}
use Rattle.kat_syntax.specs.States.{cell_at}
use Rattle.kat_syntax.specs.Run.{Cycle, Run, RunEnd, Ended, OutIn, FailedIn, run_of}
use Rattle.kat_runner.specs.StateText.{boundary_text_of, state_text_of}
use Rattle.kat_runner.specs.declared.runner.RunEnd.{RunEnd as GivenEnd}
use Rattle.kat_runner.specs.declared.runner.RunEnd.TheVariants as given

-- the run of so many cycles, with no outside write between them
abbrev pub run_of_cycles : Spec → ℕ → MachineState → ℕ → Run
run_of_cycles spec calls start cycles = run_of spec calls start (replicate cycles Cycle)

-- the text that the runner owes: the boundaries, and the last piece where the run ended
abbrev pub text_for_end : Spec → Run → RunEnd → List ℕ
text_for_end spec run Ended = state_text_of spec run
text_for_end spec run (OutIn cycle) = boundary_text_of spec run
text_for_end spec run (FailedIn cycle place) = boundary_text_of spec run

-- the text that the runner owes of a run: all of it but the line of a fault
abbrev pub text_owed : Spec → Run → List ℕ
text_owed spec run = text_for_end spec run run.end

-- the answer is the run's end, and the sink took its text; or one write failed, or memory ran out,
-- and the sink took the first bytes of that text
abbrev pub EndsRun : GivenEnd → Spec → Run → SinkSeen → SinkSeen → Type 0
EndsRun given.Ended spec run old new =
    (run.end ≡ Ended) × TookAll (state_text_of spec run) old new
EndsRun (given.Out cycle) spec run old new =
    (run.end ≡ OutIn cycle) × TookAll (boundary_text_of spec run) old new
EndsRun (given.Failed cycle site) spec run old new =
    (run.end ≡ FailedIn cycle site) × TookAll (boundary_text_of spec run) old new
EndsRun given.WriteFault spec run old new = GaveUp sink_error.Failed (text_owed spec run) old new
EndsRun given.Memory spec run old new = GaveUp sink_error.Memory (text_owed spec run) old new

-- whether an index was stored
abbrev pub is_stored : List ℕ → ℕ → Bool
is_stored stores index = list_any (λ stored. index == stored) stores

-- from one state to the next the registers and cells are as many as before, and the cells are the
-- same but for those that were stored
pub record ChangesOnlyStored (stores : List ℕ) (before after : MachineState) : Type 0 where
  pub first : after.lo ≡ before.lo
  pub registers : length after.registers ≡ length before.registers
  pub cells : length after.cells ≡ length before.cells
  pub others :
      (index : ℕ) → is_stored stores index ≡ false → cell_at after index ≡ cell_at before index
