-- Laws of what runs of a secure specification do, by their events.
use Rattle.std.specs.Prelude.{◌≡◌, ◌≢◌, ◌++◌, ℕ, List}
use Rattle.kat_ast.specs.Spec.{Spec}
use Rattle.kat_syntax.specs.FirstTypeFault.{IsTyped}
use Rattle.kat_syntax.specs.Machine.{MachineState}
use Rattle.kat_syntax.specs.Run.{Ended, Event, IsEventList, run_of}
use Rattle.kat_syntax.specs.Secure.{IsSecureRun}

-- more events behind a run that ended in a cycle change nothing; events cut off at a cycle, or in a
-- typed specification anywhere, take nothing from what a run does
pub record RunsGoByEvents : Type 0 where
  pub ended :
      (spec : Spec) (n : ℕ) (start : MachineState) (events more : List Event) →
      (run_of spec n start events).end ≢ Ended →
      run_of spec n start (events ++ more) ≡ run_of spec n start events
  pub cut :
      (spec : Spec) (n : ℕ) (start : MachineState) (events more : List Event) →
      IsEventList more →
      IsSecureRun spec.decls (run_of spec n start (events ++ more)) →
      IsSecureRun spec.decls (run_of spec n start events)
  pub cut_anywhere :
      (spec : Spec) (n : ℕ) (start : MachineState) (events more : List Event) →
      IsTyped spec →
      IsSecureRun spec.decls (run_of spec n start (events ++ more)) →
      IsSecureRun spec.decls (run_of spec n start events)
