-- Machines that are secure, and machines that are not.
use Rattle.kat_ast.specs.declared.assertion.Assertion.{Assertion}
use Rattle.kat_ast.specs.declared.stm.Stm.{Stm}
use Rattle.kat_syntax.specs.Machine.{MachineState}
use Rattle.kat_syntax.specs.Phases.{Boots}
use Rattle.kat_syntax.specs.Secure.{IsSecure}
use Rattle.kat_syntax.specs.States.{IsState}
use Rattle.kat_claims.specs.Counter.{counter, image}
use Rattle.kat_claims.specs.Machines.{exceeding, failing, lingering, resting, slipping, tampering, unbootable}

-- the counter machine has a state that boots, whatever its functions do: that of its image
abbrev pub CounterBoots : Type 0
CounterBoots =
    (trap user kernel step : Stm) (pre post : Assertion) →
    IsState (counter trap user kernel step pre post) image
    × Boots (counter trap user kernel step pre post) image

-- what is secure is so, and what breaks one clause of security is not
pub record MachinesAreJudged : Type 0 where
  -- a step that does nothing
  pub resting_is_secure : IsSecure resting
  -- a step that fails
  pub failing_is_not : IsSecure failing → ⊥
  -- an untrusted cycle that writes a protected register
  pub tampering_is_not : IsSecure tampering → ⊥
  -- an untrusted cycle that leads inside
  pub slipping_is_not : IsSecure slipping → ⊥
  -- a block that stays inside past its cycles
  pub lingering_is_not : IsSecure lingering → ⊥
  -- a block whose exit breaks its change
  pub exceeding_is_not : IsSecure exceeding → ⊥
  -- a machine of which no state boots, whose claim is empty
  pub nothing_boots : (state : MachineState) → Boots unbootable.decls state → ⊥
  pub unbootable_is_secure : IsSecure unbootable
  -- a machine that is no toy, whose claim is not empty
  pub counter_boots : CounterBoots
