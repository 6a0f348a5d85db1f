-- The states of a machine, and what a running cycle has.
use Rattle.std.specs.Prelude.{ℕ, List}
use Rattle.kat_value.specs.declared.value.Value.{Value}

-- a value for each register, in order of declaration, and a number for each cell of the memory; the
-- first cell has the index lo
pub record MachineState : Type 0 where
  pub registers : List Value
  pub lo : ℕ
  pub cells : List ℕ

-- what a running cycle has: the state, the calls that are left, and the indices that were stored,
-- in order
pub record Progress : Type 0 where
  pub state : MachineState
  pub left : ℕ
  pub stores : List ℕ
