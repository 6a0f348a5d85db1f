use Rattle.std.proofs.Common.{◌≡◌, ℕ, false, drop, length}
use Rattle.kat_syntax.specs.States.{cell_at}
use Rattle.kat_runner.specs.Runner.{is_stored}
use Rattle.kat_runner.proofs.shown.update_cells.Given as goal

-- the cells that are not still to come are the next ones; the registers are as before
abbrev pub invariant-loop-at : goal.invariant-loop-at
invariant-loop-at l = record {
  registers : l.shown.registers ≡ l.initial.shown.registers;
  first : l.shown.lo ≡ l.initial.shown.lo;
  count : length l.shown.cells ≡ length l.next.cells;
  passed : (index : ℕ) → is_stored (drop l.at l.stored) index ≡ false →
      cell_at l.next index ≡ cell_at l.shown index;
}
