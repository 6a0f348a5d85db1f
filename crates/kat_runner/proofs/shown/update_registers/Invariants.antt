use Rattle.std.proofs.Common.{◌≡◌, take, length}
use Rattle.kat_runner.proofs.shown.update_registers.Given as goal

-- the registers passed are the next ones; the memory is as before
abbrev pub invariant-loop-at : goal.invariant-loop-at
invariant-loop-at l = record {
  count : length l.shown.registers ≡ length l.next.registers;
  front : take l.at l.shown.registers ≡ take l.at l.next.registers;
  first : l.shown.lo ≡ l.initial.shown.lo;
  cells : l.shown.cells ≡ l.initial.shown.cells;
}
