use Rattle.std.proofs.Common.{◌≡◌, ◌-◌}
use Rattle.kat_runner.proofs.Runs.{OwesAt}
use Rattle.kat_runner.proofs.runner.run_cycles.Given as goal

-- boundary `done` is written, the printer shows its state, and what is behind it is owed
abbrev pub invariant-loop-done : goal.invariant-loop-done
invariant-loop-done g l = record {
  shown : l.printer.shown ≡ l.state;
  owes : OwesAt l.machine l.calls l.fn.state l.cycles (g.K.Sink.seen l.fn.sink) (g.K.Sink.seen
      l.sink) l.done l.state (l.cycles - l.done);
}
