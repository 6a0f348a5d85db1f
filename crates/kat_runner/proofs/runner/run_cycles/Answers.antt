use Rattle.std.proofs.Common.{◌-◌, ◌+◌, arith}
use Rattle.std.proofs.lemmas.Result.{err_from_is_err_and}
use Rattle.kat_runner.proofs.Runs as runs
use Rattle.kat_runner.proofs.Changes.{cycle_changes}
use Rattle.kat_runner.proofs.runner.run_cycles.Goals as goal

pub returns-in_err-printer-clause-err : goal.returns-in_err-printer-clause-err
returns-in_err-printer-clause-err g c =
    let laws = c.writes_join.ensures in
    let error = err_from_is_err_and c.from_residual.result c.from_residual.ensures.1 in
    rw (error.1, error.2) (runs.start-part laws.join laws.more laws.at_once
    c.args.machine.now c.args.calls c.args.state c.args.cycles (g.K.Sink.seen c.args.sink.now)
    (g.K.Sink.seen c.start.new.sink) _ c.in_err-printer.ensures.err)

pub loop-done-init : goal.loop-done-init
loop-done-init g c =
    let laws = c.writes_join.ensures in
    record {
      shown = c.in_ok-printer.ensures.shown;
      owes = runs.owes_at-start laws.join laws.more laws.at_once
          c.args.machine.now c.args.calls c.args.state c.args.cycles (g.K.Sink.seen c.args.sink.now)
          (g.K.Sink.seen c.start.new.sink) (c.args.cycles - 0) (omega arith)
          c.in_ok-printer.ensures.ok;
    }

pub returns-in-Out-clause-ok : goal.returns-in-Out-clause-ok
returns-in-Out-clause-ok g c =
    let laws = c.writes_join.ensures in
    runs.owes_at-out laws.join laws.more laws.at_once
    c.args.machine.now c.args.calls c.args.state c.args.cycles (g.K.Sink.seen c.args.sink.now)
    (g.K.Sink.seen c.loop-done.sink) c.loop-done.done c.loop-done.state
    (c.args.cycles - c.loop-done.done) c.loop-done.invariant.owes
    (c.args.cycles - (c.loop-done.done + 1)) (omega arith)
    c.in-Out.ensures

pub returns-in-Fail-clause-ok : goal.returns-in-Fail-clause-ok
returns-in-Fail-clause-ok g c =
    let laws = c.writes_join.ensures in
    runs.owes_at-failed laws.join laws.more laws.at_once
    c.args.machine.now c.args.calls c.args.state c.args.cycles (g.K.Sink.seen c.args.sink.now)
    (g.K.Sink.seen c.loop-done.sink) c.loop-done.done c.loop-done.state
    (c.args.cycles - c.loop-done.done) c.loop-done.invariant.owes
    (c.args.cycles - (c.loop-done.done + 1)) (omega arith)
    c.in-Fail.site c.in-Fail.ensures

pub returns-in-Memory-clause-err : goal.returns-in-Memory-clause-err
returns-in-Memory-clause-err g c =
    let laws = c.writes_join.ensures in
    runs.owes_at-nothing laws.join laws.more laws.at_once
    c.args.machine.now c.args.calls c.args.state c.args.cycles (g.K.Sink.seen c.args.sink.now)
    (g.K.Sink.seen c.loop-done.sink) c.loop-done.done c.loop-done.state
    (c.args.cycles - c.loop-done.done) c.loop-done.invariant.owes

-- the cycle changed no cell but those that it stored
pub boundary-requires : goal.boundary-requires
boundary-requires g c =
    rw (c.loop-done.invariant.shown, c.as_slice.ensures)
    (cycle_changes c.what_changes.ensures.statements c.args.machine.now c.args.calls
    c.loop-done.state _ c.in-Done.ensures)

pub returns-in_err-boundary-in-Done-clause-err : goal.returns-in_err-boundary-in-Done-clause-err
returns-in_err-boundary-in-Done-clause-err g c =
    let laws = c.writes_join.ensures in
    let error = err_from_is_err_and c.from_residual-in_err-boundary-in-Done.result
    c.from_residual-in_err-boundary-in-Done.ensures.1 in
    rw (error.1, error.2) (runs.next-part laws.join laws.more laws.at_once
    c.args.machine.now c.args.calls c.args.state c.args.cycles (g.K.Sink.seen c.args.sink.now)
    (g.K.Sink.seen c.loop-done.sink) c.loop-done.done c.loop-done.state
    (c.args.cycles - c.loop-done.done) c.loop-done.invariant.owes
    (c.args.cycles - (c.loop-done.done + 1)) (omega arith)
    _ c.in-Done.ensures (g.K.Sink.seen c.boundary.new.sink)
    c.loop-done.printer.shown c.loop-done.invariant.shown _ c.in_err-boundary-in-Done.ensures.wrote)

pub loop-done-preserved : goal.loop-done-preserved
loop-done-preserved g c =
    let laws = c.writes_join.ensures in
    record {
      shown = c.in_ok-boundary-in-Done.ensures.shown;
      owes = runs.owes_at-next laws.join laws.more laws.at_once
          c.args.machine.now c.args.calls c.args.state c.args.cycles (g.K.Sink.seen c.args.sink.now)
          (g.K.Sink.seen c.loop-done.sink) c.loop-done.done c.loop-done.state
          (c.args.cycles - c.loop-done.done) c.loop-done.invariant.owes
          (c.args.cycles - (c.loop-done.done + 1)) (omega arith)
          _ c.in-Done.ensures (g.K.Sink.seen c.boundary.new.sink)
          c.loop-done.printer.shown c.loop-done.invariant.shown
          c.in_ok-boundary-in-Done.ensures.wrote;
    }

pub returns-in_err-ended-clause-err : goal.returns-in_err-ended-clause-err
returns-in_err-ended-clause-err g c =
    let laws = c.writes_join.ensures in
    let error = err_from_is_err_and c.from_residual-in_err-ended.result
    c.from_residual-in_err-ended.ensures.1 in
    rw (error.1, error.2) (runs.end-part laws.join laws.more laws.at_once
    c.args.machine.now c.args.calls c.args.state c.args.cycles (g.K.Sink.seen c.args.sink.now)
    (g.K.Sink.seen c.loop-done.sink) c.loop-done.done c.loop-done.state
    (c.args.cycles - c.loop-done.done) c.loop-done.invariant.owes
    (omega arith) (g.K.Sink.seen c.ended.new.sink) c.args.cycles (omega arith)
    _ c.in_err-ended.ensures)

pub returns-clause-ok : goal.returns-clause-ok
returns-clause-ok g c =
    let laws = c.writes_join.ensures in
    runs.owes_at-end laws.join laws.more laws.at_once
    c.args.machine.now c.args.calls c.args.state c.args.cycles (g.K.Sink.seen c.args.sink.now)
    (g.K.Sink.seen c.loop-done.sink) c.loop-done.done c.loop-done.state
    (c.args.cycles - c.loop-done.done) c.loop-done.invariant.owes
    (omega arith) (g.K.Sink.seen c.ended.new.sink) c.args.cycles (omega arith)
    c.in_ok-ended.ensures
