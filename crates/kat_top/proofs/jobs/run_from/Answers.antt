use Rattle.std.proofs.Common.{replicate}
use Rattle.kat_syntax.specs.Run.{Cycle, run_of}
use Rattle.kat_top.proofs.Written.{run_gives_all, run_gives_out, run_gives_failed, run_gives_part, run_gives_no_more}
use Rattle.kat_top.proofs.jobs.run_from.Goals as goal

pub returns-in-Ended : goal.returns-in-Ended
returns-in-Ended g c =
    run_gives_all c.args.machine.now (run_of c.args.machine.now c.args.calls c.args.start (replicate c.args.cycles Cycle)) _ _ c.in-Ended.ensures.ends.0 c.in-Ended.ensures.ends.1

pub returns-in-Out : goal.returns-in-Out
returns-in-Out g c =
    run_gives_out c.args.machine.now (run_of c.args.machine.now c.args.calls c.args.start (replicate c.args.cycles Cycle)) c.in-Out.cycle c.say_fault.result _ _ _ c.in-Out.ensures.ends.0 c.in-Out.ensures.ends.1 c.say_fault.ensures

pub returns-in-Failed : goal.returns-in-Failed
returns-in-Failed g c =
    run_gives_failed c.args.machine.now (run_of c.args.machine.now c.args.calls c.args.start (replicate c.args.cycles Cycle)) c.in-Failed.cycle c.in-Failed.site c.say_fault-in-Failed.result _ _ _ c.in-Failed.ensures.ends.0 c.in-Failed.ensures.ends.1 c.say_fault-in-Failed.ensures

pub returns-in-WriteFault : goal.returns-in-WriteFault
returns-in-WriteFault g c =
    run_gives_part c.args.machine.now (run_of c.args.machine.now c.args.calls c.args.start (replicate c.args.cycles Cycle)) _ _ c.in-WriteFault.ensures.ends

pub returns-in-Memory : goal.returns-in-Memory
returns-in-Memory g c =
    run_gives_no_more c.args.machine.now (run_of c.args.machine.now c.args.calls c.args.start (replicate c.args.cycles Cycle)) _ _ c.in-Memory.ensures.ends
