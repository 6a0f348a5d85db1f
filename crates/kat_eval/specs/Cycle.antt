-- What an answer of `cycle` says.
use Rattle.std.specs.Prelude.{◌≡◌}
use Rattle.kat_syntax.specs.Cycle.{CycleOutcome, Completed, OutOfCalls, FailedAt}
use Rattle.kat_eval.specs.declared.one_cycle.CycleEnd.{CycleEnd}
use Rattle.kat_eval.specs.declared.one_cycle.CycleEnd.TheVariants.{Done, Out, Fail, Memory}

-- the end is the outcome; want of memory says nothing
abbrev pub EndsAs : CycleEnd → CycleOutcome → Type 0
EndsAs (Done state left stores) outcome =
    outcome ≡ Completed (record { state = state; left = left; stores = stores })
EndsAs Out outcome = outcome ≡ OutOfCalls
EndsAs (Fail site) outcome = outcome ≡ FailedAt site
EndsAs Memory outcome = Unit {0}
