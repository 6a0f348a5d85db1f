use Rattle.std.proofs.Common.{[], refl, ap, ◌∙◌}
use Rattle.kat_top.specs.Jobs.{check_answer}
use Rattle.kat_top.proofs.Steps.{named, goes_on, stops, done}
use Rattle.kat_top.proofs.jobs.check_file.Goals as goal

pub returns-in-Ok : goal.returns-in-Ok
returns-in-Ok g c = goes_on (named c.as_str.ensures (c.in-Ok.ensures [])) (done _ (_, refl, refl) c.say_typed.ensures)

pub returns-in-Err : goal.returns-in-Err
returns-in-Err g c = stops (named c.as_str.ensures (c.in-Err.ensures [])) c.refuse.ensures
