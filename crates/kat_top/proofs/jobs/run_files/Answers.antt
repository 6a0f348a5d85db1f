use Rattle.std.proofs.Common.{[], refl}
use Rattle.kat_top.proofs.Steps.{named, goes_on, stops, done}
use Rattle.kat_top.proofs.jobs.run_files.Goals as goal

pub returns-in-Ok-load_image : goal.returns-in-Ok-load_image
returns-in-Ok-load_image g c =
    goes_on (named c.as_str.ensures (c.in-Ok.ensures []))
    (goes_on (named c.as_str-in-Ok.ensures (c.in-Ok-load_image.ensures _ refl)) (done _ (_, _, refl, refl) c.run_from.ensures))

pub returns-in-Ok : goal.returns-in-Ok
returns-in-Ok g c =
    goes_on (named c.as_str.ensures (c.in-Ok.ensures []))
    (stops (named c.as_str-in-Ok.ensures (c.in-Err-load_image.ensures _ refl)) c.refuse.ensures)

pub returns : goal.returns
returns g c = stops (named c.as_str.ensures (c.in-Err.ensures [])) c.refuse-in-Err.ensures
