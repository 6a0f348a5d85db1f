use Rattle.std.proofs.Common.{subst}
use Rattle.kat_top.specs.Inputs.{AModed, TheModed}
use Rattle.kat_top.specs.Loading.{ComesOf, as_thing}
use Rattle.kat_top.proofs.Loaded.{loaded, not_loaded}
use Rattle.kat_top.proofs.inputs.load_judged.Goals as goal

pub returns-in-Ok : goal.returns-in-Ok
returns-in-Ok g c = λ earlier.
    loaded earlier AModed c.args.name.now c.in-Ok.bytes.items (as_thing TheModed c.judged_of_text.result) _ _ c.in-Ok.ensures
    (subst (λ b. ComesOf earlier AModed b (as_thing TheModed c.judged_of_text.result)) c.as_slice.ensures.value (c.judged_of_text.ensures.comes earlier))

pub returns-in-Err : goal.returns-in-Err
returns-in-Err g c = λ earlier. not_loaded earlier AModed c.args.name.now c.in-Err.error _ _ c.in-Err.ensures
