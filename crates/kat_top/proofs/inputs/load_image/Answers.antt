use Rattle.std.proofs.Common.{subst}
use Rattle.kat_top.specs.Inputs.{AnImage, TheState}
use Rattle.kat_top.specs.Loading.{ComesOf, as_thing}
use Rattle.kat_top.proofs.Loaded.{loaded, not_loaded}
use Rattle.kat_top.proofs.inputs.load_image.Goals as goal

pub returns-in-Ok : goal.returns-in-Ok
returns-in-Ok g c = λ earlier machine_is.
    loaded earlier AnImage c.args.name.now c.in-Ok.bytes.items (as_thing TheState c.start_of.result) _ _ c.in-Ok.ensures
    (subst (λ b. ComesOf earlier AnImage b (as_thing TheState c.start_of.result)) c.as_slice.ensures.value (c.start_of.ensures earlier machine_is))

pub returns-in-Err : goal.returns-in-Err
returns-in-Err g c = λ earlier machine_is. not_loaded earlier AnImage c.args.name.now c.in-Err.error _ _ c.in-Err.ensures
