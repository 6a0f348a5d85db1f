use Rattle.kat_machine_tests.proofs.machine.state_of.Goals as goal

pub returns-in-Ok : goal.returns-in-Ok
returns-in-Ok c = c.images_are_states.ensures _ _ _ c.requires c.in-Ok.ensures.found
