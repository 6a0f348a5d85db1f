use Rattle.kat_gen.proofs.Generated.{generated_is_spec}
use Rattle.kat_gen.proofs.laws.generated_has_its_form.Goals as goal

pub returns : goal.returns
returns c = generated_is_spec
