use Rattle.kat_gen.proofs.Generated.{so_many}
use Rattle.kat_gen.proofs.laws.generated_has_so_many.Goals as goal

pub returns : goal.returns
returns c = so_many
