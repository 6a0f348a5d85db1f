use Rattle.kat_laws.proofs.Clean.{clean_declarations}
use Rattle.kat_laws.proofs.faults.clean_declarations.Goals as goal

pub returns : goal.returns
returns c = clean_declarations
