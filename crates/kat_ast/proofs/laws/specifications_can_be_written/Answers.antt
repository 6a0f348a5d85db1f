use Rattle.kat_ast.proofs.Specifications.{spec_writable}
use Rattle.kat_ast.proofs.laws.specifications_can_be_written.Goals as goal

pub returns : goal.returns
returns c = spec_writable
