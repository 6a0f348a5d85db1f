use Rattle.kat_exec.proofs.Examples.{examples}
use Rattle.kat_exec.proofs.laws.examples_come_out.Goals as goal

pub returns : goal.returns
returns c = examples c.terms_by_parts.ensures
