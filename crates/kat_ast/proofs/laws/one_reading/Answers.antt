use Rattle.kat_ast.proofs.Specifications.{reads_once}
use Rattle.kat_ast.proofs.laws.one_reading.Goals as goal

pub returns : goal.returns
returns c = reads_once c.one_tree.ensures c.one_form.ensures.spec
