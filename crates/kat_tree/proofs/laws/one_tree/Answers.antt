use Rattle.kat_tree.proofs.Outcomes.{one_tree}
use Rattle.kat_tree.proofs.laws.one_tree.Goals as goal

pub returns : goal.returns
returns c = one_tree
