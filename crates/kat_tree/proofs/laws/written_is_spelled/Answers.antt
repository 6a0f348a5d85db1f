use Rattle.kat_tree.proofs.Writing.{spelled}
use Rattle.kat_tree.proofs.laws.written_is_spelled.Goals as goal

pub returns : goal.returns
returns c = spelled
