use Rattle.kat_tree.proofs.Leaves.{writable}
use Rattle.kat_tree.proofs.laws.spelled_is_writable.Goals as goal

pub returns : goal.returns
returns c = writable
