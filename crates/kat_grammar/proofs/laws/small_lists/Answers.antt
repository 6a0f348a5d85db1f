use Rattle.kat_grammar.proofs.SmallForms.{small}
use Rattle.kat_grammar.proofs.laws.small_lists.Goals as goal

pub returns : goal.returns
returns c = small
