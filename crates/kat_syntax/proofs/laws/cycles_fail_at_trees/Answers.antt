use Rattle.kat_syntax.proofs.CycleTrees.{cycles_fail_at_trees}
use Rattle.kat_syntax.proofs.laws.cycles_fail_at_trees.Goals as goal

pub returns : goal.returns
returns c = cycles_fail_at_trees c.places_are_of_the_tree.ensures.decl c.statements_do_their_parts.ensures
