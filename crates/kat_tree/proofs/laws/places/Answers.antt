use Rattle.kat_tree.proofs.Numbers.{at_root_itself, known_places, count_of-List, within, part_places}
use Rattle.kat_tree.proofs.laws.places.Goals as goal

pub returns-clause-root : goal.returns-clause-root
returns-clause-root c = at_root_itself

pub returns-clause-known : goal.returns-clause-known
returns-clause-known c = known_places

pub returns-clause-count : goal.returns-clause-count
returns-clause-count c = count_of-List

pub returns-clause-within : goal.returns-clause-within
returns-clause-within c = within

pub returns-clause-parts : goal.returns-clause-parts
returns-clause-parts c = part_places
