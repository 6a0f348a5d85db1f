use Rattle.kat_tree.proofs.Trees.{lexemes_of-Atom, lexemes_of-List, nesting-Atom, nesting-List}
use Rattle.kat_tree.proofs.Numbers.{trees_of-Atom, trees_of-List, count_of-Atom}
use Rattle.kat_tree.proofs.laws.layers.Goals as goal

pub returns-clause-atom_tokens : goal.returns-clause-atom_tokens
returns-clause-atom_tokens c = lexemes_of-Atom

pub returns-clause-list_tokens : goal.returns-clause-list_tokens
returns-clause-list_tokens c = lexemes_of-List

pub returns-clause-atom_nesting : goal.returns-clause-atom_nesting
returns-clause-atom_nesting c = nesting-Atom

pub returns-clause-list_nesting : goal.returns-clause-list_nesting
returns-clause-list_nesting c = nesting-List

pub returns-clause-atom_trees : goal.returns-clause-atom_trees
returns-clause-atom_trees c = trees_of-Atom

pub returns-clause-list_trees : goal.returns-clause-list_trees
returns-clause-list_trees c = trees_of-List

pub returns-clause-atom_count : goal.returns-clause-atom_count
returns-clause-atom_count c = count_of-Atom
