use Rattle.kat_tree.proofs.Leaves.{tokens_of-Atom, tokens_of-List}
use Rattle.kat_tree.proofs.Writing.{text_of_tree-Atom, text_of_tree-List}
use Rattle.kat_tree.proofs.ByParts.{atom_token, atom_writable, list_writable, parts_writable, part_writable, part_nesting}
use Rattle.kat_tree.proofs.laws.written_layers.Goals as goal

pub returns-clause-atom_text : goal.returns-clause-atom_text
returns-clause-atom_text c = text_of_tree-Atom

pub returns-clause-list_text : goal.returns-clause-list_text
returns-clause-list_text c = text_of_tree-List

pub returns-clause-atom_tokens : goal.returns-clause-atom_tokens
returns-clause-atom_tokens c = tokens_of-Atom

pub returns-clause-list_tokens : goal.returns-clause-list_tokens
returns-clause-list_tokens c = tokens_of-List

pub returns-clause-atom_writable : goal.returns-clause-atom_writable
returns-clause-atom_writable c = λ token. (atom_token token, atom_writable token)

pub returns-clause-list_writable : goal.returns-clause-list_writable
returns-clause-list_writable c = list_writable

pub returns-clause-parts_writable : goal.returns-clause-parts_writable
returns-clause-parts_writable c = parts_writable

pub returns-clause-part_writable : goal.returns-clause-part_writable
returns-clause-part_writable c = part_writable

pub returns-clause-part_nesting : goal.returns-clause-part_nesting
returns-clause-part_nesting c = part_nesting
