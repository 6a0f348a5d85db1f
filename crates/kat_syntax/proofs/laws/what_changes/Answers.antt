use Rattle.kat_syntax.proofs.ChangedPlaces.{statements_change_what_they_write, outside_writes_change_one_place}
use Rattle.kat_syntax.proofs.RefusedWrites.{refused_writes_change_nothing}
use Rattle.kat_syntax.proofs.laws.what_changes.Goals as goal

pub returns-clause-statements : goal.returns-clause-statements
returns-clause-statements c = statements_change_what_they_write

pub returns-clause-outside : goal.returns-clause-outside
returns-clause-outside c = outside_writes_change_one_place

pub returns-clause-refused : goal.returns-clause-refused
returns-clause-refused c = refused_writes_change_nothing
