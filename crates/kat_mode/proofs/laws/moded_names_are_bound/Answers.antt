use Rattle.kat_mode.proofs.Keeping.{course_by_layers, reading_keeps_bound}
use Rattle.kat_mode.proofs.Declarations.{moded_binds_all}
use Rattle.kat_mode.proofs.InputCounts.{inputs_are_typed}
use Rattle.kat_mode.proofs.laws.moded_names_are_bound.Goals as goal

pub returns-clause-layers : goal.returns-clause-layers
returns-clause-layers c = course_by_layers

pub returns-clause-assertions : goal.returns-clause-assertions
returns-clause-assertions c = reading_keeps_bound

pub returns-clause-specifications : goal.returns-clause-specifications
returns-clause-specifications c = moded_binds_all

pub returns-clause-inputs : goal.returns-clause-inputs
returns-clause-inputs c = inputs_are_typed
