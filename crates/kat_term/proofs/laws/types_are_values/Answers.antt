use Rattle.kat_term.proofs.TermTypes as laws
use Rattle.kat_term.proofs.laws.types_are_values.Goals as goal

pub returns : goal.returns
returns c = laws.types_are_values c.values_show_types.ensures c.operations_are_exact.ensures
