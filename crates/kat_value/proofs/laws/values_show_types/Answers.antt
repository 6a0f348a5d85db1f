use Rattle.kat_value.proofs.ShownTypes.{shown_types}
use Rattle.kat_value.proofs.laws.values_show_types.Goals as goal

pub returns : goal.returns
returns c = shown_types
