use Rattle.kat_syntax.proofs.EarlierTypes.{types_name_earlier}
use Rattle.kat_syntax.proofs.laws.types_name_earlier_ones.Goals as goal

pub returns : goal.returns
returns c = types_name_earlier
