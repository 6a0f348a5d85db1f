use Rattle.kat_claims.proofs.NamesRead.{only_names_read_count}
use Rattle.kat_claims.proofs.laws.only_names_read_count.Goals as goal

pub returns : goal.returns
returns c = only_names_read_count
