use Rattle.kat_tables.proofs.Noting.{on_ok}
use Rattle.kat_tables.proofs.kinds.Kinds.put_back.Goals as goal

-- the name is what it was first, and the other table has what it is beside that
pub returns-in-Ok : goal.returns-in-Ok
returns-in-Ok c = record {
  names = on_ok c.put_again.result c.put_again.ensures (λ again. c.in-Ok.ensures.names);
  again = c.put_again.ensures;
}
