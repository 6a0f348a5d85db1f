use Rattle.std.proofs.Common.{sym}
use Rattle.kat_names.proofs.NameLemmas.{twice_where_it_stands}
use Rattle.kat_names.proofs.names.Table.add.Goals as goal

pub returns-in-Ok-clause-twice : goal.returns-in-Ok-clause-twice
returns-in-Ok-clause-twice c =
    twice_where_it_stands c.self.inside.names.keys c.args.self.now c.args.name.now
    c.add_owned.result c.self.view_is c.self.invariant.distinct
    (rw (sym c.in-Ok.ensures.ok) c.add_owned.ensures.position)
