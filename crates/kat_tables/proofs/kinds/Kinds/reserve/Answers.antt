use Rattle.std.proofs.Common.{refl}
use Rattle.kat_tables.proofs.Putting.{same_kinds, always_ok}
use Rattle.kat_tables.proofs.kinds.Kinds.reserve.Goals as goal

-- the names are the same
pub returns : goal.returns
returns c all is =
    always_ok c.reserve.result
    (same_kinds all c.args.self.now (record {
      names = c.reserve.new.self;
      again = c.args.self.now.again;
    }) c.reserve.ensures refl is)
