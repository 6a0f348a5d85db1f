use Rattle.std.proofs.Common.{sym}
use Rattle.kat_mode.proofs.Binding.{bound_goes_on}
use Rattle.kat_mode.proofs.expr.ask_name.Goals as goal

pub returns-else-has : goal.returns-else-has
returns-else-has c = bound_goes_on c.args.name.now c.args.unbound.now (sym c.if-has.ensures)
