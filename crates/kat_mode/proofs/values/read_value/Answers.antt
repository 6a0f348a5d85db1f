use Rattle.std.proofs.Common.{sym}
use Rattle.kat_syntax.specs.Modes.{used_in}
use Rattle.kat_mode.proofs.Binding.{value_binds}
use Rattle.kat_mode.proofs.values.read_value.Goals as goal

pub returns-in_ok-bind-in-Some : goal.returns-in_ok-bind-in-Some
returns-in_ok-bind-in-Some c =
    value_binds (used_in c.args.value.now) c.in-Some.name.now c.args.unbound.now c.bind.new.self
    (sym c.in-Some.ensures) (sym c.if-has.ensures) c.in_ok-bind-in-Some.ensures
