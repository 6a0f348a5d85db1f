use Rattle.kat_syntax.specs.Modes.{used_in}
use Rattle.kat_mode.proofs.Binding.{equation_binds}
use Rattle.kat_mode.proofs.values.bind_equal.Goals as goal

pub returns-in_ok-bind-in-Ok : goal.returns-in_ok-bind-in-Ok
returns-in_ok-bind-in-Ok c =
    equation_binds c.args.name.now (used_in c.args.equal.now).names c.args.unbound.now
    c.bind.new.self c.requires c.in_ok-bind-in-Ok.ensures c.in-Ok.ensures
