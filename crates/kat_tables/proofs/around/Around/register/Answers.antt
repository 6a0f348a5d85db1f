use Rattle.std.proofs.Common.{ap, ◌∙◌}
use Rattle.kat_syntax.specs.Declares.{declared_by, look_up}
use Rattle.kat_syntax.specs.Around.{a_register}
use Rattle.kat_tables.proofs.Lookups.{registers_same}
use Rattle.kat_tables.proofs.around.Around.register.Goals as goal

pub returns : goal.returns
returns c =
    let x = c.args.name.now in
    c.register.ensures ∙ c.tables.invariant.kinds_are.registers x
    ∙ registers_same (declared_by c.tables.inside.decls.now) x
    ∙ ap (λ ds. look_up a_register (declared_by ds) x)
    (c.tables.view_is ∙ ap (λ a. a.decls) c.self.view_is)
