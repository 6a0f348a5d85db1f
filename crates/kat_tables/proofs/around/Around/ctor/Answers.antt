use Rattle.std.proofs.Common.{ap, ◌∙◌}
use Rattle.kat_syntax.specs.Declares.{declared_by, look_up}
use Rattle.kat_syntax.specs.Around.{a_ctor}
use Rattle.kat_tables.proofs.Lookups.{ctors_same}
use Rattle.kat_tables.proofs.around.Around.ctor.Goals as goal

pub returns : goal.returns
returns c =
    let x = c.args.name.now in
    c.ctor.ensures ∙ c.tables.invariant.kinds_are.ctors x
    ∙ ctors_same (declared_by c.tables.inside.decls.now) x
    ∙ ap (λ ds. look_up a_ctor (declared_by ds) x)
    (c.tables.view_is ∙ ap (λ a. a.decls) c.self.view_is)
