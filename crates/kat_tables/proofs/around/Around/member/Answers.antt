use Rattle.std.proofs.Common.{ap, ◌∙◌}
use Rattle.kat_syntax.specs.Declares.{declared_by, look_up}
use Rattle.kat_syntax.specs.Around.{a_member}
use Rattle.kat_tables.proofs.Lookups.{members_same}
use Rattle.kat_tables.proofs.around.Around.member.Goals as goal

pub returns : goal.returns
returns c =
    let x = c.args.name.now in
    c.member.ensures ∙ c.tables.invariant.kinds_are.members x
    ∙ members_same (declared_by c.tables.inside.decls.now) x
    ∙ ap (λ ds. look_up a_member (declared_by ds) x)
    (c.tables.view_is ∙ ap (λ a. a.decls) c.self.view_is)
