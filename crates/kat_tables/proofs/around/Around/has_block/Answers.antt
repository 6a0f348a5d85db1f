use Rattle.std.proofs.Common.{ap, ◌∙◌, is_some}
use Rattle.kat_syntax.specs.Declares.{declared_by, look_up}
use Rattle.kat_syntax.specs.Around.{a_block}
use Rattle.kat_tables.proofs.Lookups.{blocks_same}
use Rattle.kat_tables.proofs.around.Around.has_block.Goals as goal

pub returns : goal.returns
returns c =
    let x = c.args.name.now in
    c.is_some.ensures
    ∙ ap is_some (c.block.ensures ∙ c.tables.invariant.kinds_are.blocks x
    ∙ blocks_same (declared_by c.tables.inside.decls.now) x
    ∙ ap (λ ds. look_up a_block (declared_by ds) x)
    (c.tables.view_is ∙ ap (λ a. a.decls) c.self.view_is))
