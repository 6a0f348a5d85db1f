use Rattle.std.proofs.Common.{map, ap, subst, ◌∙◌}
use Rattle.kat_syntax.specs.Declares.{declared_by}
use Rattle.kat_tables.specs.Meanings.{noted, AreFirst}
use Rattle.kat_tables.proofs.Once.{names_free}
use Rattle.kat_tables.proofs.around.Around.names_differ.Goals as goal

pub returns : goal.returns
returns c once form here =
    names_free c.args.self.now form
    (subst (λ ds. AreFirst (map noted (declared_by ds)) (map noted (declared_by ds)))
    (c.tables.view_is ∙ ap (λ a. a.decls) c.self.view_is)
    (c.tables.invariant.kinds_are.once (c.are_once.ensures once)))
    here
