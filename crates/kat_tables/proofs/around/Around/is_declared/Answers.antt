use Rattle.std.proofs.Common.{ap, ◌∙◌, is_some}
use Rattle.std.specs.List.{list_any}
use Rattle.std.specs.Str.{bytes_eq}
use Rattle.kat_syntax.specs.Declares.{Declared, declared_by}
use Rattle.kat_tables.proofs.Lookups.{is_there}
use Rattle.kat_tables.proofs.around.Around.is_declared.Goals as goal

pub returns : goal.returns
returns c =
    let x = c.args.name.now in
    c.is_some.ensures
    ∙ ap is_some (c.place.ensures ∙ c.tables.invariant.kinds_are.places x)
    ∙ is_there (declared_by c.tables.inside.decls.now) x
    ∙ ap (λ ds. list_any (λ (one : Declared). bytes_eq one.name x) (declared_by ds))
    (c.tables.view_is ∙ ap (λ a. a.decls) c.self.view_is)
