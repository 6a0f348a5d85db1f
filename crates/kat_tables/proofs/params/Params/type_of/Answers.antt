use Rattle.std.proofs.Common.{sym, ap, ◌∙◌}
use Rattle.std.specs.Option.{option_or}
use Rattle.kat_syntax.specs.Declares.{typed_params}
use Rattle.kat_syntax.specs.TypesWritten.{local_type}
use Rattle.kat_tables.proofs.TypedNames.{local_in_both}
use Rattle.kat_tables.proofs.params.Params.type_of.Goals as goal

pub returns-in-Some : goal.returns-in-Some
returns-in-Some c =
    let p = c.self.inside in
    let there = local_type (typed_params p.tables.now p.decl p.second.now) c.args.name.now in
    ap (λ first. option_or first there) (sym c.in-Some.is ∙ c.type_in.ensures)
    ∙ sym (local_in_both p.tables.now p.decl p.first.now p.second.now c.args.name.now)
    ∙ ap (λ names. local_type names c.args.name.now) c.self.view_is

pub returns-in-None : goal.returns-in-None
returns-in-None c =
    let p = c.self.inside in
    let there = local_type (typed_params p.tables.now p.decl p.second.now) c.args.name.now in
    c.type_in-in-None.ensures
    ∙ ap (λ first. option_or first there) (sym c.in-None.is ∙ c.type_in.ensures)
    ∙ sym (local_in_both p.tables.now p.decl p.first.now p.second.now c.args.name.now)
    ∙ ap (λ names. local_type names c.args.name.now) c.self.view_is
