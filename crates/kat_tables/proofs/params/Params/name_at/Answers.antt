use Rattle.std.proofs.Common.{◌++◌, Some, None, sym, ap, ◌∙◌}
use Rattle.std.specs.Option.{option_map, option_copied}
use Rattle.kat_tables.proofs.TypedNames.{name_known}
use Rattle.kat_tables.proofs.params.Params.name_at.Goals as goal

pub returns-in_err-param_at : goal.returns-in_err-param_at
returns-in_err-param_at c =
    let p = c.self.inside in
    ap (option_map (λ name. name.now)) c.from_residual.ensures
    ∙ name_known p.tables.now p.decl (p.first.now ++ p.second.now) c.args.self.now c.args.at None
    c.self.view_is (sym (ap option_copied c.in_err-param_at.was) ∙ c.param_at.ensures)

pub returns : goal.returns
returns c =
    let p = c.self.inside in
    name_known p.tables.now p.decl (p.first.now ++ p.second.now) c.args.self.now c.args.at
    (Some c.in_ok-param_at.field-0.now) c.self.view_is
    (sym (ap option_copied c.in_ok-param_at.was) ∙ c.param_at.ensures)
