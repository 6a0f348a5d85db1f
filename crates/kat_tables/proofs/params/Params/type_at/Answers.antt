use Rattle.std.proofs.Common.{◌++◌, Some, None, sym, ap, ◌∙◌}
use Rattle.std.specs.Option.{option_copied}
use Rattle.kat_syntax.specs.Declares.{type_of_name}
use Rattle.kat_tables.proofs.TypedNames.{type_known}
use Rattle.kat_tables.proofs.params.Params.type_at.Goals as goal

pub returns-in_err-param : goal.returns-in_err-param
returns-in_err-param c =
    let p = c.self.inside in
    c.from_residual.ensures
    ∙ type_known p.tables.now p.decl (p.first.now ++ p.second.now) c.args.self.now c.args.at None
    c.self.view_is (sym (ap option_copied c.in_err-param.was) ∙ c.param_at.ensures)

pub returns : goal.returns
returns c =
    let p = c.self.inside in
    c.type_of_name.ensures c.tables.inside.decls.now c.tables.invariant.heads_are
    ∙ ap (λ ds. type_of_name ds p.decl c.in_ok-param.param.now.ty) c.tables.view_is
    ∙ type_known p.tables.now p.decl (p.first.now ++ p.second.now) c.args.self.now c.args.at
    (Some c.in_ok-param.param.now) c.self.view_is
    (sym (ap option_copied c.in_ok-param.was) ∙ c.param_at.ensures)
