-- A parameter more, which each position has.
use Rattle.std.proofs.Common.{sym, subst, take, ◌+◌}
use Rattle.std.proofs.lemmas.Result.{on_ok_weaker}
use Rattle.kat_expr_types.specs.Bases.{IsBase}
use Rattle.kat_expr_types.proofs.Naming.{added_param, no_param}
use Rattle.kat_expr_types.proofs.scope.add_param.Goals as goal

pub returns-in-Some : goal.returns-in-Some
returns-in-Some c = λ base.
    let params = c.args.params.now in
    let at = c.args.at in
    on_ok_weaker c.add.result
    (λ made. subst (IsBase (take (at + 1) params)) (sym made)
    (added_param params at c.args.table.now c.in-Some.name.now c.type_at.result c.requires
    c.in-Some.ensures c.type_at.ensures base))
    c.add.ensures

pub returns-in-None : goal.returns-in-None
returns-in-None c = λ base. absurd
    (no_param c.args.params.now c.args.at c.requires c.in-None.ensures)
