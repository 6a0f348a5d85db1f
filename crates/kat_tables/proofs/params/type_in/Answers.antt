use Rattle.std.proofs.Common.{true, false, sym, ap, ◌∙◌, Some}
use Rattle.kat_syntax.specs.Declares.{type_of_name}
use Rattle.kat_tables.proofs.TypedNames.{local_here, names_tested}
use Rattle.kat_tables.proofs.params.type_in.Goals as goal

pub returns-then-same : goal.returns-then-same
returns-then-same c =
    let param = c.param-item.result in
    let is = c.type_of_name.ensures c.tables.inside.decls.now c.tables.invariant.heads_are
    ∙ ap (λ ds. type_of_name ds c.args.decl param.ty) c.tables.view_is in
    ap (λ type. Some type) is
    ∙ sym (local_here c.args.tables.now c.args.decl c.args.params.now c.loop-param.param-index
    param c.args.name.now true c.loop-param-test.true c.param-item.is
    (names_tested param.name c.args.name.now c.same.result c.same.ensures ∙ c.if-same.true))
    ∙ c.loop-param.invariant

pub loop-param-preserved : goal.loop-param-preserved
loop-param-preserved c =
    let param = c.param-item.result in
    sym (local_here c.args.tables.now c.args.decl c.args.params.now c.loop-param.param-index
    param c.args.name.now false c.loop-param-test.true c.param-item.is
    (names_tested param.name c.args.name.now c.same.result c.same.ensures ∙ c.if-same.false))
    ∙ c.loop-param.invariant
