-- One parameter more, and the scope behind the last.
use Rattle.std.proofs.Common.{sym, ap, subst, ◌∙◌, ◌+◌, ◌++◌, arith, take}
use Rattle.kat_syntax.specs.NamedItems.{added}
use Rattle.kat_syntax.specs.TypesWritten.{with_params}
use Rattle.kat_expr_types.specs.Bases.{IsBase, names_in}
use Rattle.kat_expr_types.proofs.Naming.{names_more, next_param, all_in}
use Rattle.kat_expr_types.proofs.scope.Base.judge_params.Goals as goal

pub loop-param-preserved : goal.loop-param-preserved
loop-param-preserved c =
    let around = c.args.around.now in
    let scope = names_in c.self.inside.lists in
    let params = c.args.params.now in
    let so_far = c.loop-param.invariant in
    next_param around scope c.args.at params c.loop-param.param-index c.loop-param.next
    c.loop-param.table
    c.args.faults.now c.loop-param.faults c.param-item.result so_far (omega arith) c.param-item.is
    c.judge_param.new.faults c.add.new.self (c.loop-param.next + (2 + c.count_type.result))
    (c.judge_param.ensures (with_params around scope (take c.loop-param.param-index params))
    so_far.base)
    (c.in_ok-add.ensures ∙ ap (λ t. added c.loop-param.table c.param-item.result.name t)
    c.type_here.ensures)
    (omega arith)

pub returns-clause-base : goal.returns-clause-base
returns-clause-base c =
    ap names_in c.in_ok-push.ensures.ok
    ∙ names_more c.self.inside.lists c.params.result
    ∙ ap (λ last. names_in c.self.inside.lists ++ last) c.params.ensures
    ∙ ap (λ scope. with_params c.args.around.now scope c.args.params.now) c.self.view_is

pub invariant_of-result : goal.invariant_of-result
invariant_of-result c =
    let around = c.args.around.now in
    let scope = names_in c.self.inside.lists in
    subst (λ s. IsBase s c.loop-param.table)
    (sym (ap names_in c.in_ok-push.ensures.ok
    ∙ names_more c.self.inside.lists c.params.result
    ∙ ap (λ last. scope ++ last) c.params.ensures))
    (all_in around scope c.args.at c.args.params.now c.loop-param.param-index c.loop-param.next
    c.loop-param.table
    c.args.faults.now c.loop-param.faults c.loop-param.invariant (omega arith))
