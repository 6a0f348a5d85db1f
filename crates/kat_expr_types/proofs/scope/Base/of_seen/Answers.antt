-- The one list is that of the parameters.
use Rattle.std.proofs.Common.{sym, subst, ◌∙◌, arith}
use Rattle.std.proofs.lemmas.List.{take_all}
use Rattle.kat_expr_types.specs.Bases.{IsBase}
use Rattle.kat_expr_types.proofs.Naming.{names_one}
use Rattle.kat_expr_types.proofs.scope.Base.of_seen.Goals as goal

pub invariant_of-result : goal.invariant_of-result
invariant_of-result c =
    let params = c.args.params.now in
    subst (λ scope. IsBase scope c.loop-at.table)
    (take_all c.loop-at.at params (omega arith)
    ∙ sym (names_one c.new-lists.result c.push.new.self params c.copy.result c.new-lists.ensures
    c.copy.ensures c.in_ok-push.ensures.ok))
    c.loop-at.invariant
