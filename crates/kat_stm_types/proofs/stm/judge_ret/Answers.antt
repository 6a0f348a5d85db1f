-- A value is an expression.
use Rattle.std.proofs.Common.{arith}
use Rattle.kat_stm_types.proofs.Noting.{trees_here}
use Rattle.kat_stm_types.proofs.Statements.{ret_told}
use Rattle.kat_stm_types.proofs.stm.judge_ret.Goals as goal

pub overflow_add-known : goal.overflow_add-known
overflow_add-known c =
    omega (arith, trees_here c.plain.result c.args.value.now _ _ _ _ c.judge_expr-known.ensures)

pub returns : goal.returns
returns c =
    ret_told c.plain.result c.args.around.now c.args.scope.now c.plain.ensures.around
    c.plain.ensures.standing
    c.plain.ensures.scope c.args.value.now c.args.at c.judge_expr-known.result c.new.result
    c.args.faults.now
    c.judge_expr-known.new.faults c.judge_expr-known.ensures c.new.ensures
