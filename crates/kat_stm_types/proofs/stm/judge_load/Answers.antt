-- The memory before, and an index of it.
use Rattle.std.proofs.Common.{arith}
use Rattle.kat_stm_types.proofs.Noting.{trees_here}
use Rattle.kat_stm_types.proofs.Statements.{load_told}
use Rattle.kat_stm_types.proofs.stm.judge_load.Goals as goal

pub overflow_add-known : goal.overflow_add-known
overflow_add-known c =
    omega (arith, trees_here c.plain.result c.args.index.now _ _ _ _ c.judge_expr-known.ensures)

pub returns : goal.returns
returns c =
    load_told c.plain.result c.args.around.now c.args.scope.now c.plain.ensures.around
    c.plain.ensures.standing
    c.plain.ensures.scope
    c.args.index.now c.args.at c.judge_expr-known.result c.new.result c.args.faults.now
    c.judge_memory.new.faults c.judge_expr-known.new.faults c.judge_wanting.new.faults
    c.index_type.result c.cell_type.result c.judge_memory.ensures c.judge_expr-known.ensures
    c.index_type.ensures c.judge_wanting.ensures c.cell_type.ensures c.new.ensures
