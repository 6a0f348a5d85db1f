-- The parts are noted one behind another.
use Rattle.std.proofs.Common.{arith}
use Rattle.kat_expr_types.specs.Judging.{known_here}
use Rattle.kat_stm_types.proofs.Noting.{trees_here}
use Rattle.kat_stm_types.proofs.UsedParts.{cell_parts_noted}
use Rattle.kat_stm_types.proofs.uses.judge_cell_parts.Goals as goal

pub overflow_add-value_at-2 : goal.overflow_add-value_at-2
overflow_add-value_at-2 c =
    omega (arith, trees_here c.args.setting.now c.args.index.now _ _ _ _ c.judge_expr-place.ensures)

pub judge_expr-known-requires : goal.judge_expr-known-requires
judge_expr-known-requires c =
    omega (arith, trees_here c.args.setting.now c.args.index.now _ _ _ _ c.judge_expr-place.ensures)

pub overflow_add-result : goal.overflow_add-result
overflow_add-result c =
    omega (arith, trees_here c.args.setting.now c.args.index.now _ _ _ _ c.judge_expr-place.ensures)

pub overflow_add-result-2 : goal.overflow_add-result-2
overflow_add-result-2 c =
    omega (
      arith,
      trees_here c.args.setting.now c.args.index.now _ _ _ _ c.judge_expr-place.ensures,
      trees_here c.args.setting.now c.args.value.now _ _ _ _ c.judge_expr-known.ensures,
    )

pub returns-clause-trees : goal.returns-clause-trees
returns-clause-trees c =
    omega (
      arith,
      trees_here c.args.setting.now c.args.index.now _ _ _ _ c.judge_expr-place.ensures,
      trees_here c.args.setting.now c.args.value.now _ _ _ _ c.judge_expr-known.ensures,
    )

pub returns-clause-faults : goal.returns-clause-faults
returns-clause-faults c =
    cell_parts_noted c.args.setting.now.around.now c.args.at
    (known_here c.args.setting.now c.args.index.now)
    (known_here c.args.setting.now c.args.value.now) c.judge_expr-place.result
    c.judge_expr-known.result
    c.args.faults.now c.judge_memory.new.faults c.judge_expr-place.new.faults
    c.judge_wanting.new.faults
    c.judge_expr-known.new.faults c.judge_wanting-2.new.faults c.index_type.result
    c.cell_type.result
    c.judge_memory.ensures c.judge_expr-place.ensures c.index_type.ensures c.judge_wanting.ensures
    c.judge_expr-known.ensures c.cell_type.ensures c.judge_wanting-2.ensures
