-- The parts are noted one behind another.
use Rattle.std.proofs.Common.{arith}
use Rattle.kat_expr_types.specs.Judging.{known_here}
use Rattle.kat_stm_types.proofs.Noting.{trees_here}
use Rattle.kat_stm_types.proofs.UsedParts.{register_value_noted}
use Rattle.kat_stm_types.proofs.uses.judge_register_value.Goals as goal

pub overflow_add-result : goal.overflow_add-result
overflow_add-result c =
    omega (arith, trees_here c.args.setting.now c.args.value.now _ _ _ _ c.judge_expr-known.ensures)

pub returns-clause-trees : goal.returns-clause-trees
returns-clause-trees c =
    omega (arith, trees_here c.args.setting.now c.args.value.now _ _ _ _ c.judge_expr-known.ensures)

pub returns-clause-faults : goal.returns-clause-faults
returns-clause-faults c =
    register_value_noted c.args.setting.now.around.now c.args.at c.args.register.now
    (known_here c.args.setting.now c.args.value.now) c.judge_expr-known.result
    c.args.faults.now c.judge_known.new.faults c.judge_expr-known.new.faults
    c.judge_wanting.new.faults
    c.register.result c.is_some.result c.type_of_register.result c.register.ensures
    c.is_some.ensures
    c.judge_known.ensures c.judge_expr-known.ensures c.type_of_register.ensures
    c.judge_wanting.ensures
