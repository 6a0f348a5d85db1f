-- A register and its value.
use Rattle.kat_stm_types.proofs.Statements.{write_told}
use Rattle.kat_stm_types.proofs.stm.judge_write.Goals as goal

pub returns : goal.returns
returns c =
    write_told c.plain-setting.result c.args.around.now c.args.scope.now
    c.plain-setting.ensures.around c.plain-setting.ensures.standing
    c.plain-setting.ensures.scope
    c.args.register.now c.args.value.now c.args.at c.judge_register_value-trees.result c.new.result
    c.args.faults.now c.judge_register_value-trees.new.faults
    c.judge_register_value-trees.ensures.trees
    c.judge_register_value-trees.ensures.faults c.new.ensures
