-- A cell and its value.
use Rattle.kat_stm_types.proofs.Statements.{store_told}
use Rattle.kat_stm_types.proofs.stm.judge_store.Goals as goal

pub returns : goal.returns
returns c =
    store_told c.plain-setting.result c.args.around.now c.args.scope.now
    c.plain-setting.ensures.around c.plain-setting.ensures.standing
    c.plain-setting.ensures.scope
    c.args.index.now c.args.value.now c.args.at c.judge_cell_parts-trees.result c.new.result
    c.args.faults.now c.judge_cell_parts-trees.new.faults c.judge_cell_parts-trees.ensures.trees
    c.judge_cell_parts-trees.ensures.faults c.new.ensures
