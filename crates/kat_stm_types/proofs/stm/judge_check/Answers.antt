-- A condition.
use Rattle.kat_stm_types.proofs.Statements.{check_told}
use Rattle.kat_stm_types.proofs.stm.judge_check.Goals as goal

pub returns : goal.returns
returns c =
    check_told c.plain.result c.args.around.now c.args.scope.now c.plain.ensures.around
    c.plain.ensures.standing
    c.plain.ensures.scope
    c.args.test.now c.args.at c.judge_truth-trees.result c.new.result c.args.faults.now
    c.judge_truth-trees.new.faults c.judge_truth-trees.ensures.trees
    c.judge_truth-trees.ensures.faults
    c.new.ensures
