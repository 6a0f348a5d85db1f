-- A function that is found, or not.
use Rattle.std.proofs.Common.{refl, ap, Some, None}
use Rattle.kat_stm_types.proofs.Statements.{call_told}
use Rattle.kat_stm_types.proofs.stm.judge_call.Goals as goal

pub returns-in-Some : goal.returns-in-Some
returns-in-Some c =
    call_told c.plain-setting.result c.args.around.now c.args.scope.now
    c.plain-setting.ensures.around c.plain-setting.ensures.standing
    c.plain-setting.ensures.scope
    c.args.function.now c.args.args.now c.args.at c.judge_given-trees.result c.new.result
    c.args.faults.now c.args.faults.now c.judge_given-trees.new.faults (Some c.in-Some.seen)
    (Some c.params.result.now) c.ty.result c.in-Some.ensures (ap Some c.params.ensures) c.ty.ensures
    c.judge_given-trees.ensures.trees refl c.judge_given-trees.ensures.faults c.new.ensures

pub returns-in-None : goal.returns-in-None
returns-in-None c =
    call_told c.plain-setting.result c.args.around.now c.args.scope.now
    c.plain-setting.ensures.around c.plain-setting.ensures.standing
    c.plain-setting.ensures.scope
    c.args.function.now c.args.args.now c.args.at c.judge_given.result c.new-in-None.result
    c.args.faults.now c.judge_known.new.faults c.judge_given.new.faults None None None
    c.in-None.ensures refl refl c.judge_given.ensures.trees c.judge_known.ensures
    c.judge_given.ensures.faults c.new-in-None.ensures
