-- A predicate that is found, or not.
use Rattle.std.proofs.Common.{refl, ap, ◌∙◌, Some, None}
use Rattle.kat_stm_types.proofs.Statements.{open_told, close_told}
use Rattle.kat_stm_types.proofs.stm.judge_predicate.Goals.{in-Some, in-None}
use Rattle.kat_stm_types.proofs.stm.judge_predicate.Goals as goal

pub returns-clause-opens : goal.returns-clause-opens
returns-clause-opens c = elim c.match-predicate.branch [
  | in-Some w ↦
      open_told c.plain-setting.result c.args.around.now c.args.scope.now
      c.plain-setting.ensures.around c.plain-setting.ensures.standing
      c.plain-setting.ensures.scope
      c.args.inputs.now c.args.at c.match-predicate.trees c.new.result c.args.faults.now
      c.match-predicate.faults
      (Some w.in-Some.seen) _ (Some w.inputs.result) w.in-Some.ensures (ap Some w.inputs.ensures)
      (w.trees-is ∙ w.judge_use-trees.ensures.trees) (w.faults-is
      ∙ w.judge_use-trees.ensures.faults) c.new.ensures c.args.predicate.now refl
  | in-None w ↦
      open_told c.plain-setting.result c.args.around.now c.args.scope.now
      c.plain-setting.ensures.around c.plain-setting.ensures.standing
      c.plain-setting.ensures.scope
      c.args.inputs.now c.args.at c.match-predicate.trees c.new.result c.args.faults.now
      c.match-predicate.faults
      None _ None w.in-None.ensures refl
      (w.trees-is ∙ w.judge_use-trees-in-None.ensures.trees) (w.faults-is
      ∙ w.judge_use-trees-in-None.ensures.faults) c.new.ensures c.args.predicate.now refl
]

pub returns-clause-closes : goal.returns-clause-closes
returns-clause-closes c = elim c.match-predicate.branch [
  | in-Some w ↦
      close_told c.plain-setting.result c.args.around.now c.args.scope.now
      c.plain-setting.ensures.around c.plain-setting.ensures.standing
      c.plain-setting.ensures.scope
      c.args.inputs.now c.args.at c.match-predicate.trees c.new.result c.args.faults.now
      c.match-predicate.faults
      (Some w.in-Some.seen) _ (Some w.inputs.result) w.in-Some.ensures (ap Some w.inputs.ensures)
      (w.trees-is ∙ w.judge_use-trees.ensures.trees) (w.faults-is
      ∙ w.judge_use-trees.ensures.faults) c.new.ensures c.args.predicate.now refl
  | in-None w ↦
      close_told c.plain-setting.result c.args.around.now c.args.scope.now
      c.plain-setting.ensures.around c.plain-setting.ensures.standing
      c.plain-setting.ensures.scope
      c.args.inputs.now c.args.at c.match-predicate.trees c.new.result c.args.faults.now
      c.match-predicate.faults
      None _ None w.in-None.ensures refl
      (w.trees-is ∙ w.judge_use-trees-in-None.ensures.trees) (w.faults-is
      ∙ w.judge_use-trees-in-None.ensures.faults) c.new.ensures c.args.predicate.now refl
]
