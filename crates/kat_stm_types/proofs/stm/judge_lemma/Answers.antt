-- A lemma that is found, or not.
use Rattle.std.proofs.Common.{refl, ap, ◌∙◌, Some, None}
use Rattle.kat_stm_types.proofs.Statements.{lemma_told}
use Rattle.kat_stm_types.proofs.stm.judge_lemma.Goals.{in-Some, in-None}
use Rattle.kat_stm_types.proofs.stm.judge_lemma.Goals as goal

pub returns : goal.returns
returns c = elim c.match-lemma.branch [
  | in-Some w ↦
      lemma_told c.plain-setting.result c.args.around.now c.args.scope.now
      c.plain-setting.ensures.around c.plain-setting.ensures.standing
      c.plain-setting.ensures.scope
      c.args.args.now c.args.at c.match-lemma.trees c.new.result c.args.faults.now
      c.match-lemma.faults
      (Some w.in-Some.seen) _ (Some w.inputs.result) w.in-Some.ensures (ap Some w.inputs.ensures)
      (w.trees-is ∙ w.judge_use-trees.ensures.trees) (w.faults-is
      ∙ w.judge_use-trees.ensures.faults) c.new.ensures c.args.lemma.now refl
  | in-None w ↦
      lemma_told c.plain-setting.result c.args.around.now c.args.scope.now
      c.plain-setting.ensures.around c.plain-setting.ensures.standing
      c.plain-setting.ensures.scope
      c.args.args.now c.args.at c.match-lemma.trees c.new.result c.args.faults.now
      c.match-lemma.faults
      None _ None w.in-None.ensures refl
      (w.trees-is ∙ w.judge_use-trees-in-None.ensures.trees) (w.faults-is
      ∙ w.judge_use-trees-in-None.ensures.faults) c.new.ensures c.args.lemma.now refl
]
