use Rattle.std.proofs.Common.{arith}
use Rattle.std.proofs.lemmas.Grind.{common_steps}
use Rattle.kat_runner.proofs.Lines.{changed_registers-at, changed_registers-end}
use Rattle.kat_runner.proofs.text.push_changed_registers.Goals as goal

-- one more register is passed
pub loop-at-preserved : goal.loop-at-preserved
loop-at-preserved c =
    grind (
      arith,
      common_steps,
      changed_registers-at c.args.types.now c.args.names.now c.args.before.now c.args.after.now
          c.loop-at.at c.index-names-at.result c.index-before-at.result c.index-after-at.result
          (omega arith) (omega arith) (omega arith) c.index-names-at.is c.index-before-at.is
          c.index-after-at.is,
    )

-- no line is left at the end
pub returns : goal.returns
returns c = grind (
  arith,
  common_steps,
  changed_registers-end c.args.types.now c.loop-at.at
      c.args.names.now c.args.before.now c.args.after.now (omega arith),
)
