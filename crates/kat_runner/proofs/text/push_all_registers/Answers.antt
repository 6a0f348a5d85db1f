use Rattle.std.proofs.Common.{arith}
use Rattle.std.proofs.lemmas.Grind.{common_steps}
use Rattle.kat_runner.proofs.Lines.{register_lines-at, register_lines-end}
use Rattle.kat_runner.proofs.text.push_all_registers.Goals as goal

-- one more line is written
pub loop-at-preserved : goal.loop-at-preserved
loop-at-preserved c =
    grind (
      arith,
      common_steps,
      register_lines-at c.args.types.now c.args.names.now
          c.args.values.now c.loop-at.at c.index-names-at.result c.index-values-at.result (omega
          arith) (omega arith) c.index-names-at.is c.index-values-at.is,
    )

-- no line is left at the end
pub returns : goal.returns
returns c = grind (
  arith,
  common_steps,
  register_lines-end c.args.types.now c.loop-at.at
      c.args.names.now c.args.values.now (omega arith),
)
