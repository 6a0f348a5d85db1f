use Rattle.std.proofs.Common.{arith}
use Rattle.std.proofs.lemmas.Grind.{common_steps}
use Rattle.kat_image.proofs.Printed.{lines_at, lines_end}
use Rattle.kat_image.proofs.print.push_registers.Goals as goal

-- one more line is written
pub loop-at-preserved : goal.loop-at-preserved
loop-at-preserved c =
    let next = lines_at c.args.types.now c.args.names.now c.args.values.now c.loop-at.at
    c.index-names-at.result c.index-values-at.result (omega arith) (omega arith)
    c.index-names-at.is c.index-values-at.is in
    grind (arith, common_steps, next)

-- no line is left at the end
pub returns : goal.returns
returns c =
    let none = lines_end c.args.types.now c.loop-at.at c.args.names.now c.args.values.now
    (omega arith) in
    grind (arith, common_steps, none)
