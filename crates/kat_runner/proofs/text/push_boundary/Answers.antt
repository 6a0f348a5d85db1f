use Rattle.std.proofs.Common.{arith}
use Rattle.std.proofs.lemmas.Grind.{common_steps}
use Rattle.kat_runner.proofs.Cells.{stored_lines}
use Rattle.kat_runner.proofs.text.push_boundary.Goals as goal

-- the lines of the stored cells are those of the changed ones
pub returns : goal.returns
returns c =
    grind (
      arith,
      common_steps,
      stored_lines c.args.machine.now.decls c.args.before.now c.args.after.now c.args.stored.now
          c.requires.rises c.requires.changes,
    )
