use Rattle.std.proofs.Common.{arith}
use Rattle.std.proofs.lemmas.Grind.{common_steps}
use Rattle.kat_runner.specs.StateText.{cell_text_of}
use Rattle.kat_runner.proofs.Cells.{filled_cells-at}
use Rattle.kat_runner.proofs.text.push_filled_between.Goals as goal

-- one more cell is passed
pub loop-index-preserved : goal.loop-index-preserved
loop-index-preserved c =
    grind (
      arith,
      common_steps,
      filled_cells-at (cell_text_of c.args.machine.now.decls) c.args.state.now c.loop-index.index
          c.args.hi (omega arith),
    )
