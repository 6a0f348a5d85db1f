use Rattle.std.proofs.Common.{arith}
use Rattle.std.proofs.lemmas.Grind.{common_steps}
use Rattle.kat_image.proofs.Printed.{printed_start, printed_more, printed_end, on_ok}
use Rattle.kat_image.proofs.print.push_numbers.Goals as goal

-- nothing is written yet
pub loop-index-init : goal.loop-index-init
loop-index-init c =
    printed_start c.args.digits c.args.state.now.lo c.args.state.now.cells c.args.out.now
    c.memory.inside.lo (grind (arith, common_steps))

-- at most eight cells stand on the open line
pub push_cell-requires : goal.push_cell-requires
push_cell-requires c = c.loop-index.invariant.few

-- one more cell is written
pub loop-index-preserved : goal.loop-index-preserved
loop-index-preserved c =
    printed_more c.args.digits c.args.state.now.lo c.args.state.now.cells c.args.out.now
    c.loop-index.out c.push_cell.new.out c.loop-index.index c.loop-index.count c.cell_of.result
    c.in_ok-count.count (grind (arith, common_steps)) c.cell_of.ensures
    c.in_ok-count.ensures.pushed c.in_ok-count.ensures.count c.in_ok-count.ensures.few
    c.loop-index.invariant

-- the last line is ended
pub returns : goal.returns
returns c =
    on_ok c.push_line_end.result c.push_line_end.ensures
    (λ pushed. printed_end c.args.digits c.args.state.now.lo c.args.state.now.cells c.args.out.now
    c.loop-index.out c.push_line_end.new.out c.loop-index.index c.loop-index.count
    (grind (arith, common_steps)) c.loop-index.invariant pushed)
