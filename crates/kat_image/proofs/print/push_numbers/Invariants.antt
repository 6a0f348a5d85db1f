use Rattle.kat_image.proofs.Printed.{IsPrintedTo}
use Rattle.kat_image.proofs.print.push_numbers.Given as goal

-- the cells so far are written
abbrev pub invariant-loop-index : goal.invariant-loop-index
invariant-loop-index l =
    IsPrintedTo l.digits l.state.lo l.state.cells l.initial.out l.out l.index l.count
