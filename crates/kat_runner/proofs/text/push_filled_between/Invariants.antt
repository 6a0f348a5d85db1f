use Rattle.std.proofs.Common.{◌≡◌, ◌++◌, ◌-◌}
use Rattle.std.specs.List.{range_with_len}
use Rattle.kat_runner.specs.StateText.{cell_text_of, filled_cells}
use Rattle.kat_runner.proofs.text.push_filled_between.Given as goal

-- the lines that are still to come make the text whole
abbrev pub invariant-loop-index : goal.invariant-loop-index
invariant-loop-index l =
    let text = cell_text_of l.machine.decls in
    l.out ++ filled_cells text l.state (range_with_len l.index (l.hi - l.index))
    ≡ l.initial.out ++ filled_cells text l.state (range_with_len l.lo (l.hi - l.lo))
