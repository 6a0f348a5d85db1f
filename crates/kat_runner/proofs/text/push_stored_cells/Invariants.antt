use Rattle.std.proofs.Common.{◌≡◌, ◌++◌, drop}
use Rattle.std.specs.List.{filter}
use Rattle.kat_runner.specs.StateText.{cell_text_of, changed_cells, is_index}
use Rattle.kat_runner.proofs.text.push_stored_cells.Given as goal

-- the lines that are still to come make the text whole
abbrev pub invariant-loop-at : goal.invariant-loop-at
invariant-loop-at l =
    let text = cell_text_of l.machine.decls in
    let are = filter (is_index l.machine.decls) in
    l.out ++ changed_cells text l.before l.after (are (drop l.at l.stored))
    ≡ l.initial.out ++ changed_cells text l.before l.after (are l.stored)
