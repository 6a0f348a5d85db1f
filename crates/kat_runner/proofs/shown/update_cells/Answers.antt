use Rattle.std.proofs.Common.{◌∙◌, refl, ap, sym, arith}
use Rattle.std.proofs.lemmas.List.{drop_all}
use Rattle.std.specs.Prelude.{slice_index}
use Rattle.kat_syntax.specs.States.{with_cell}
use Rattle.kat_runner.specs.Runner.{is_stored}
use Rattle.kat_runner.proofs.Updated.{cell_set, set_here, none_here, same_cells, state_is, passes, front_at}
use Rattle.kat_runner.proofs.shown.update_cells.Goals as goal
use Rattle.kat_runner.proofs.shown.update_cells.Goals.{in-Some, in_default}

-- one more stored index is passed
pub loop-at-preserved : goal.loop-at-preserved
loop-at-preserved c =
    let now = c.loop-at.invariant in
    let first = c.requires.first ∙ sym now.first in
    let index = slice_index c.args.stored.now c.loop-at.at in
    elim c.match-cell.branch [
      | in-Some w ↦
          let set = cell_set index w.in-Some.number c.loop-at.shown in
          rw (w.shown-is, w.set_cell.ensures) (record {
            registers = set.registers ∙ now.registers;
            first = set.first ∙ now.first;
            count = set.count ∙ now.count;
            passed = passes c.args.next.now c.loop-at.shown (with_cell index w.in-Some.number
                c.loop-at.shown) c.args.stored.now c.loop-at.at _
                (front_at c.args.stored.now c.loop-at.at (omega arith))
                now.passed set.others
                (sym c.cell.ensures ∙ w.in-Some.is
                ∙ sym (set_here c.args.next.now c.loop-at.shown first now.count _ _
                (sym c.cell.ensures ∙ w.in-Some.is)));
          })
      | in_default w ↦
          rw w.shown-is (record {
            registers = now.registers;
            first = now.first;
            count = now.count;
            passed = passes c.args.next.now c.loop-at.shown c.loop-at.shown c.args.stored.now
                c.loop-at.at _
                (front_at c.args.stored.now c.loop-at.at (omega arith))
                now.passed (λ j other. refl)
                (sym c.cell.ensures ∙ w.in_default.is
                ∙ sym (none_here c.args.next.now c.loop-at.shown first now.count _
                (sym c.cell.ensures ∙ w.in_default.is)));
          })
    ]

-- the registers and the memory stay, and all that was stored is passed
pub returns : goal.returns
returns c =
    let now = c.loop-at.invariant in
    let first = c.requires.first ∙ sym now.first in
    let none = drop_all c.loop-at.at c.args.stored.now (omega arith) in
    state_is c.loop-at.shown _ _ _ now.registers now.first
    (same_cells c.args.next.now c.loop-at.shown first now.count
    (λ index. now.passed index (ap (λ xs. is_stored xs index) none)))
