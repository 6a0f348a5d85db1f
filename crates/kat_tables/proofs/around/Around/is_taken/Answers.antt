use Rattle.std.proofs.Common.{sym, ap, ◌∙◌}
use Rattle.std.specs.List.{list_any}
use Rattle.kat_syntax.specs.Memories.{overlap, ranges_of, range_of}
use Rattle.kat_tables.proofs.Ranges.{any_here, any_further, any_past}
use Rattle.kat_tables.proofs.around.Around.is_taken.Goals.{in-Some+else-overlaps, in_default}
use Rattle.kat_tables.proofs.around.Around.is_taken.Goals as goal

pub returns-then-overlaps : goal.returns-then-overlaps
returns-then-overlaps c =
    let range = c.args.range.now in
    let found = ap range_of (sym c.form.ensures.form) ∙ sym c.of.ensures ∙ c.in-Some.is in
    sym (any_here (overlap range) c.before-decl-items.result.now c.loop-decl.decl-index
    c.decl-item.result c.in-Some.earlier c.loop-decl-test.true c.decl-item.is found
    (sym c.overlaps.ensures ∙ c.if-overlaps.true))
    ∙ c.loop-decl.invariant
    ∙ ap (λ ds. list_any (overlap range) (ranges_of ds)) c.before-decl-items.ensures

pub loop-decl-preserved : goal.loop-decl-preserved
loop-decl-preserved c =
    let range = c.args.range.now in
    elim c.match-of.branch [
      | in-Some+else-overlaps w ↦
          sym (any_further (overlap range) c.before-decl-items.result.now c.loop-decl.decl-index
          c.decl-item.result w.in-Some.earlier c.loop-decl-test.true c.decl-item.is
          (ap range_of (sym c.form.ensures.form) ∙ sym c.of.ensures ∙ w.in-Some.is)
          (sym w.overlaps.ensures ∙ w.if-overlaps.false))
          ∙ c.loop-decl.invariant
      | in_default w ↦
          sym (any_past (overlap range) c.before-decl-items.result.now c.loop-decl.decl-index
          c.decl-item.result c.loop-decl-test.true c.decl-item.is
          (ap range_of (sym c.form.ensures.form) ∙ sym c.of.ensures ∙ w.in_default.is))
          ∙ c.loop-decl.invariant
    ]
