use Rattle.std.proofs.Common.{nat_lt, sym, ap, subst, ◌∙◌}
use Rattle.std.specs.List.Sorted.{IsNonDecreasingBy}
use Rattle.kat_tables.specs.Protected.{end_at}
use Rattle.kat_tables.proofs.Reaches.{first_cell, below_last, below_none}
use Rattle.kat_tables.proofs.protected.Protected.has.Goals as goal

pub returns-then-begun-gt0 : goal.returns-then-begun-gt0
returns-then-begun-gt0 c = λ decls table.
    let same = c.as_slice-reaches.ensures in
    below_last c.args.cell c.as_slice-reaches.result.now c.begun_at-begun.result _
    c.if-begun-gt0.true c.begun_at-begun.ensures.within
    (c.begun_at-begun.ensures.point (subst (IsNonDecreasingBy first_cell) (sym same) table.sorted))
    ∙ ap (λ reaches. nat_lt c.args.cell (end_at c.args.cell 0 reaches)) same
    ∙ table.answers c.args.cell

pub returns-else-begun-gt0 : goal.returns-else-begun-gt0
returns-else-begun-gt0 c = λ decls table.
    let same = c.as_slice-reaches.ensures in
    below_none c.args.cell c.as_slice-reaches.result.now c.begun_at-begun.result
    c.if-begun-gt0.false
    (c.begun_at-begun.ensures.point (subst (IsNonDecreasingBy first_cell) (sym same) table.sorted))
    ∙ ap (λ reaches. nat_lt c.args.cell (end_at c.args.cell 0 reaches)) same
    ∙ table.answers c.args.cell
