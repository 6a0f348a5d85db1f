use Rattle.std.proofs.Common.{drop, subst}
use Rattle.std.proofs.lemmas.List.{drop_all}
use Rattle.kat_syntax.specs.RunTables.{ArePartTables, parts_declared}
use Rattle.kat_syntax.proofs.TableSteps.{each_next, each_found}
use Rattle.kat_syntax.proofs.run_tables.part_tables.Goals as goal

pub loop-decl-preserved : goal.loop-decl-preserved
loop-decl-preserved c =
    rw c.in_ok-push.ensures.ok (each_next parts_declared c.as_slice-decl-items.result.now
    c.loop-decl.decl-index c.decl-item.result c.loop-decl.tables c.in_ok-table.table
    c.loop-decl.invariant c.loop-decl-test.true c.decl-item.is c.in_ok-table.ensures)

pub returns : goal.returns
returns c =
    let types = c.as_slice-decl-items.result.now in
    subst (λ ts. ArePartTables ts c.loop-decl.tables) c.as_slice-decl-items.ensures
    (each_found parts_declared (drop c.loop-decl.decl-index types) types c.loop-decl.tables
    c.loop-decl.invariant (drop_all c.loop-decl.decl-index types c.loop-decl-test.false))
