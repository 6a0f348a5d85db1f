use Rattle.std.proofs.Common.{subst, drop}
use Rattle.std.proofs.lemmas.List.{drop_all}
use Rattle.kat_syntax.specs.RunTables.{FindsPositions, params_declared}
use Rattle.kat_syntax.proofs.TableSteps.{each_next, each_found}
use Rattle.kat_syntax.proofs.run_tables.param_tables.Goals as goal

pub loop-decl-preserved : goal.loop-decl-preserved
loop-decl-preserved c =
    rw c.in_ok-push.ensures.ok (each_next params_declared c.args.decls.now c.loop-decl.decl-index
    c.decl-item.result c.loop-decl.tables c.in_ok-table.table c.loop-decl.invariant
    c.loop-decl-test.true c.decl-item.is
    (subst (λ one. FindsPositions (params_declared one) c.in_ok-table.table) c.form.ensures.form
    c.in_ok-table.ensures))

pub returns : goal.returns
returns c =
    each_found params_declared (drop c.loop-decl.decl-index c.args.decls.now) c.args.decls.now
    c.loop-decl.tables c.loop-decl.invariant
    (drop_all c.loop-decl.decl-index c.args.decls.now c.loop-decl-test.false)
