use Rattle.kat_syntax.proofs.TableSteps.{one_function, no_function}
use Rattle.kat_syntax.proofs.run_tables.functions.Goals.{in-Fun+in_ok-add, in_default}
use Rattle.kat_syntax.proofs.run_tables.functions.Goals as goal

pub loop-number-preserved : goal.loop-number-preserved
loop-number-preserved c =
    elim c.match-form.branch [
      | in-Fun+in_ok-add w ↦ rw (w.named-is, w.in_ok-add.ensures) (one_function c.args.decls.now
          c.loop-number.number c.index-decls-number.result c.form.result.now w.in-Fun.name
          _ _ _ c.loop-number.named c.loop-number.invariant c.loop-number-test.true
          c.index-decls-number.is c.form.ensures.form w.in-Fun.is)
      | in_default w ↦ rw w.named-is (no_function c.args.decls.now c.loop-number.number
          c.index-decls-number.result c.form.result.now c.loop-number.named
          c.loop-number.invariant c.loop-number-test.true c.index-decls-number.is
          c.form.ensures.form w.in_default.not-Fun)
    ]
