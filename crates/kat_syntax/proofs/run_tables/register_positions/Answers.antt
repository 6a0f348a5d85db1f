use Rattle.std.proofs.Common.{ap, drop}
use Rattle.std.proofs.lemmas.List.{drop_all}
use Rattle.kat_syntax.specs.Tables.{register_names}
use Rattle.kat_syntax.proofs.Positions.{first_from, finds_positions}
use Rattle.kat_syntax.proofs.TableSteps.{one_register, no_register}
use Rattle.kat_syntax.proofs.run_tables.register_positions.Goals.{in-Register+in_ok-add, in_default}
use Rattle.kat_syntax.proofs.run_tables.register_positions.Goals as goal

pub loop-decl-preserved : goal.loop-decl-preserved
loop-decl-preserved c =
    elim c.match-form.branch [
      | in-Register+in_ok-add w ↦ rw (w.named-is, w.position-is, w.in_ok-add.ensures)
          (one_register c.args.decls.now c.loop-decl.decl-index c.loop-decl.position
          c.decl-item.result c.form.result.now w.in-Register.name _ _ c.loop-decl.named
          c.loop-decl.invariant c.loop-decl-test.true c.decl-item.is c.form.ensures.form
          w.in-Register.is)
      | in_default w ↦ rw (w.named-is, w.position-is) (no_register c.args.decls.now
          c.loop-decl.decl-index c.loop-decl.position c.decl-item.result c.form.result.now
          c.loop-decl.named c.loop-decl.invariant c.loop-decl-test.true c.decl-item.is
          c.form.ensures.form w.in_default.not-Register)
    ]

pub returns : goal.returns
returns c =
    let decls = c.args.decls.now in
    let k = c.loop-decl.decl-index in
    finds_positions (register_names decls) c.loop-decl.named
    (first_from c.loop-decl.position (register_names (drop k decls))) c.loop-decl.invariant.finds
    (λ x. ap (λ ds. first_from c.loop-decl.position (register_names ds) x)
    (drop_all k decls c.loop-decl-test.false))
