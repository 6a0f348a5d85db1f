use Rattle.std.proofs.lemmas.List.{drop_all}
use Rattle.std.proofs.Common.{drop}
use Rattle.kat_syntax.proofs.TableSteps.{one_ctor, whole_union}
use Rattle.kat_syntax.proofs.run_tables.add_ctors.Goals as goal

pub loop-at-preserved : goal.loop-at-preserved
loop-at-preserved c =
    rw c.in_ok-add.ensures (one_ctor c.args.named.now c.args.of c.args.ctors.now c.loop-at.at
    c.loop-at.named c.index-ctors-at.result c.loop-at.invariant c.loop-at-test.true
    c.index-ctors-at.is)

pub returns : goal.returns
returns c =
    whole_union c.args.named.now c.args.of c.args.ctors.now (drop c.loop-at.at c.args.ctors.now)
    c.loop-at.at c.loop-at.named c.loop-at.invariant
    (drop_all c.loop-at.at c.args.ctors.now c.loop-at-test.false)
