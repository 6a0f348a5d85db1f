use Rattle.kat_known.specs.Known.{known_atom}
use Rattle.kat_known.specs.Normal.{norm_in}
use Rattle.kat_known.specs.Picked.{picked}
use Rattle.kat_known.specs.Reduce.{news_of}
use Rattle.kat_known.proofs.ReduceSteps.{strict_begins, strict_fails, strict_goes_on}
use Rattle.kat_known.proofs.Search.{picks_some}
use Rattle.kat_known.proofs.ViewLaws.{that_none, that_some}
use Rattle.kat_known.proofs.reduce.reduced_strictly.Goals as goal

pub loop-left-init : goal.loop-left-init
loop-left-init c =
    let norm = norm_in c.args.world.now.vars in
    strict_begins (known_atom c.args.world.now.vars norm c.args.list.now) norm c.args.term

pub returns-in_default-2 : goal.returns-in_default-2
returns-in_default-2 c =
    let norm = norm_in c.args.world.now.vars in
    let known = known_atom c.args.world.now.vars norm c.args.list.now in
    strict_fails known norm c.args.term c.loop-left.left c.loop-left.current c.in-Some.new
    c.loop-left.invariant c.loop-left-test.true
    (picks_some known c.in_ok-new.field-0 c.replaced.new.skip
    (picked (news_of known c.loop-left.current) 0) c.in-Some.new c.in_ok-new.ensures c.in-Some.is)
    (that_none c.in_ok-normal.field-0 (norm c.in-Some.new) c.in_ok-normal.ensures c.in_default-2.is)

pub loop-left-preserved : goal.loop-left-preserved
loop-left-preserved c =
    let norm = norm_in c.args.world.now.vars in
    let known = known_atom c.args.world.now.vars norm c.args.list.now in
    strict_goes_on known norm c.args.term c.loop-left.left c.loop-left.current c.in-Some.new
    c.in-Some-2.normal c.loop-left.invariant c.loop-left-test.true
    (picks_some known c.in_ok-new.field-0 c.replaced.new.skip
    (picked (news_of known c.loop-left.current) 0) c.in-Some.new c.in_ok-new.ensures c.in-Some.is)
    (that_some c.in_ok-normal.field-0 (norm c.in-Some.new) c.in-Some-2.normal
    c.in_ok-normal.ensures c.in-Some-2.is)
