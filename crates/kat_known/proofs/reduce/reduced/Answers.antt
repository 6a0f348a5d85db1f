use Rattle.kat_known.specs.Known.{known_atom}
use Rattle.kat_known.specs.Normal.{norm_in}
use Rattle.kat_known.specs.Picked.{picked}
use Rattle.kat_known.specs.Reduce.{news_of}
use Rattle.kat_known.proofs.ReduceSteps.{begins, rests, next_so_far}
use Rattle.kat_known.proofs.Search.{picks_some, picks_none}
use Rattle.kat_known.proofs.reduce.reduced.Goals as goal

pub loop-left-init : goal.loop-left-init
loop-left-init c =
    let norm = norm_in c.args.world.now.vars in
    begins (known_atom c.args.world.now.vars norm c.args.list.now) norm c.args.term

pub returns-in_default : goal.returns-in_default
returns-in_default c =
    let norm = norm_in c.args.world.now.vars in
    let known = known_atom c.args.world.now.vars norm c.args.list.now in
    rests known norm c.args.term c.loop-left.left c.loop-left.current c.loop-left.passed
    c.replaced.new.skip c.loop-left.invariant
    (picks_none known c.in_ok-new.field-0 c.replaced.new.skip
    (picked (news_of known c.loop-left.current) c.loop-left.passed) c.in_ok-new.ensures
    c.in_default.is)

pub loop-left-preserved : goal.loop-left-preserved
loop-left-preserved c =
    let norm = norm_in c.args.world.now.vars in
    let known = known_atom c.args.world.now.vars norm c.args.list.now in
    next_so_far known norm c.args.term c.loop-left.left c.loop-left.current c.in-Some.new
    c.in_ok-current.current c.loop-left.passed c.next_of.new.passed
    c.loop-left.invariant c.loop-left-test.true
    (picks_some known c.in_ok-new.field-0 c.replaced.new.skip
    (picked (news_of known c.loop-left.current) c.loop-left.passed) c.in-Some.new
    c.in_ok-new.ensures c.in-Some.is)
    c.in_ok-current.ensures
