use Rattle.kat_mode.proofs.Flags.{more_turned, one_back, fewer}
use Rattle.kat_mode.proofs.unbound.Unbound.turn_back.Goals as goal

pub loop-self-smaller : goal.loop-self-smaller
loop-self-smaller c =
    fewer c.args.turns c.loop-self.self c.turn_last_back.new.self
    (more_turned c.args.turns c.len.result c.self.inside.turned c.loop-self.self
    c.loop-self-test.true c.len.ensures c.self.view_is)
    c.turn_last_back.ensures

pub loop-self-preserved : goal.loop-self-preserved
loop-self-preserved c =
    one_back c.args.turns c.args.self.now c.loop-self.self c.turn_last_back.new.self
    c.loop-self.invariant
    (more_turned c.args.turns c.len.result c.self.inside.turned c.loop-self.self
    c.loop-self-test.true c.len.ensures c.self.view_is)
    c.turn_last_back.ensures
