use Rattle.kat_top.proofs.Written.{gives_all}
use Rattle.kat_top.proofs.say.say.Goals as goal

pub returns-in-Ok : goal.returns-in-Ok
returns-in-Ok g c = gives_all c.args.status c.args.text.now _ _ c.requires c.in-Ok.ensures.seen
