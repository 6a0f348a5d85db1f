use Rattle.kat_term.proofs.GrowthLaws.{narrowed}
use Rattle.kat_term.proofs.world.World.assume.Goals as goal

pub returns-clause-fits : goal.returns-clause-fits
returns-clause-fits c =
    rw (← c.self.view_is) (narrowed (record { vars = c.self.inside.vars; formulas = c.self.inside.formulas })
    c.args.formula c.push.new.self c.in_ok-push.ensures.ok)
