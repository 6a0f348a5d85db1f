use Rattle.std.proofs.Common.{length, refl, subst}
use Rattle.std.specs.Prelude.{Ok}
use Rattle.kat_term.specs.Fresh.{fresh_within}
use Rattle.kat_term.specs.Growth.{AnswersFresh}
use Rattle.kat_term.proofs.FreshLaws.{grown_typed, grown_extends}
use Rattle.kat_term.proofs.world.World.grow.Goals as goal

pub returns-in-Ok-clause-typed : goal.returns-in-Ok-clause-typed
returns-in-Ok-clause-typed c =
    grown_typed c.args.types.now c.args.ty.now c.self.inside.vars c.fresh_value.new.vars c.in-Ok.term
    (subst (λ levels. AnswersFresh (Ok c.in-Ok.term) c.self.inside.vars c.fresh_value.new.vars
    (fresh_within c.args.types.now levels c.args.ty.now (length c.self.inside.vars))) c.len.ensures c.in-Ok.ensures.fresh)

pub returns-in-Ok-clause-extends : goal.returns-in-Ok-clause-extends
returns-in-Ok-clause-extends c =
    rw (← c.self.view_is) (grown_extends c.args.types.now c.args.ty.now
    (record { vars = c.self.inside.vars; formulas = c.self.inside.formulas })
    (record { vars = c.fresh_value.new.vars; formulas = c.self.inside.formulas }) c.in-Ok.term
    (subst (λ levels. AnswersFresh (Ok c.in-Ok.term) c.self.inside.vars c.fresh_value.new.vars
    (fresh_within c.args.types.now levels c.args.ty.now (length c.self.inside.vars))) c.len.ensures c.in-Ok.ensures.fresh) refl)
