use Rattle.std.proofs.Common.{◌≡◌, ◌∙◌, Some, None, slice_get, sym}
use Rattle.kat_syntax.specs.Evaluation.{value_of_name}
use Rattle.kat_eval.proofs.Frames.{value_there}
use Rattle.kat_eval.proofs.locals.Frame.value.Goals as goal

pub returns-in-Some : goal.returns-in-Some
returns-in-Some c =
    let f = c.self.inside in
    let there : slice_get f.values c.in-Some.at ≡ value_of_name c.args.self.now c.args.name.now =
    value_there f.params.now f.values f.positions.now c.args.name.now c.self.invariant.finds
    c.args.self.now (sym c.self.view_is) (Some c.in-Some.at) (sym c.in-Some.is ∙ c.find.ensures) in
    cc

pub returns-in-None : goal.returns-in-None
returns-in-None c =
    let f = c.self.inside in
    value_there f.params.now f.values f.positions.now c.args.name.now c.self.invariant.finds
    c.args.self.now (sym c.self.view_is) None (sym c.in-None.is ∙ c.find.ensures)
