use Rattle.std.proofs.Common.{◌∙◌, ap}
use Rattle.kat_term.specs.declared.term.Term.TheOpen.{Apply, Make, Rec}
use Rattle.kat_known.specs.Bounds.{read_often}
use Rattle.kat_known.proofs.BoundsSteps.{bounds_at, literal_at}
use Rattle.kat_known.proofs.bounds.+bounds.Goals as goal

pub bounds_of-returns-in-Apply : goal.bounds_of-returns-in-Apply
bounds_of-returns-in-Apply t c =
    c.read_often.ensures ∙ ap (read_often c.args.term.now c.args.list.now)
    c.begins_with-start.ensures
    ∙ bounds_at c.args.vars.now c.args.list.now c.args.term.now
    (Apply c.in-Apply.op c.in-Apply.args.now) c.in-Apply.ensures.layer

pub bounds_of-returns-in-Lit : goal.bounds_of-returns-in-Lit
bounds_of-returns-in-Lit t c =
    c.literal_bounds.ensures ∙ literal_at c.args.vars.now c.args.list.now c.args.term.now
    c.in-Lit.value.now c.in-Lit.ensures.layer

pub bounds_of-returns-in-Make : goal.bounds_of-returns-in-Make
bounds_of-returns-in-Make t c =
    c.wide_bounds-in-Make.ensures
    ∙ bounds_at c.args.vars.now c.args.list.now c.args.term.now
    (Make c.in-Make.of c.in-Make.ctor c.in-Make.inner.now) c.in-Make.ensures.layer

pub bounds_of-returns-in-Rec : goal.bounds_of-returns-in-Rec
bounds_of-returns-in-Rec t c =
    c.wide_bounds-in-Rec.ensures
    ∙ bounds_at c.args.vars.now c.args.list.now c.args.term.now
    (Rec c.in-Rec.of c.in-Rec.fields.now) c.in-Rec.ensures.layer
