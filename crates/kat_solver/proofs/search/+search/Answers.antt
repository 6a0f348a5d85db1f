use Rattle.kat_known.specs.First.{first_among}
use Rattle.kat_known.specs.Normal.{norm_in}
use Rattle.kat_term.specs.declared.term.Term.TheVariants.{Apply, Rec}
use Rattle.kat_solver.specs.Sought.{test_of}
use Rattle.kat_solver.proofs.SearchSteps.{itself, within}
use Rattle.kat_solver.proofs.search.+search.Goals as goal

pub first_where-returns-then-branch : goal.first_where-returns-then-branch
first_where-returns-then-branch t c =
    let test = test_of c.args.world.now.vars (norm_in c.args.world.now.vars) c.args.sought in
    itself test (c.parts_are_found.ensures.parts test) c.args.term.now c.in_ok-copy_term.field-0
    c.in_ok-is_sought.field-0
    c.in_ok-copy_term.ensures c.in_ok-is_sought.ensures c.if-branch.true

pub first_where-returns-in-Apply : goal.first_where-returns-in-Apply
first_where-returns-in-Apply t c =
    let test = test_of c.args.world.now.vars (norm_in c.args.world.now.vars) c.args.sought in
    let parts = c.parts_are_found.ensures.parts test in
    within test parts c.first_among.result c.args.term.now
    (Apply c.in-Apply.op c.in-Apply.args.now) c.in_ok-is_sought.field-0
    (first_among test c.in-Apply.args.now)
    (parts.application c.in-Apply.op c.in-Apply.args.now) c.in-Apply.ensures.term
    c.in_ok-is_sought.ensures c.if-branch.false c.first_among.ensures

pub first_where-returns-in-Rec : goal.first_where-returns-in-Rec
first_where-returns-in-Rec t c =
    let test = test_of c.args.world.now.vars (norm_in c.args.world.now.vars) c.args.sought in
    let parts = c.parts_are_found.ensures.parts test in
    within test parts c.first_among-in-Rec.result c.args.term.now
    (Rec c.in-Rec.of c.in-Rec.fields.now) c.in_ok-is_sought.field-0
    (first_among test c.in-Rec.fields.now)
    (parts.fields c.in-Rec.of c.in-Rec.fields.now) c.in-Rec.ensures.term
    c.in_ok-is_sought.ensures c.if-branch.false c.first_among-in-Rec.ensures
