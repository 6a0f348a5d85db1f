use Rattle.std.proofs.Common.{◌≡◌, ◌+◌, length, sym, ap, subst, ◌∙◌, arith, Some}
use Rattle.std.proofs.lemmas.Option.{slice_get-get_or}
use Rattle.std.specs.Prelude.{slice_get}
use Rattle.kat_ast.specs.Declarations.{trees_of_decl}
use Rattle.kat_typing.specs.Faults.{fault_at}
use Rattle.kat_typing.specs.Totals.{IsTotals}
use Rattle.kat_typing.proofs.FirstFault.{at_first, further, found, at_end}
use Rattle.kat_typing.proofs.first.first_of.Goals as goal

pub loop-number-init : goal.loop-number-init
loop-number-init c =
    at_first c.args.decls.now c.new-totals.result (c.new-totals.ensures c.args.decls.now)

pub judge_next-requires-clause-small : goal.judge_next-requires-clause-small
judge_next-requires-clause-small c =
    let decl = c.index-decls-number.result in
    let same = ap trees_of_decl c.form.ensures.form in
    let small = c.form.ensures.kept.small in
    omega (arith, same, small, c.places_are_of_the_tree.ensures.decl decl)

pub judge_next-requires-clause-here : goal.judge_next-requires-clause-here
judge_next-requires-clause-here c =
    let decls = c.args.decls.now in
    let k = c.loop-number.number in
    ap (λ all. slice_get all k) c.requires.tables
    ∙ slice_get-get_or decls k c.index-decls-number.result c.loop-number-test.true
    ∙ ap Some (sym (c.form.ensures.form ∙ c.index-decls-number.is))

pub judge_next-requires-clause-totals : goal.judge_next-requires-clause-totals
judge_next-requires-clause-totals c =
    let k = c.loop-number.number in
    subst (λ all. IsTotals (record { decls = all; number = k }) c.loop-number.totals)
    (sym c.requires.tables) c.loop-number.invariant.totals_are

pub loop-number-preserved : goal.loop-number-preserved
loop-number-preserved c =
    let decls = c.args.decls.now in
    let k = c.loop-number.number in
    further decls k c.index-decls-number.result c.loop-number.totals c.judge_next.new.totals
    c.loop-number.invariant c.loop-number-test.true c.index-decls-number.is
    (sym c.in_default.is ∙ c.in_ok-found.ensures.found
    ∙ ap (λ all. fault_at all k c.form.result.now) c.requires.tables
    ∙ ap (fault_at decls k) c.form.ensures.form)
    (subst (λ all. IsTotals (record { decls = all; number = k + 1 }) c.judge_next.new.totals)
    c.requires.tables c.in_ok-found.ensures.totals)

pub returns-in-Some : goal.returns-in-Some
returns-in-Some c =
    let decls = c.args.decls.now in
    let k = c.loop-number.number in
    found decls k c.index-decls-number.result c.loop-number.totals c.in-Some.fault
    c.loop-number.invariant c.loop-number-test.true c.index-decls-number.is
    (sym c.in-Some.is ∙ c.in_ok-found.ensures.found
    ∙ ap (λ all. fault_at all k c.form.result.now) c.requires.tables
    ∙ ap (fault_at decls k) c.form.ensures.form)

pub returns : goal.returns
returns c =
    let all : c.loop-number.number ≡ length c.args.decls.now = omega arith in
    at_end c.args.decls.now c.loop-number.number c.loop-number.totals c.missing.result
    c.loop-number.invariant all c.missing.ensures
