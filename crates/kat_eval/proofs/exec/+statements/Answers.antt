-- Each end of a statement is the meaning's, by its parts; the parts have fewer trees, and a call
-- spends more than any statement has.
use Rattle.std.proofs.Common.{◌≡◌, ◌∙◌, ◌-◌, ◌+◌, ◌<◌, ◌≤◌, suc, ◌∷◌, length, take, slice_get, get_or, length-take, true, false, Some, None, refl, ap, sym, subst, arith}
use Rattle.std.specs.Option.{option_map}
use Rattle.std.proofs.lemmas.List.{drop_all}
use Rattle.std.proofs.lemmas.Option.{slice_get_within}
use Rattle.kat_value.specs.declared.value.Value.{out-Value}
use Rattle.kat_ast.specs.declared.stm.Stm.TheOpen.{Ret, Read, Write, Load, Store, Check}
use Rattle.kat_ast.specs.declared.stm.Stm.TheVariants.{Call}
use Rattle.kat_ast.specs.declared.stm.Stm.TheViews.{out-Stm, outs-Ret, outs-Read, outs-Write, outs-Load, outs-Store, outs-Check}
use Rattle.kat_ast.specs.Expressions.{trees_of_expr}
use Rattle.kat_ast.specs.Statements.{trees_of_stm, trees_of_stms, trees_of_case_arms, trees_of_match_arms}
use Rattle.kat_ast.specs.Limits.{decl_trees_bound}
use Rattle.kat_syntax.specs.Tables.{function_from}
use Rattle.kat_syntax.specs.TypeTable.{types_of_decls}
use Rattle.kat_syntax.specs.Evaluation.{value_of_expr, values_of_exprs}
use Rattle.kat_syntax.specs.Functions.{IsFunctionSeen}
use Rattle.kat_syntax.specs.Meaning.{plainly, truth_for, member_of_layer, made_of_layer}
use Rattle.kat_eval.specs.Arms.{case_from, match_from, made_seen}
use Rattle.kat_eval.specs.Locals.{locals_of}
use Rattle.kat_eval.specs.Running.{progress_of, IsBelow}
use Rattle.kat_eval.specs.declared.running.StmEnd.TheVariants.{Done, Out, Fail, Stuck}
use Rattle.kat_eval.proofs.Parts.{run_as, inside_as, out_inside, stuck_inside, not_done_of, below_at, has_trees, let_trees, if_trees, let_done, let_stopped, if_first, if_second, result_of_act, result_of_any_act}
use Rattle.kat_eval.proofs.Calls.{callable_of, seen_called, call_ran}
use Rattle.kat_eval.proofs.Sequences.{SoFar, seq_trees, part_here, goes_on, stops, ends}
use Rattle.kat_eval.proofs.ArmsTaken.{case_trees, match_trees}
use Rattle.kat_eval.proofs.Chosen.{case_armless, case_ran, match_armless, match_ran}
use Rattle.kat_eval.proofs.exec.+statements.Goals as goal

pub exec-bind-requires : goal.exec-bind-requires
exec-bind-requires t c =
    let is = ap trees_of_stm c.in-Let.is in
    (omega (arith, c.decreases, is), omega (arith, c.requires, is))

pub exec-sequence-requires : goal.exec-sequence-requires
exec-sequence-requires t c =
    let is = ap trees_of_stm c.in-Seq.is in
    (omega (arith, c.decreases, is), omega (arith, c.requires, is))

pub exec-branch-alloc-requires : goal.exec-branch-alloc-requires
exec-branch-alloc-requires t c =
    let is = ap trees_of_stm c.in-If.is in
    (omega (arith, c.decreases, is), omega (arith, c.requires, is))

pub exec-case-requires : goal.exec-case-requires
exec-case-requires t c =
    let is = ap trees_of_stm c.in-Case.is in
    (omega (arith, c.decreases, is), omega (arith, c.requires, is))

pub exec-matched-requires : goal.exec-matched-requires
exec-matched-requires t c =
    let is = ap trees_of_stm c.in-Match.is in
    (omega (arith, c.decreases, is), omega (arith, c.requires, is))

pub exec-call-requires : goal.exec-call-requires
exec-call-requires t c =
    let is = ap trees_of_stm c.in-Call.is in
    (omega (arith, c.decreases, is), omega (arith, c.requires, is))

pub exec-returns-in-Ret : goal.exec-returns-in-Ret
exec-returns-in-Ret t c =
    result_of_act c.args.checked.now c.args.stm.now (Ret c.in-Ret.value) (Ret c.in-Ret.value)
    (locals_of c.args.locals.now) c.args.running.now c.args.running.now _ c.give.result
    (ap out-Stm c.in-Ret.is ∙ outs-Ret c.in-Ret.value) (λ calls. refl) c.give.ensures

pub exec-returns-in-Read : goal.exec-returns-in-Read
exec-returns-in-Read t c =
    result_of_any_act c.args.checked.now c.args.stm.now (Read c.in-Read.register) (Read c.in-Read.register)
    (locals_of c.args.locals.now) c.args.running.now c.args.running.now _ c.read.result
    (ap out-Stm c.in-Read.is ∙ outs-Read c.in-Read.register) (λ calls. refl) c.read.ensures

pub exec-returns-in-Write : goal.exec-returns-in-Write
exec-returns-in-Write t c =
    result_of_act c.args.checked.now c.args.stm.now (Write c.in-Write.register c.in-Write.value) (Write c.in-Write.register c.in-Write.value)
    (locals_of c.args.locals.now) c.args.running.now c.write.new.running _ c.write.result
    (ap out-Stm c.in-Write.is ∙ outs-Write c.in-Write.register c.in-Write.value) (λ calls. refl) c.write.ensures

pub exec-returns-in-Load : goal.exec-returns-in-Load
exec-returns-in-Load t c =
    result_of_act c.args.checked.now c.args.stm.now (Load c.in-Load.index) (Load c.in-Load.index)
    (locals_of c.args.locals.now) c.args.running.now c.args.running.now _ c.load.result
    (ap out-Stm c.in-Load.is ∙ outs-Load c.in-Load.index) (λ calls. refl) c.load.ensures

pub exec-returns-in-Store : goal.exec-returns-in-Store
exec-returns-in-Store t c =
    result_of_act c.args.checked.now c.args.stm.now (Store c.in-Store.index c.in-Store.value) (Store c.in-Store.index c.in-Store.value)
    (locals_of c.args.locals.now) c.args.running.now c.store.new.running _ c.store.result
    (ap out-Stm c.in-Store.is ∙ outs-Store c.in-Store.index c.in-Store.value) (λ calls. refl) c.store.ensures

pub exec-returns-in-Check : goal.exec-returns-in-Check
exec-returns-in-Check t c =
    result_of_act c.args.checked.now c.args.stm.now (Check c.in-Check.test) (Check c.in-Check.test)
    (locals_of c.args.locals.now) c.args.running.now c.args.running.now _ c.check.result
    (ap out-Stm c.in-Check.is ∙ outs-Check c.in-Check.test) (λ calls. refl) c.check.ensures

pub bind-exec-requires : goal.bind-exec-requires
bind-exec-requires t c =
    let trees = let_trees c.args.name.now c.args.first.now c.args.then.now in
    let same = ap trees_of_stm c.get-first.ensures in
    (omega (arith, c.decreases, trees, same), omega (arith, c.requires, trees, same))

pub bind-exec-requires-in-Done : goal.bind-exec-requires-in-Done
bind-exec-requires-in-Done t c =
    let trees = let_trees c.args.name.now c.args.first.now c.args.then.now in
    let same = ap trees_of_stm c.get.ensures in
    let fewer : c.exec.new.running.left ≤ c.args.running.now.left = c.in_ok-value.ensures.left in
    (omega (arith, c.decreases, trees, same, fewer), omega (arith, c.requires, trees, same))

pub bind-returns-in_ok-end-in-Done : goal.bind-returns-in_ok-end-in-Done
bind-returns-in_ok-end-in-Done t c =
    let spec = c.args.checked.now in
    let locals = locals_of c.args.locals.now in
    let a = c.args.first.now in
    let b = c.args.then.now in
    let x = c.args.name.now in
    let_done c.statements_do_their_parts.ensures spec locals c.args.running.now x a b c.in-Done.value
    c.exec.new.running c.exec-in-Done.new.running c.in_ok-end-in-Done.end c.behind_first.result
    (run_as spec a c.get-first.result.now locals locals c.args.running.now c.exec.new.running
    (Done c.in-Done.value) c.in_ok-value.field-0 c.get-first.ensures refl c.in-Done.is c.in_ok-value.ensures)
    (run_as spec b c.get.result.now ((x, c.in-Done.value) ∷ locals) (locals_of c.with-inner.result)
    c.exec.new.running c.exec-in-Done.new.running c.in_ok-end-in-Done.end c.in_ok-end-in-Done.end
    c.get.ensures c.with-inner.ensures refl c.in_ok-end-in-Done.ensures)
    (inside_as (3 + trees_of_stm a) (3 + trees_of_stm c.get-first.result.now)
    c.in_ok-end-in-Done.end c.behind_first.result (ap (λ s. 3 + trees_of_stm s) c.get-first.ensures)
    c.behind_first.ensures)

pub bind-returns-in-Out : goal.bind-returns-in-Out
bind-returns-in-Out t c =
    let spec = c.args.checked.now in
    let locals = locals_of c.args.locals.now in
    let_stopped c.statements_do_their_parts.ensures spec locals c.args.running.now
    c.args.name.now c.args.first.now c.args.then.now c.exec.new.running Out Out
    (run_as spec c.args.first.now c.get-first.result.now locals locals c.args.running.now c.exec.new.running
    Out c.in_ok-value.field-0 c.get-first.ensures refl c.in-Out.is c.in_ok-value.ensures)
    tt (out_inside 3)

pub bind-returns-in-Stuck : goal.bind-returns-in-Stuck
bind-returns-in-Stuck t c =
    let spec = c.args.checked.now in
    let locals = locals_of c.args.locals.now in
    let_stopped c.statements_do_their_parts.ensures spec locals c.args.running.now
    c.args.name.now c.args.first.now c.args.then.now c.exec.new.running Stuck Stuck
    (run_as spec c.args.first.now c.get-first.result.now locals locals c.args.running.now c.exec.new.running
    Stuck c.in_ok-value.field-0 c.get-first.ensures refl c.in-Stuck.is c.in_ok-value.ensures)
    tt (stuck_inside 3)

pub bind-returns-in-Fail : goal.bind-returns-in-Fail
bind-returns-in-Fail t c =
    let spec = c.args.checked.now in
    let locals = locals_of c.args.locals.now in
    let_stopped c.statements_do_their_parts.ensures spec locals c.args.running.now
    c.args.name.now c.args.first.now c.args.then.now c.exec.new.running (Fail c.in-Fail.site) c.inside.result
    (run_as spec c.args.first.now c.get-first.result.now locals locals c.args.running.now c.exec.new.running
    (Fail c.in-Fail.site) c.in_ok-value.field-0 c.get-first.ensures refl c.in-Fail.is c.in_ok-value.ensures)
    tt (record { outcome = c.inside.ensures.outcome; within = c.inside.ensures.within })

pub branch-exec-requires : goal.branch-exec-requires
branch-exec-requires t c =
    let trees = if_trees c.args.test.now c.args.then.now c.args.otherwise.now in
    let same = ap trees_of_stm c.get.ensures in
    (omega (arith, c.decreases, trees, same), omega (arith, c.requires, trees, same))

pub branch-exec-requires-in-Some-false : goal.branch-exec-requires-in-Some-false
branch-exec-requires-in-Some-false t c =
    let trees = if_trees c.args.test.now c.args.then.now c.args.otherwise.now in
    let same = ap trees_of_stm c.get-in-Some-false.ensures in
    (omega (arith, c.decreases, trees, same), omega (arith, c.requires, trees, same))

pub branch-returns-in_ok-end-in-Some-true : goal.branch-returns-in_ok-end-in-Some-true
branch-returns-in_ok-end-in-Some-true t c =
    let spec = c.args.checked.now in
    let locals = locals_of c.args.locals.now in
    let truth : Some true ≡ truth_for spec.decls locals c.args.test.now =
    sym (c.in-Some-true.is ∙ ap (λ b. Some b) c.in-Some-true.field-0-test)
    ∙ c.in_ok-eval_truth.ensures in
    if_first c.statements_do_their_parts.ensures spec locals c.args.running.now
    c.args.test.now c.args.then.now c.args.otherwise.now c.exec.new.running
    c.in_ok-end-in-Some-true.end c.behind_test.result truth
    (run_as spec c.args.then.now c.get.result.now locals locals c.args.running.now c.exec.new.running
    c.in_ok-end-in-Some-true.end c.in_ok-end-in-Some-true.end c.get.ensures refl refl
    c.in_ok-end-in-Some-true.ensures)
    c.behind_test.ensures

pub branch-returns-in_ok-end-in-Some-false : goal.branch-returns-in_ok-end-in-Some-false
branch-returns-in_ok-end-in-Some-false t c =
    let spec = c.args.checked.now in
    let locals = locals_of c.args.locals.now in
    let truth : Some false ≡ truth_for spec.decls locals c.args.test.now =
    sym (c.in-Some-false.is ∙ ap (λ b. Some b) c.in-Some-false.field-0-test)
    ∙ c.in_ok-eval_truth.ensures in
    if_second c.statements_do_their_parts.ensures spec locals c.args.running.now
    c.args.test.now c.args.then.now c.args.otherwise.now c.exec-in-Some-false.new.running
    c.in_ok-end-in-Some-false.end c.behind_branch.result truth
    (run_as spec c.args.otherwise.now c.get-in-Some-false.result.now locals locals
    c.args.running.now c.exec-in-Some-false.new.running
    c.in_ok-end-in-Some-false.end c.in_ok-end-in-Some-false.end c.get-in-Some-false.ensures refl refl
    c.in_ok-end-in-Some-false.ensures)
    (inside_as (2 + trees_of_expr c.args.test.now + trees_of_stm c.args.then.now)
    (2 + trees_of_expr c.args.test.now + trees_of_stm c.get-in-Some-false-2.result.now)
    c.in_ok-end-in-Some-false.end c.behind_branch.result
    (ap (λ s. 2 + trees_of_expr c.args.test.now + trees_of_stm s) c.get-in-Some-false-2.ensures)
    c.behind_branch.ensures)

pub call-call_function-requires : goal.call-call_function-requires
call-call_function-requires t c = (
  omega (arith, c.decreases, has_trees (Call c.args.function.now c.args.args.now)),
  c.function-function.ensures.callable,
)

pub call-returns : goal.call-returns
call-returns t c =
    let spec = c.args.checked.now in
    let locals = locals_of c.args.locals.now in
    let f = c.args.function.now in
    let args = c.args.args.now in
    let values : Some c.in-Some.values ≡ values_of_exprs (plainly spec.decls locals) args =
    sym c.in-Some.is ∙ c.in_ok-values.ensures
    ∙ ap (values_of_exprs (plainly spec.decls locals)) c.as_slice.ensures in
    call_ran spec c.args.running.now locals f args c.in-Some.values c.call_function.new.running
    c.in_ok-end.end c.of_statement.result values
    (c.in_ok-end.ensures (function_from 0 spec.decls f) c.function-function.ensures.found)
    c.of_statement.ensures.outcome c.of_statement.ensures.within

pub call_function-exec-requires : goal.call_function-exec-requires
call_function-exec-requires t c =
    let callable = callable_of c.args.function c.in-Some.function c.in-Some.is c.requires in
    let some = c.if-running-eq0.false in
    (omega (arith, c.decreases, callable.small, some), omega (arith, callable.small))

pub call_function-returns : goal.call_function-returns
call_function-returns t c = λ found seen.
    let r = c.args.running.now in
    let left = r.left - 1 in
    let some = c.if-running-eq0.false in
    seen_called c.args.checked.now r left (omega (arith, some))
    (record { state = r.state; left = left; stores = r.stores }) refl
    c.in-Some.function found c.args.values c.in-Some-new.frame c.exec.new.running c.in_ok-end.end
    c.of_function.result (subst (λ o. IsFunctionSeen o found) c.in-Some.is seen)
    c.in-Some-new.ensures
    (run_as c.args.checked.now c.in-Some.function.body.now c.in-Some.function.body.now
    c.in-Some-new.frame (locals_of c.of-locals.result)
    (record { state = r.state; left = left; stores = r.stores }) c.exec.new.running
    c.in_ok-end.end c.in_ok-end.end refl c.of-locals.ensures refl c.in_ok-end.ensures)
    c.of_function.ensures

pub case-returns-in_default-case_arm : goal.case-returns-in_default-case_arm
case-returns-in_default-case_arm t c =
    let spec = c.args.checked.now in
    let locals = locals_of c.args.locals.now in
    let none : None ≡ case_from 0 c.args.arms.now c.in-Some-member_in.member.now =
    sym (ap (option_map (λ r. r.at)) c.in_default-case_arm.is) ∙ c.case_arm.ensures.found
    ∙ ap (λ arms. case_from 0 arms (c.in-Some-member_in.member.now)) c.as_slice.ensures in
    case_armless c.statements_do_their_parts.ensures spec locals c.args.running.now
    c.args.value.now c.args.arms.now c.in-Some.member_value c.types.result.now c.in-Some-member_in.member.now
    (sym c.in-Some.is ∙ c.in_ok-member_value.ensures) c.types.ensures c.in-Some-member_in.ensures none

pub case-exec-requires : goal.case-exec-requires
case-exec-requires t c =
    let there : slice_get c.args.arms.now c.in-Some-case_arm.found.at ≡ Some c.in-Some-case_arm.found.arm.now =
    sym (ap (λ arms. slice_get arms c.in-Some-case_arm.found.at) c.as_slice.ensures) ∙ c.in-Some-case_arm.ensures.there in
    let trees = case_trees c.args.value.now c.args.arms.now c.in-Some-case_arm.found.at c.in-Some-case_arm.found.arm.now there in
    (omega (arith, c.decreases, trees), omega (arith, c.requires, trees))

pub case-slice_bounds-in_case_arm-end : goal.case-slice_bounds-in_case_arm-end
case-slice_bounds-in_case_arm-end t c =
    let there : slice_get c.args.arms.now c.in-Some-case_arm.found.at ≡ Some c.in-Some-case_arm.found.arm.now =
    sym (ap (λ arms. slice_get arms c.in-Some-case_arm.found.at) c.as_slice.ensures) ∙ c.in-Some-case_arm.ensures.there in
    let within = slice_get_within c.args.arms.now c.in-Some-case_arm.found.at c.in-Some-case_arm.found.arm.now there in
    omega (arith, within, length-take c.in-Some-case_arm.found.at c.as_slice-2.result.now, ap length c.as_slice-2.ensures)

pub case-in_case_arm-requires : goal.case-in_case_arm-requires
case-in_case_arm-requires t c =
    let there : slice_get c.args.arms.now c.in-Some-case_arm.found.at ≡ Some c.in-Some-case_arm.found.arm.now =
    sym (ap (λ arms. slice_get arms c.in-Some-case_arm.found.at) c.as_slice.ensures) ∙ c.in-Some-case_arm.ensures.there in
    let trees = case_trees c.args.value.now c.args.arms.now c.in-Some-case_arm.found.at c.in-Some-case_arm.found.arm.now there in
    let before = ap (λ arms. trees_of_case_arms (take c.in-Some-case_arm.found.at arms)) c.as_slice-2.ensures in
    below_at 4294967296 (trees_of_stm c.in-Some-case_arm.found.arm.now.body)
    (4 + trees_of_expr c.args.value.now + trees_of_case_arms (take c.in-Some-case_arm.found.at c.as_slice-2.result.now))
    c.in_ok-end.end (omega (arith, c.requires, trees, before)) c.in_ok-end.ensures.within

pub case-returns : goal.case-returns
case-returns t c =
    let spec = c.args.checked.now in
    let locals = locals_of c.args.locals.now in
    let there : slice_get c.args.arms.now c.in-Some-case_arm.found.at ≡ Some c.in-Some-case_arm.found.arm.now =
    sym (ap (λ arms. slice_get arms c.in-Some-case_arm.found.at) c.as_slice.ensures) ∙ c.in-Some-case_arm.ensures.there in
    let found : Some c.in-Some-case_arm.found.at ≡ case_from 0 c.args.arms.now (c.in-Some-member_in.member.now) =
    c.in-Some-case_arm.ensures.found
    ∙ ap (λ arms. case_from 0 arms (c.in-Some-member_in.member.now)) c.as_slice.ensures in
    case_ran c.statements_do_their_parts.ensures spec locals c.args.running.now
    c.args.value.now c.args.arms.now c.in-Some.member_value c.types.result.now c.in-Some-member_in.member.now
    c.in-Some-case_arm.found.at c.in-Some-case_arm.found.arm.now c.exec.new.running c.in_ok-end.end c.in_case_arm.result
    (sym c.in-Some.is ∙ c.in_ok-member_value.ensures) c.types.ensures c.in-Some-member_in.ensures found there
    c.in_ok-end.ensures
    (inside_as (4 + trees_of_expr c.args.value.now + trees_of_case_arms (take c.in-Some-case_arm.found.at c.args.arms.now))
    (4 + trees_of_expr c.args.value.now + trees_of_case_arms (take c.in-Some-case_arm.found.at c.as_slice-2.result.now))
    c.in_ok-end.end c.in_case_arm.result
    (ap (λ arms. 4 + trees_of_expr c.args.value.now + trees_of_case_arms (take c.in-Some-case_arm.found.at arms)) c.as_slice-2.ensures)
    c.in_case_arm.ensures)

pub matched-returns-in_default-match_arm : goal.matched-returns-in_default-match_arm
matched-returns-in_default-match_arm t c =
    let spec = c.args.checked.now in
    let locals = locals_of c.args.locals.now in
    let none : None ≡ match_from 0 c.args.arms.now c.in-Some-made_in.made.ctor.now =
    sym (ap (option_map (λ r. r.at)) c.in_default-match_arm.is) ∙ c.match_arm.ensures.found
    ∙ ap (λ arms. match_from 0 arms (c.in-Some-made_in.made.ctor.now)) c.as_slice.ensures in
    match_armless c.statements_do_their_parts.ensures spec locals c.args.running.now
    c.args.value.now c.args.arms.now c.in-Some.made_value c.types.result.now (made_seen c.in-Some-made_in.made)
    (sym c.in-Some.is ∙ c.in_ok-made_value.ensures) c.types.ensures c.in-Some-made_in.ensures none

pub matched-exec-requires : goal.matched-exec-requires
matched-exec-requires t c =
    let there : slice_get c.args.arms.now c.in-Some-match_arm.found.at ≡ Some c.in-Some-match_arm.found.arm.now =
    sym (ap (λ arms. slice_get arms c.in-Some-match_arm.found.at) c.as_slice.ensures) ∙ c.in-Some-match_arm.ensures.there in
    let trees = match_trees c.args.value.now c.args.arms.now c.in-Some-match_arm.found.at c.in-Some-match_arm.found.arm.now there in
    (omega (arith, c.decreases, trees), omega (arith, c.requires, trees))

pub matched-slice_bounds-in_match_arm-end : goal.matched-slice_bounds-in_match_arm-end
matched-slice_bounds-in_match_arm-end t c =
    let there : slice_get c.args.arms.now c.in-Some-match_arm.found.at ≡ Some c.in-Some-match_arm.found.arm.now =
    sym (ap (λ arms. slice_get arms c.in-Some-match_arm.found.at) c.as_slice.ensures) ∙ c.in-Some-match_arm.ensures.there in
    let within = slice_get_within c.args.arms.now c.in-Some-match_arm.found.at c.in-Some-match_arm.found.arm.now there in
    omega (arith, within, length-take c.in-Some-match_arm.found.at c.as_slice-2.result.now, ap length c.as_slice-2.ensures)

pub matched-in_match_arm-requires : goal.matched-in_match_arm-requires
matched-in_match_arm-requires t c =
    let there : slice_get c.args.arms.now c.in-Some-match_arm.found.at ≡ Some c.in-Some-match_arm.found.arm.now =
    sym (ap (λ arms. slice_get arms c.in-Some-match_arm.found.at) c.as_slice.ensures) ∙ c.in-Some-match_arm.ensures.there in
    let trees = match_trees c.args.value.now c.args.arms.now c.in-Some-match_arm.found.at c.in-Some-match_arm.found.arm.now there in
    let before = ap (λ arms. trees_of_match_arms (take c.in-Some-match_arm.found.at arms)) c.as_slice-2.ensures in
    below_at 4294967296 (trees_of_stm c.in-Some-match_arm.found.arm.now.body)
    (5 + trees_of_expr c.args.value.now + trees_of_match_arms (take c.in-Some-match_arm.found.at c.as_slice-2.result.now))
    c.in_ok-end.end (omega (arith, c.requires, trees, before)) c.in_ok-end.ensures.within

pub matched-returns : goal.matched-returns
matched-returns t c =
    let spec = c.args.checked.now in
    let locals = locals_of c.args.locals.now in
    let there : slice_get c.args.arms.now c.in-Some-match_arm.found.at ≡ Some c.in-Some-match_arm.found.arm.now =
    sym (ap (λ arms. slice_get arms c.in-Some-match_arm.found.at) c.as_slice.ensures) ∙ c.in-Some-match_arm.ensures.there in
    let found : Some c.in-Some-match_arm.found.at ≡ match_from 0 c.args.arms.now (c.in-Some-made_in.made.ctor.now) =
    c.in-Some-match_arm.ensures.found
    ∙ ap (λ arms. match_from 0 arms (c.in-Some-made_in.made.ctor.now)) c.as_slice.ensures in
    match_ran c.statements_do_their_parts.ensures spec locals c.args.running.now
    c.args.value.now c.args.arms.now c.in-Some.made_value c.types.result.now (made_seen c.in-Some-made_in.made)
    c.in-Some-match_arm.found.at c.in-Some-match_arm.found.arm.now c.exec.new.running c.in_ok-end.end c.in_match_arm.result
    (sym c.in-Some.is ∙ c.in_ok-made_value.ensures) c.types.ensures c.in-Some-made_in.ensures found there
    (run_as spec c.in-Some-match_arm.found.arm.now.body c.in-Some-match_arm.found.arm.now.body
    ((c.in-Some-match_arm.found.arm.now.payload, c.in-Some-made_in.made.payload.now) ∷ locals) (locals_of c.with-inner.result)
    c.args.running.now c.exec.new.running c.in_ok-end.end c.in_ok-end.end
    refl c.with-inner.ensures refl c.in_ok-end.ensures)
    (inside_as (5 + trees_of_expr c.args.value.now + trees_of_match_arms (take c.in-Some-match_arm.found.at c.args.arms.now))
    (5 + trees_of_expr c.args.value.now + trees_of_match_arms (take c.in-Some-match_arm.found.at c.as_slice-2.result.now))
    c.in_ok-end.end c.in_match_arm.result
    (ap (λ arms. 5 + trees_of_expr c.args.value.now + trees_of_match_arms (take c.in-Some-match_arm.found.at arms)) c.as_slice-2.ensures)
    c.in_match_arm.ensures)

pub sequence-exec-requires : goal.sequence-exec-requires
sequence-exec-requires t c =
    let spec = c.args.checked.now in
    let locals = locals_of c.args.locals.now in
    let parts = c.args.parts.now in
    let items = c.as_slice-part-items.result.now in
    let same : items ≡ parts = c.as_slice-part-items.ensures in
    let k = c.loop-number.number in
    let s = c.part-item.result in
    let bound : k < length items = c.loop-number-test.true in
    let within : k < length parts = omega (arith, ap length same, bound) in
    let is : s ≡ get_or parts k s = c.part-item.is ∙ ap (λ is. get_or is k s) same in
    let trees = seq_trees parts k s within is in
    let fewer : c.loop-number.running.left ≤ c.args.running.now.left = c.loop-number.invariant.left in
    (omega (arith, c.decreases, trees, fewer), omega (arith, c.requires, trees))

pub sequence-in_sequence-requires : goal.sequence-in_sequence-requires
sequence-in_sequence-requires t c =
    let spec = c.args.checked.now in
    let locals = locals_of c.args.locals.now in
    let parts = c.args.parts.now in
    let items = c.as_slice-part-items.result.now in
    let same : items ≡ parts = c.as_slice-part-items.ensures in
    let k = c.loop-number.number in
    let s = c.part-item.result in
    let bound : k < length items = c.loop-number-test.true in
    let within : k < length parts = omega (arith, ap length same, bound) in
    let is : s ≡ get_or parts k s = c.part-item.is ∙ ap (λ is. get_or is k s) same in
    let trees = seq_trees parts k s within is in
    let before = ap (λ ps. trees_of_stms (take k ps)) c.as_slice.ensures in
    below_at 4294967296 (trees_of_stm s) (2 + trees_of_stms (take k c.as_slice.result.now))
    c.in_ok-end.end (omega (arith, c.requires, trees, before)) c.in_ok-end.ensures.within

pub sequence-returns-in_default : goal.sequence-returns-in_default
sequence-returns-in_default t c =
    let spec = c.args.checked.now in
    let locals = locals_of c.args.locals.now in
    let parts = c.args.parts.now in
    let items = c.as_slice-part-items.result.now in
    let same : items ≡ parts = c.as_slice-part-items.ensures in
    let k = c.loop-number.number in
    let s = c.part-item.result in
    let bound : k < length items = c.loop-number-test.true in
    let within : k < length parts = omega (arith, ap length same, bound) in
    let is : s ≡ get_or parts k s = c.part-item.is ∙ ap (λ is. get_or is k s) same in
    stops spec locals c.args.running.now parts c.statements_do_their_parts.ensures
    c.loop-number.last c.loop-number.running k c.loop-number.invariant s
    (part_here spec locals c.args.running.now parts items k s same bound c.part-item.is) within is
    c.in_ok-end.end c.in_sequence.result c.exec.new.running c.in_ok-end.ensures
    (not_done_of c.in_ok-end.end c.in_default.not-Done)
    (inside_as (2 + trees_of_stms (take k parts)) (2 + trees_of_stms (take k c.as_slice.result.now))
    c.in_ok-end.end c.in_sequence.result (ap (λ ps. 2 + trees_of_stms (take k ps)) c.as_slice.ensures)
    c.in_sequence.ensures)

pub sequence-loop-number-preserved : goal.sequence-loop-number-preserved
sequence-loop-number-preserved t c =
    let spec = c.args.checked.now in
    let locals = locals_of c.args.locals.now in
    let parts = c.args.parts.now in
    let items = c.as_slice-part-items.result.now in
    let same : items ≡ parts = c.as_slice-part-items.ensures in
    let k = c.loop-number.number in
    let s = c.part-item.result in
    let bound : k < length items = c.loop-number-test.true in
    let within : k < length parts = omega (arith, ap length same, bound) in
    let is : s ≡ get_or parts k s = c.part-item.is ∙ ap (λ is. get_or is k s) same in
    let next : suc k ≡ k + 1 = omega arith in
    subst (SoFar spec locals c.args.running.now parts (Done c.in-Done.value) c.exec.new.running) next
    (goes_on spec locals c.args.running.now parts c.statements_do_their_parts.ensures
    c.loop-number.last c.loop-number.running k c.loop-number.invariant s
    (part_here spec locals c.args.running.now parts items k s same bound c.part-item.is) within is
    c.in-Done.value c.exec.new.running
    (run_as spec s s locals locals c.loop-number.running c.exec.new.running
    (Done c.in-Done.value) c.in_ok-end.end refl refl c.in-Done.is c.in_ok-end.ensures))

pub sequence-returns : goal.sequence-returns
sequence-returns t c =
    let parts = c.args.parts.now in
    let past = c.loop-number-test.false in
    ends c.args.checked.now (locals_of c.args.locals.now) c.args.running.now parts
    c.loop-number.last c.loop-number.running c.loop-number.number c.loop-number.invariant
    (drop_all c.loop-number.number parts
    (omega (arith, past, ap length c.as_slice-part-items.ensures)))
