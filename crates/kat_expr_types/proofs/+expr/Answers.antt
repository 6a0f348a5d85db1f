-- Each arm by its layer, and each loop by one argument more.
use Rattle.std.proofs.Common.{arith, refl, sym, ap, ◌∙◌, ◌≡◌, ◌+◌, ◌<◌, ◌≤◌, Some, length, map}
use Rattle.std.specs.Prelude.{is_some}
use Rattle.std.specs.Option.{option_copied, option_flatten}
use Rattle.kat_value.specs.declared.types.Ty.TheVariants as ty
use Rattle.kat_ast.specs.declared.expr.Expr.TheVariants as expr
use Rattle.kat_ast.specs.declared.expr.Expr.TheOpen.{Make, Rec, Apply, Get}
use Rattle.kat_ast.specs.declared.expr.Expr.TheViews.{outs-Make, outs-Rec, outs-Apply, outs-Get}
use Rattle.kat_ast.specs.Expressions.{trees_of_expr, trees_of_exprs}
use Rattle.kat_syntax.specs.declared.type_rule.TypeRule.TheVariants.{NameUnknown}
use Rattle.kat_syntax.specs.TypeRules.{least_with, unless}
use Rattle.kat_syntax.specs.Around.{CtorSeen}
use Rattle.kat_syntax.specs.TypesWritten.{local_type}
use Rattle.kat_syntax.specs.TypingExpressions.{wanting, given_faults, field_fault, known_types}
use Rattle.kat_expr_types.specs.Judging.{standing_of, known_here}
use Rattle.kat_expr_types.specs.Scopes.{scope_of}
use Rattle.kat_expr_types.specs.Operands.{wanted_types}
use Rattle.kat_expr_types.proofs.Noting.{trees_known}
use Rattle.kat_expr_types.proofs.Layers.{told_at}
use Rattle.kat_expr_types.proofs.Arms.{payload_of, union_of, fields_of, record_of, field_of, make_told, rec_told, get_told}
use Rattle.kat_expr_types.proofs.Loops.{arg_fits, all_placed, none_yet, next_arg, next_given, all_given, all_kept, all_taken, given_told, apply_told}
use Rattle.kat_expr_types.proofs.+expr.Goals as goal

pub args::judge_apply-loop-arg-init : goal.args::judge_apply-loop-arg-init
args::judge_apply-loop-arg-init t c =
    let s = c.args.setting.now in
    none_yet s.around.now (standing_of s.standing)
    (scope_of s.scope.now) c.as_slice-items.result.now
    (c.args.at + 2 + c.count_numbers.result) c.signature_of-signature.result c.none-types.result
    c.judge_stated_width.new.faults (c.none-types.ensures c.signature_of-signature.result)

pub args::judge_apply-overflow_add-next-in-loop-arg :
    goal.args::judge_apply-overflow_add-next-in-loop-arg
args::judge_apply-overflow_add-next-in-loop-arg t c =
    let s = c.args.setting.now in
    let within : c.loop-arg.arg-index < length c.as_slice-items.result.now = omega arith in
    let fits = arg_fits c.as_slice-items.result.now
    (c.args.at + 2 + c.count_numbers.result) c.loop-arg.arg-index c.loop-arg.next
    c.arg-item.result within c.arg-item.is c.loop-arg.invariant.place in
    let trees : c.judge_expr-known.result.trees ≡ trees_of_expr c.arg-item.result =
    c.judge_expr-known.ensures.trees
    ∙ trees_known s.around.now (standing_of s.standing)
    (scope_of s.scope.now) c.arg-item.result in
    let same = ap trees_of_exprs c.as_slice-items.ensures in
    omega arith

pub args::judge_apply-loop-arg-preserved : goal.args::judge_apply-loop-arg-preserved
args::judge_apply-loop-arg-preserved t c =
    let s = c.args.setting.now in
    next_arg s.around.now (standing_of s.standing)
    (scope_of s.scope.now) c.as_slice-items.result.now
    (c.args.at + 2 + c.count_numbers.result) c.loop-arg.arg-index c.loop-arg.next
    c.arg-item.result (omega arith) c.arg-item.is
    c.judge_expr-known.result c.loop-arg.faults c.judge_expr-known.new.faults
    c.judge_expr-known.ensures c.loop-arg.invariant.place
    (c.loop-arg.next + c.judge_expr-known.result.trees) refl
    c.signature_of-signature.result c.loop-arg.types c.with-types.result c.takes-is_taken.result
    c.judge_stated_width.new.faults c.unless.new.self c.loop-arg.invariant
    c.takes-is_taken.ensures c.unless.ensures c.with-types.ensures

pub args::judge_apply-returns : goal.args::judge_apply-returns
args::judge_apply-returns t c =
    let s = c.args.setting.now in
    let around = s.around.now in
    let standing = standing_of s.standing in
    let scope = scope_of s.scope.now in
    let items = c.as_slice-items.result.now in
    let op = c.args.op in
    let first = c.args.at + 2 + c.count_numbers.result in
    let i = c.loop-arg.arg-index in
    let next = c.loop-arg.next in
    let signature = c.signature_of-signature.result in
    let types = c.loop-arg.types in
    let stated = c.judge_stated_width.new.faults in
    let behind : length items ≤ i = omega arith in
    let kept = all_kept around standing scope items first i next behind signature types stated
    c.loop-arg.faults c.loop-arg.invariant in
    let parts = known_types (map (known_here s) items) in
    told_at around standing scope (expr.Apply op c.args.args.now)
    (Apply op items) c.args.at c.new.result c.args.faults.now c.unless-2.new.self
    (outs-Apply op c.args.args.now ∙ ap (Apply op) (sym c.as_slice-items.ensures))
    (apply_told around standing scope items first op c.args.at next signature types
    c.first-first.result.now c.widths_fit.result c.width_rule.result
    c.given.result c.new.result c.args.faults.now stated c.loop-arg.faults c.unless-2.new.self
    c.signature_of-signature.ensures (ap (λ n. c.args.at + 2 + n) c.count_numbers.ensures)
    (all_placed items first i next behind c.loop-arg.invariant.place)
    c.judge_stated_width.ensures
    (all_taken around standing scope items first i next behind signature types stated
    c.loop-arg.faults c.loop-arg.invariant)
    (c.first-first.ensures signature parts kept) c.widths_fit.ensures c.width_rule.ensures
    c.unless-2.ensures
    (c.given.ensures parts kept) c.new.ensures)

pub args::judge_given-overflow_add-next-in-loop-index :
    goal.args::judge_given-overflow_add-next-in-loop-index
args::judge_given-overflow_add-next-in-loop-index t c =
    let s = c.args.setting.now in
    let within : c.loop-index.index < length c.as_slice-items.result.now = omega arith in
    let fits = arg_fits c.as_slice-items.result.now
    (c.args.at + 3) c.loop-index.index c.loop-index.next
    c.index-items-index.result within c.index-items-index.is c.loop-index.invariant.place in
    let trees : c.judge_expr-known.result.trees ≡ trees_of_expr c.index-items-index.result =
    c.judge_expr-known.ensures.trees
    ∙ trees_known s.around.now (standing_of s.standing)
    (scope_of s.scope.now) c.index-items-index.result in
    let same = ap trees_of_exprs c.as_slice-items.ensures in
    omega arith

pub args::judge_given-loop-index-preserved : goal.args::judge_given-loop-index-preserved
args::judge_given-loop-index-preserved t c =
    let s = c.args.setting.now in
    next_given s.around.now (standing_of s.standing)
    (scope_of s.scope.now) c.as_slice-items.result.now
    (c.args.at + 3) c.loop-index.index c.loop-index.next c.index-items-index.result
    (omega arith) c.index-items-index.is
    c.judge_expr-known.result c.loop-index.faults c.judge_expr-known.new.faults
    c.judge_expr-known.ensures c.loop-index.invariant.place
    (c.loop-index.next + c.judge_expr-known.result.trees) refl
    (wanted_types (option_copied c.args.wanted)) c.wanted_at.result c.judge_count.new.faults
    c.judge_wanting.new.faults
    c.loop-index.invariant.faults c.wanted_at.ensures c.judge_wanting.ensures

pub args::judge_given-returns-clause-faults : goal.args::judge_given-returns-clause-faults
args::judge_given-returns-clause-faults t c =
    let s = c.args.setting.now in
    let around = s.around.now in
    let standing = standing_of s.standing in
    let scope = scope_of s.scope.now in
    let items = c.as_slice-items.result.now in
    let wanted = option_copied c.args.wanted in
    let behind : length items ≤ c.loop-index.index = omega arith in
    given_told around standing scope items
    (c.args.at + 3) wanted c.args.at c.len.result c.args.args.now
    c.args.faults.now c.judge_count.new.faults c.loop-index.faults c.as_slice-items.ensures
    c.len.ensures c.judge_count.ensures
    (all_given around standing scope items
    (c.args.at + 3) c.loop-index.index c.loop-index.next behind (wanted_types wanted)
    c.judge_count.new.faults c.loop-index.faults c.loop-index.invariant)

pub expr::judge_get-overflow_add-known : goal.expr::judge_get-overflow_add-known
expr::judge_get-overflow_add-known t c =
    let s = c.args.setting.now in
    let trees : c.judge_expr-known.result.trees ≡ trees_of_expr c.args.value.now =
    c.judge_expr-known.ensures.trees
    ∙ trees_known s.around.now (standing_of s.standing)
    (scope_of s.scope.now) c.args.value.now in
    omega arith

pub expr::judge_get-overflow_add-known-in-None : goal.expr::judge_get-overflow_add-known-in-None
expr::judge_get-overflow_add-known-in-None t c =
    let s = c.args.setting.now in
    let trees : c.judge_expr-known-in-None.result.trees ≡ trees_of_expr c.args.value.now =
    c.judge_expr-known-in-None.ensures.trees
    ∙ trees_known s.around.now (standing_of s.standing)
    (scope_of s.scope.now) c.args.value.now in
    omega arith

pub expr::judge_get-returns-in-Some : goal.expr::judge_get-returns-in-Some
expr::judge_get-returns-in-Some t c =
    let s = c.args.setting.now in
    let around = s.around.now in
    let standing = standing_of s.standing in
    let scope = scope_of s.scope.now in
    let at = c.args.at in
    let r = c.args.of.now in
    let f = c.args.field.now in
    let e = c.args.value.now in
    let found = c.record_called-found.result in
    let first = c.judge_type_name.new.faults in
    let third = c.judge_expr-known.new.faults in
    let part = c.judge_expr-known.result in
    let field = c.type_of-ty.ensures ∙ ap (λ fields. local_type fields f) c.fields.ensures in
    told_at around standing scope (expr.Get r f e)
    (Get r f e) at c.new.result c.args.faults.now c.judge_wanting.new.faults (outs-Get r f e)
    (get_told around standing scope r f e at found c.is_some.result part c.new.result
    c.args.faults.now first c.judge_known.new.faults third c.judge_wanting.new.faults
    c.is_some.ensures c.record_called-found.ensures c.judge_type_name.ensures
    (c.judge_known.ensures
    ∙ ap (λ b. least_with first (unless b (at + 3) NameUnknown)) (c.is_some-in-Some.ensures
    ∙ ap is_some field)
    ∙ sym (ap (λ seen. least_with first (field_fault seen (at + 3) f)) c.in-Some.is))
    c.judge_expr-known.ensures
    (c.judge_wanting.ensures
    ∙ ap (λ type. least_with third (wanting type (at + 4) part.ty))
    (ap (λ of. Some (ty.Rec of)) c.of.ensures ∙ sym (ap record_of c.in-Some.is)))
    (c.new.ensures
    ∙ ap (λ type. record { trees = 4 + part.trees; ty = type }) (c.flatten.ensures
    ∙ ap option_flatten field ∙ sym (ap (field_of f) c.in-Some.is))))

pub expr::judge_get-returns-in-None : goal.expr::judge_get-returns-in-None
expr::judge_get-returns-in-None t c =
    let s = c.args.setting.now in
    let around = s.around.now in
    let standing = standing_of s.standing in
    let scope = scope_of s.scope.now in
    let at = c.args.at in
    let r = c.args.of.now in
    let f = c.args.field.now in
    let e = c.args.value.now in
    let found = c.record_called-found.result in
    let first = c.judge_type_name.new.faults in
    let third = c.judge_expr-known-in-None.new.faults in
    let part = c.judge_expr-known-in-None.result in
    told_at around standing scope (expr.Get r f e)
    (Get r f e) at c.new-in-None.result c.args.faults.now third (outs-Get r f e)
    (get_told around standing scope r f e at found c.is_some.result part c.new-in-None.result
    c.args.faults.now first first third third
    c.is_some.ensures c.record_called-found.ensures c.judge_type_name.ensures
    (sym (ap (λ seen. least_with first (field_fault seen (at + 3) f)) c.in-None.is))
    c.judge_expr-known-in-None.ensures
    (sym (ap (λ seen. least_with third (wanting (record_of seen) (at + 4) part.ty)) c.in-None.is))
    (c.new-in-None.ensures
    ∙ ap (λ type. record { trees = 4 + part.trees; ty = type })
    (sym (ap (field_of f) c.in-None.is))))

pub expr::judge_make-overflow_add-known : goal.expr::judge_make-overflow_add-known
expr::judge_make-overflow_add-known t c =
    let s = c.args.setting.now in
    let trees : c.judge_expr-known.result.trees ≡ trees_of_expr c.args.payload.now =
    c.judge_expr-known.ensures.trees
    ∙ trees_known s.around.now (standing_of s.standing)
    (scope_of s.scope.now) c.args.payload.now in
    omega arith

pub expr::judge_make-overflow_add-known-in-None : goal.expr::judge_make-overflow_add-known-in-None
expr::judge_make-overflow_add-known-in-None t c =
    let s = c.args.setting.now in
    let trees : c.judge_expr-known.result.trees ≡ trees_of_expr c.args.payload.now =
    c.judge_expr-known.ensures.trees
    ∙ trees_known s.around.now (standing_of s.standing)
    (scope_of s.scope.now) c.args.payload.now in
    omega arith

pub expr::judge_make-returns-in-Some : goal.expr::judge_make-returns-in-Some
expr::judge_make-returns-in-Some t c =
    let s = c.args.setting.now in
    let around = s.around.now in
    let standing = standing_of s.standing in
    let scope = scope_of s.scope.now in
    let at = c.args.at in
    let k = c.args.ctor.now in
    let e = c.args.payload.now in
    let second = c.judge_expr-known.new.faults in
    let part = c.judge_expr-known.result in
    told_at around standing scope (expr.Make k e)
    (Make k e) at c.new.result c.args.faults.now c.judge_wanting.new.faults (outs-Make k e)
    (make_told around standing scope k e at c.ctor-found.result c.is_some.result part c.new.result
    c.args.faults.now c.judge_known.new.faults second c.judge_wanting.new.faults
    c.is_some.ensures c.ctor-found.ensures c.judge_known.ensures c.judge_expr-known.ensures
    (c.judge_wanting.ensures
    ∙ ap (λ type. least_with second (wanting type (at + 3) part.ty))
    (ap (λ (seen : CtorSeen). seen.payload) c.seen.view_is ∙ sym (ap payload_of c.in-Some.is)))
    (c.new.ensures
    ∙ ap (λ type. record { trees = 3 + part.trees; ty = type })
    (ap (λ (seen : CtorSeen). Some (ty.Union seen.of)) c.seen.view_is
    ∙ sym (ap union_of c.in-Some.is))))

pub expr::judge_rec-returns-in-Some : goal.expr::judge_rec-returns-in-Some
expr::judge_rec-returns-in-Some t c =
    let s = c.args.setting.now in
    let around = s.around.now in
    let standing = standing_of s.standing in
    let scope = scope_of s.scope.now in
    let at = c.args.at in
    let r = c.args.of.now in
    let es = c.args.fields.now in
    let mid = c.judge_type_name.new.faults in
    let trees = c.judge_given-trees.result in
    told_at around standing scope (expr.Rec r es)
    (Rec r es) at c.new.result c.args.faults.now c.judge_given-trees.new.faults (outs-Rec r es)
    (rec_told around standing scope r es at c.record_called-found.result c.is_some.result trees
    c.new.result
    c.args.faults.now mid c.judge_given-trees.new.faults
    c.is_some.ensures c.record_called-found.ensures c.judge_type_name.ensures
    (c.judge_given-trees.ensures.faults
    ∙ ap (λ wanted. least_with mid (given_faults wanted at (map (known_here s) es)))
    (ap Some c.fields.ensures ∙ sym (ap fields_of c.in-Some.is)))
    c.judge_given-trees.ensures.trees
    (c.new.ensures
    ∙ ap (λ type. record { trees = trees; ty = type }) (ap (λ of. Some (ty.Rec of)) c.of.ensures
    ∙ sym (ap record_of c.in-Some.is))))

pub expr::judge_rec-returns-in-None : goal.expr::judge_rec-returns-in-None
expr::judge_rec-returns-in-None t c =
    let s = c.args.setting.now in
    let around = s.around.now in
    let standing = standing_of s.standing in
    let scope = scope_of s.scope.now in
    let at = c.args.at in
    let r = c.args.of.now in
    let es = c.args.fields.now in
    let mid = c.judge_type_name.new.faults in
    let trees = c.judge_given.result in
    told_at around standing scope (expr.Rec r es)
    (Rec r es) at c.new-in-None.result c.args.faults.now c.judge_given.new.faults
    (outs-Rec r es)
    (rec_told around standing scope r es at c.record_called-found.result c.is_some.result trees
    c.new-in-None.result
    c.args.faults.now mid c.judge_given.new.faults
    c.is_some.ensures c.record_called-found.ensures c.judge_type_name.ensures
    (c.judge_given.ensures.faults
    ∙ ap (λ wanted. least_with mid (given_faults wanted at (map (known_here s) es)))
    (sym (ap fields_of c.in-None.is)))
    c.judge_given.ensures.trees
    (c.new-in-None.ensures
    ∙ ap (λ type. record { trees = trees; ty = type }) (sym (ap record_of c.in-None.is))))
