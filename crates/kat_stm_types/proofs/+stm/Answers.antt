-- Each form that holds statements, by what is told of its parts.
use Rattle.std.proofs.Common.{◌+◌, [], ◌∷◌, ap, sym, ◌∙◌, subst, arith, refl, drop}
use Rattle.std.proofs.lemmas.List.{drop_all}
use Rattle.kat_ast.specs.declared.stm.Stm.TheVariants as stm
use Rattle.kat_ast.specs.Statements.{trees_of_stm, trees_of_stms, trees_of_case_arms, trees_of_match_arms}
use Rattle.kat_syntax.specs.TypeRules.{least_with}
use Rattle.kat_syntax.specs.TypingStatements.{known_of_stm}
use Rattle.kat_expr_types.specs.Judging.{Tells}
use Rattle.kat_expr_types.specs.Scopes.{scope_of}
use Rattle.kat_stm_types.specs.Branches.{IsBranches}
use Rattle.kat_stm_types.specs.Judging.{payload_here}
use Rattle.kat_stm_types.proofs.Noting.{trees_here}
use Rattle.kat_stm_types.proofs.Statements.{plain_tells, plain_truth}
use Rattle.kat_stm_types.proofs.Counts.{trees-Let, trees-If, trees-Seq, trees-Case, trees-Match, seq_left, case_left, match_left, one_counted, two_branches}
use Rattle.kat_stm_types.proofs.Bodies.{SeqSoFar, trees_told, trees_of_known, let_told, own_trees, if_told, seq_begins, seq_goes_on, seq_told}
use Rattle.kat_stm_types.proofs.ArmsSeen.{ArmsSoFar, drop_next, arms_begin, arms_go_on, arms_branches, case_faults, case_types, match_faults, match_types, case_noted, case_trees, match_noted, match_trees, case_told, match_told, listed_case, listed_match}
use Rattle.kat_stm_types.proofs.+stm.Goals as goal

pub stm::judge_stm-judge_let-requires : goal.stm::judge_stm-judge_let-requires
stm::judge_stm-judge_let-requires t c = (
  omega (
    arith,
    c.decreases,
    trees-Let _ _ _ _ c.in-Let.is,
    ap trees_of_stm c.get.ensures,
    ap
        trees_of_stm c.get-in-Let.ensures,
  ),
  omega (
    arith,
    trees-Let _ _ _ _ c.in-Let.is,
    ap trees_of_stm c.get.ensures,
    ap trees_of_stm
        c.get-in-Let.ensures,
  ),
)

pub stm::judge_stm-judge_if-requires : goal.stm::judge_stm-judge_if-requires
stm::judge_stm-judge_if-requires t c = (
  omega (
    arith,
    c.decreases,
    trees-If _ _ _ _ c.in-If.is,
    ap trees_of_stm c.get-in-If.ensures,
    ap
        trees_of_stm c.get-in-If-2.ensures,
  ),
  omega (
    arith,
    trees-If _ _ _ _ c.in-If.is,
    ap trees_of_stm c.get-in-If.ensures,
    ap trees_of_stm
        c.get-in-If-2.ensures,
  ),
)

pub stm::judge_stm-judge_seq-requires : goal.stm::judge_stm-judge_seq-requires
stm::judge_stm-judge_seq-requires t c = (
  omega (arith, c.decreases, trees-Seq _ _ c.in-Seq.is),
  omega (arith, trees-Seq _ _ c.in-Seq.is),
)

pub stm::judge_stm-judge_case-requires : goal.stm::judge_stm-judge_case-requires
stm::judge_stm-judge_case-requires t c = (
  omega (arith, c.decreases, trees-Case _ _ _ c.in-Case.is),
  omega (arith, trees-Case _ _ _ c.in-Case.is),
)

pub stm::judge_stm-judge_match-requires : goal.stm::judge_stm-judge_match-requires
stm::judge_stm-judge_match-requires t c = (
  omega (arith, c.decreases, trees-Match _ _ _ c.in-Match.is),
  omega (arith, trees-Match _ _ _ c.in-Match.is),
)

pub stm::judge_let-overflow_add-at-4 : goal.stm::judge_let-overflow_add-at-4
stm::judge_let-overflow_add-at-4 t c =
    omega (
      arith,
      trees_told c.args.around.now c.args.first.now (scope_of c.args.scope.now) _ _ _ _
          c.judge_stm-value.ensures,
    )

pub stm::judge_let-judge_stm-known-requires : goal.stm::judge_let-judge_stm-known-requires
stm::judge_let-judge_stm-known-requires t c = (
  omega (arith, c.decreases),
  omega (
    arith,
    trees_told c.args.around.now c.args.first.now (scope_of c.args.scope.now) _ _ _ _
        c.judge_stm-value.ensures,
  ),
)

pub stm::judge_let-overflow_add-value : goal.stm::judge_let-overflow_add-value
stm::judge_let-overflow_add-value t c =
    omega (
      arith,
      trees_told c.args.around.now c.args.first.now (scope_of c.args.scope.now) _ _ _ _
          c.judge_stm-value.ensures,
    )

pub stm::judge_let-overflow_add-value-2 : goal.stm::judge_let-overflow_add-value-2
stm::judge_let-overflow_add-value-2 t c =
    omega (
      arith,
      trees_told c.args.around.now c.args.first.now (scope_of c.args.scope.now) _ _ _ _
          c.judge_stm-value.ensures,
      trees_told c.args.around.now c.args.then.now
          (scope_of c.with-inner.result) _ _ _ _ c.judge_stm-known.ensures,
    )

pub stm::judge_let-returns : goal.stm::judge_let-returns
stm::judge_let-returns t c =
    let_told c.args.around.now (scope_of c.args.scope.now) (scope_of c.with-inner.result)
    c.args.name.now
    c.args.first.now c.args.then.now c.args.at c.judge_stm-value.result c.judge_stm-known.result
    c.new.result
    c.args.faults.now c.judge_hiding.new.faults c.judge_stm-value.new.faults
    c.judge_stm-known.new.faults
    c.judge_hiding.ensures c.judge_stm-value.ensures c.with-inner.ensures c.judge_stm-known.ensures
    c.new.ensures

pub stm::judge_if-judge_stm-first-requires : goal.stm::judge_if-judge_stm-first-requires
stm::judge_if-judge_stm-first-requires t c = (
  omega (arith, c.decreases),
  omega (arith, c.judge_truth-tested.ensures.trees),
)

pub stm::judge_if-overflow_add-at-4 : goal.stm::judge_if-overflow_add-at-4
stm::judge_if-overflow_add-at-4 t c =
    omega (
      arith,
      c.judge_truth-tested.ensures.trees,
      trees_told c.args.around.now c.args.then.now
          (scope_of c.args.scope.now) _ _ _ _ c.judge_stm-first.ensures,
    )

pub stm::judge_if-judge_stm-second-requires : goal.stm::judge_if-judge_stm-second-requires
stm::judge_if-judge_stm-second-requires t c = (
  omega (arith, c.decreases),
  omega (
    arith,
    c.judge_truth-tested.ensures.trees,
    trees_told c.args.around.now c.args.then.now
        (scope_of c.args.scope.now) _ _ _ _ c.judge_stm-first.ensures,
  ),
)

pub stm::judge_if-with-branches-requires : goal.stm::judge_if-with-branches-requires
stm::judge_if-with-branches-requires t c =
    omega (
      arith,
      one_counted c.none.result c.with.result c.judge_stm-first.result c.none.ensures
          c.with.ensures,
      trees_told c.args.around.now c.args.then.now (scope_of c.args.scope.now) _ _
          _ _ c.judge_stm-first.ensures,
      trees_told c.args.around.now c.args.otherwise.now
          (scope_of c.args.scope.now) _ _ _ _ c.judge_stm-second.ensures,
    )

pub stm::judge_if-overflow_add-tested-2 : goal.stm::judge_if-overflow_add-tested-2
stm::judge_if-overflow_add-tested-2 t c =
    let both : IsBranches (c.judge_stm-first.result.ty ∷ c.judge_stm-second.result.ty ∷ [])
    (c.judge_stm-first.result.trees + c.judge_stm-second.result.trees) c.with-branches.result =
    two_branches c.none.result c.with.result c.judge_stm-first.result c.none.ensures c.with.ensures
    c.with-branches.result c.judge_stm-second.result c.with-branches.ensures in
    omega (
      arith,
      both.counted,
      c.judge_truth-tested.ensures.trees,
      trees_told c.args.around.now
          c.args.then.now (scope_of c.args.scope.now) _ _ _ _ c.judge_stm-first.ensures,
      trees_told
          c.args.around.now c.args.otherwise.now (scope_of c.args.scope.now) _ _ _ _
          c.judge_stm-second.ensures,
    )

pub stm::judge_if-returns : goal.stm::judge_if-returns
stm::judge_if-returns t c =
    let both : IsBranches (c.judge_stm-first.result.ty ∷ c.judge_stm-second.result.ty ∷ [])
    (c.judge_stm-first.result.trees + c.judge_stm-second.result.trees) c.with-branches.result =
    two_branches c.none.result c.with.result c.judge_stm-first.result c.none.ensures c.with.ensures
    c.with-branches.result c.judge_stm-second.result c.with-branches.ensures in
    if_told c.args.around.now (scope_of c.args.scope.now) c.args.test.now c.args.then.now
    c.args.otherwise.now c.args.at
    c.judge_truth-tested.result c.judge_stm-first.result c.judge_stm-second.result c.new.result
    c.args.faults.now
    c.judge_truth-tested.new.faults c.judge_stm-first.new.faults c.judge_stm-second.new.faults
    c.unless.new.self
    c.with-branches.result c.ty.result c.judge_truth-tested.ensures.trees
    (plain_truth c.plain.result c.args.around.now c.args.scope.now c.plain.ensures.around
    c.plain.ensures.standing c.plain.ensures.scope
    c.args.test.now (c.args.at + 2) c.args.faults.now c.judge_truth-tested.new.faults
    c.judge_truth-tested.ensures.faults)
    c.judge_stm-first.ensures c.judge_stm-second.ensures both c.unless.ensures
    (c.ty.ensures _ (own_trees _ _ _ both)) c.new.ensures

pub stm::judge_seq-loop-part-init : goal.stm::judge_seq-loop-part-init
stm::judge_seq-loop-part-init t c =
    seq_begins c.args.around.now (scope_of c.args.scope.now) c.args.at
    c.as_slice-part-items.result.now c.new-known.result c.args.faults.now c.new-known.ensures

pub stm::judge_seq-overflow_add-at : goal.stm::judge_seq-overflow_add-at
stm::judge_seq-overflow_add-at t c =
    omega (arith, c.loop-part.invariant.counted, ap trees_of_stms c.as_slice-part-items.ensures)

pub stm::judge_seq-judge_stm-one-requires : goal.stm::judge_seq-judge_stm-one-requires
stm::judge_seq-judge_stm-one-requires t c = (
  omega (
    arith,
    c.decreases,
    c.loop-part.invariant.begun,
    c.loop-part.invariant.counted,
    ap
        trees_of_stms c.as_slice-part-items.ensures,
    seq_left c.as_slice-part-items.result.now
        c.loop-part.part-index c.part-item.result (omega arith) c.part-item.is,
  ),
  omega (
    arith,
    c.loop-part.invariant.begun,
    c.loop-part.invariant.counted,
    ap trees_of_stms
        c.as_slice-part-items.ensures,
    seq_left c.as_slice-part-items.result.now
        c.loop-part.part-index c.part-item.result (omega arith) c.part-item.is,
  ),
)

pub stm::judge_seq-overflow_add-known : goal.stm::judge_seq-overflow_add-known
stm::judge_seq-overflow_add-known t c =
    omega (
      arith,
      c.loop-part.invariant.counted,
      ap trees_of_stms c.as_slice-part-items.ensures,
      seq_left c.as_slice-part-items.result.now c.loop-part.part-index c.part-item.result
          (omega arith) c.part-item.is,
      trees_told c.args.around.now c.part-item.result
          (scope_of c.args.scope.now) _ _ _ _ c.judge_stm-one.ensures,
    )

pub stm::judge_seq-loop-part-preserved : goal.stm::judge_seq-loop-part-preserved
stm::judge_seq-loop-part-preserved t c =
    seq_goes_on c.args.around.now (scope_of c.args.scope.now) c.args.at
    c.as_slice-part-items.result.now
    (drop (c.loop-part.part-index + 1) c.as_slice-part-items.result.now) c.part-item.result
    c.loop-part.known c.judge_stm-one.result c.new-known-in-loop-part.result c.args.faults.now
    c.loop-part.faults c.judge_stm-one.new.faults
    (subst (λ rest. SeqSoFar c.args.around.now (scope_of c.args.scope.now) c.args.at
    c.as_slice-part-items.result.now rest c.loop-part.known c.args.faults.now
    c.loop-part.faults)
    (drop_next c.as_slice-part-items.result.now c.loop-part.part-index c.part-item.result
    (omega arith) c.part-item.is) c.loop-part.invariant)
    c.judge_stm-one.ensures c.new-known-in-loop-part.ensures

pub stm::judge_seq-returns : goal.stm::judge_seq-returns
stm::judge_seq-returns t c =
    subst (λ parts. Tells (known_of_stm c.args.around.now (stm.Seq parts)
    (scope_of c.args.scope.now)) c.args.at c.loop-part.known c.args.faults.now
    c.loop-part.faults)
    c.as_slice-part-items.ensures
    (seq_told c.args.around.now (scope_of c.args.scope.now) c.args.at
    c.as_slice-part-items.result.now c.loop-part.known c.args.faults.now c.loop-part.faults
    (subst (λ rest. SeqSoFar c.args.around.now (scope_of c.args.scope.now) c.args.at
    c.as_slice-part-items.result.now rest c.loop-part.known c.args.faults.now
    c.loop-part.faults)
    (drop_all c.loop-part.part-index c.as_slice-part-items.result.now (omega arith))
    c.loop-part.invariant))

pub arms::judge_case-overflow_add-at-4 : goal.arms::judge_case-overflow_add-at-4
arms::judge_case-overflow_add-at-4 t c =
    omega (arith, trees_here c.plain.result c.args.value.now _ _ _ _ c.judge_expr-known.ensures)

pub arms::judge_case-judge_case_arms-branches-requires : goal.arms::judge_case-judge_case_arms-branches-requires
arms::judge_case-judge_case_arms-branches-requires t c = (
  omega (arith, c.decreases),
  omega (arith, trees_here c.plain.result c.args.value.now _ _ _ _ c.judge_expr-known.ensures),
)

pub arms::judge_case-overflow_add-known : goal.arms::judge_case-overflow_add-known
arms::judge_case-overflow_add-known t c =
    omega (arith, trees_here c.plain.result c.args.value.now _ _ _ _ c.judge_expr-known.ensures)

pub arms::judge_case-overflow_add-known-2 : goal.arms::judge_case-overflow_add-known-2
arms::judge_case-overflow_add-known-2 t c =
    omega (
      arith,
      trees_here c.plain.result c.args.value.now _ _ _ _ c.judge_expr-known.ensures,
      c.judge_case_arms-branches.ensures.branches.counted,
    )

pub arms::judge_case-returns : goal.arms::judge_case-returns
arms::judge_case-returns t c =
    case_told c.args.around.now (scope_of c.args.scope.now) c.args.value.now c.args.at
    c.judge_expr-known.result c.new.result
    c.args.faults.now c.judge_expr-known.new.faults c.unless.new.self
    c.judge_case_arms-branches.new.faults c.unless-2.new.self c.unless-3.new.self
    c.may_be_enum.result c.lists_enum-are_listed.result c.judge_case_arms-branches.result
    c.ty.result
    (plain_tells c.plain.result c.args.around.now c.args.scope.now c.plain.ensures.around
    c.plain.ensures.standing c.plain.ensures.scope
    c.args.value.now (c.args.at + 2) c.judge_expr-known.result c.args.faults.now
    c.judge_expr-known.new.faults c.judge_expr-known.ensures)
    c.args.arms.now c.may_be_enum.ensures c.unless.ensures
    c.judge_case_arms-branches.ensures.branches c.judge_case_arms-branches.ensures.faults
    (c.lists_enum-are_listed.ensures
    ∙ ap (λ arms. listed_case c.args.around.now c.judge_expr-known.result.ty arms)
    c.as_slice.ensures)
    c.unless-2.ensures c.unless-3.ensures
    (c.ty.ensures _ (own_trees _ _ _ c.judge_case_arms-branches.ensures.branches)) c.new.ensures

pub arms::judge_case_arms-loop-arm-init : goal.arms::judge_case_arms-loop-arm-init
arms::judge_case_arms-loop-arm-init t c =
    arms_begin (case_faults c.args.around.now (scope_of c.args.scope.now))
    (case_types c.args.around.now (scope_of c.args.scope.now)) trees_of_case_arms c.args.at
    c.as_slice-arm-items.result.now c.none-branches.result c.args.faults.now
    c.none-branches.ensures

pub arms::judge_case_arms-overflow_add-next : goal.arms::judge_case_arms-overflow_add-next
arms::judge_case_arms-overflow_add-next t c =
    omega (arith, c.loop-arm.invariant.counted, ap trees_of_case_arms c.as_slice-arm-items.ensures)

pub arms::judge_case_arms-overflow_add-next-in-loop-arm : goal.arms::judge_case_arms-overflow_add-next-in-loop-arm
arms::judge_case_arms-overflow_add-next-in-loop-arm t c =
    omega (
      arith,
      c.loop-arm.invariant.counted,
      ap trees_of_case_arms c.as_slice-arm-items.ensures,
      case_left c.as_slice-arm-items.result.now c.loop-arm.arm-index c.arm-item.result
          (omega arith) c.arm-item.is,
    )

pub arms::judge_case_arms-overflow_add-next-in-loop-arm-2 : goal.arms::judge_case_arms-overflow_add-next-in-loop-arm-2
arms::judge_case_arms-overflow_add-next-in-loop-arm-2 t c =
    omega (
      arith,
      c.loop-arm.invariant.counted,
      ap trees_of_case_arms c.as_slice-arm-items.ensures,
      case_left c.as_slice-arm-items.result.now c.loop-arm.arm-index c.arm-item.result
          (omega arith) c.arm-item.is,
    )

pub arms::judge_case_arms-judge_stm-known-requires : goal.arms::judge_case_arms-judge_stm-known-requires
arms::judge_case_arms-judge_stm-known-requires t c = (
  omega (
    arith,
    c.decreases,
    c.loop-arm.invariant.counted,
    ap trees_of_case_arms
        c.as_slice-arm-items.ensures,
    case_left c.as_slice-arm-items.result.now c.loop-arm.arm-index
        c.arm-item.result (omega arith) c.arm-item.is,
  ),
  omega (
    arith,
    c.loop-arm.invariant.counted,
    ap trees_of_case_arms c.as_slice-arm-items.ensures,
    case_left c.as_slice-arm-items.result.now c.loop-arm.arm-index c.arm-item.result (omega arith)
        c.arm-item.is,
  ),
)

pub arms::judge_case_arms-with-branches-requires : goal.arms::judge_case_arms-with-branches-requires
arms::judge_case_arms-with-branches-requires t c =
    omega (
      arith,
      c.loop-arm.invariant.counted,
      ap trees_of_case_arms c.as_slice-arm-items.ensures,
      case_left c.as_slice-arm-items.result.now c.loop-arm.arm-index c.arm-item.result
          (omega arith) c.arm-item.is,
      trees_told c.args.around.now c.arm-item.result.body
          (scope_of c.args.scope.now) _ _ _ _ c.judge_stm-known.ensures,
    )

pub arms::judge_case_arms-loop-arm-preserved : goal.arms::judge_case_arms-loop-arm-preserved
arms::judge_case_arms-loop-arm-preserved t c =
    arms_go_on (case_faults c.args.around.now (scope_of c.args.scope.now))
    (case_types c.args.around.now (scope_of c.args.scope.now)) trees_of_case_arms c.args.at
    c.as_slice-arm-items.result.now
    (drop (c.loop-arm.arm-index + 1) c.as_slice-arm-items.result.now) c.arm-item.result
    c.loop-arm.branches c.with-branches.result 2
    c.judge_stm-known.result c.args.faults.now c.loop-arm.faults c.judge_stm-known.new.faults
    (subst (λ rest. ArmsSoFar (case_faults c.args.around.now (scope_of c.args.scope.now))
    (case_types c.args.around.now (scope_of c.args.scope.now)) trees_of_case_arms c.args.at
    c.as_slice-arm-items.result.now rest c.loop-arm.branches c.args.faults.now
    c.loop-arm.faults)
    (drop_next c.as_slice-arm-items.result.now c.loop-arm.arm-index c.arm-item.result (omega arith)
    c.arm-item.is) c.loop-arm.invariant)
    (ap (λ type. type ∷ case_types c.args.around.now (scope_of c.args.scope.now)
    (drop (c.loop-arm.arm-index + 1) c.as_slice-arm-items.result.now))
    (sym c.judge_stm-known.ensures.type))
    (case_trees c.args.around.now (scope_of c.args.scope.now) c.arm-item.result
    (drop (c.loop-arm.arm-index + 1) c.as_slice-arm-items.result.now) c.judge_stm-known.result _
    _ _ c.judge_stm-known.ensures)
    (case_noted c.args.around.now (scope_of c.args.scope.now)
    (c.args.at + c.loop-arm.branches.trees) c.arm-item.result
    (drop (c.loop-arm.arm-index + 1) c.as_slice-arm-items.result.now) c.member.result
    c.is_some.result c.judge_stm-known.result
    c.loop-arm.faults c.judge_known.new.faults c.judge_stm-known.new.faults c.member.ensures
    c.is_some.ensures c.judge_known.ensures c.judge_stm-known.ensures)
    c.with-branches.ensures

pub arms::judge_case_arms-returns-clause-branches : goal.arms::judge_case_arms-returns-clause-branches
arms::judge_case_arms-returns-clause-branches t c =
    subst (λ arms. IsBranches (case_types c.args.around.now (scope_of c.args.scope.now) arms)
    (trees_of_case_arms arms) c.loop-arm.branches)
    c.as_slice-arm-items.ensures
    (arms_branches (case_faults c.args.around.now (scope_of c.args.scope.now))
    (case_types c.args.around.now (scope_of c.args.scope.now)) trees_of_case_arms c.args.at
    c.as_slice-arm-items.result.now c.loop-arm.branches c.args.faults.now c.loop-arm.faults refl
    refl
    (subst (λ rest. ArmsSoFar (case_faults c.args.around.now (scope_of c.args.scope.now))
    (case_types c.args.around.now (scope_of c.args.scope.now)) trees_of_case_arms c.args.at
    c.as_slice-arm-items.result.now rest c.loop-arm.branches c.args.faults.now
    c.loop-arm.faults)
    (drop_all c.loop-arm.arm-index c.as_slice-arm-items.result.now (omega arith))
    c.loop-arm.invariant))

pub arms::judge_case_arms-returns-clause-faults : goal.arms::judge_case_arms-returns-clause-faults
arms::judge_case_arms-returns-clause-faults t c =
    let ended : ArmsSoFar (case_faults c.args.around.now (scope_of c.args.scope.now))
    (case_types c.args.around.now (scope_of c.args.scope.now)) trees_of_case_arms c.args.at
    c.as_slice-arm-items.result.now [] c.loop-arm.branches c.args.faults.now c.loop-arm.faults =
    (subst (λ rest. ArmsSoFar (case_faults c.args.around.now (scope_of c.args.scope.now))
    (case_types c.args.around.now (scope_of c.args.scope.now)) trees_of_case_arms c.args.at
    c.as_slice-arm-items.result.now rest c.loop-arm.branches c.args.faults.now
    c.loop-arm.faults)
    (drop_all c.loop-arm.arm-index c.as_slice-arm-items.result.now (omega arith))
    c.loop-arm.invariant) in
    ended.noted ∙ ap (λ arms. least_with c.args.faults.now
    (case_faults c.args.around.now (scope_of c.args.scope.now) c.args.at arms))
    c.as_slice-arm-items.ensures

pub arms::judge_match-overflow_add-at-4 : goal.arms::judge_match-overflow_add-at-4
arms::judge_match-overflow_add-at-4 t c =
    omega (arith, trees_here c.plain.result c.args.value.now _ _ _ _ c.judge_expr-known.ensures)

pub arms::judge_match-judge_match_arms-branches-requires : goal.arms::judge_match-judge_match_arms-branches-requires
arms::judge_match-judge_match_arms-branches-requires t c = (
  omega (arith, c.decreases),
  omega (arith, trees_here c.plain.result c.args.value.now _ _ _ _ c.judge_expr-known.ensures),
)

pub arms::judge_match-overflow_add-known : goal.arms::judge_match-overflow_add-known
arms::judge_match-overflow_add-known t c =
    omega (arith, trees_here c.plain.result c.args.value.now _ _ _ _ c.judge_expr-known.ensures)

pub arms::judge_match-overflow_add-known-2 : goal.arms::judge_match-overflow_add-known-2
arms::judge_match-overflow_add-known-2 t c =
    omega (
      arith,
      trees_here c.plain.result c.args.value.now _ _ _ _ c.judge_expr-known.ensures,
      c.judge_match_arms-branches.ensures.branches.counted,
    )

pub arms::judge_match-returns : goal.arms::judge_match-returns
arms::judge_match-returns t c =
    match_told c.args.around.now (scope_of c.args.scope.now) c.args.value.now c.args.at
    c.judge_expr-known.result c.new.result
    c.args.faults.now c.judge_expr-known.new.faults c.unless.new.self
    c.judge_match_arms-branches.new.faults c.unless-2.new.self c.unless-3.new.self
    c.may_be_union.result c.lists_union-are_listed.result c.judge_match_arms-branches.result
    c.ty.result
    (plain_tells c.plain.result c.args.around.now c.args.scope.now c.plain.ensures.around
    c.plain.ensures.standing c.plain.ensures.scope
    c.args.value.now (c.args.at + 2) c.judge_expr-known.result c.args.faults.now
    c.judge_expr-known.new.faults c.judge_expr-known.ensures)
    c.args.arms.now c.may_be_union.ensures c.unless.ensures
    c.judge_match_arms-branches.ensures.branches c.judge_match_arms-branches.ensures.faults
    (c.lists_union-are_listed.ensures
    ∙ ap (λ arms. listed_match c.args.around.now c.judge_expr-known.result.ty arms)
    c.as_slice.ensures)
    c.unless-2.ensures c.unless-3.ensures
    (c.ty.ensures _ (own_trees _ _ _ c.judge_match_arms-branches.ensures.branches))
    c.new.ensures

pub arms::judge_match_arms-loop-arm-init : goal.arms::judge_match_arms-loop-arm-init
arms::judge_match_arms-loop-arm-init t c =
    arms_begin (match_faults c.args.around.now (scope_of c.args.scope.now))
    (match_types c.args.around.now (scope_of c.args.scope.now)) trees_of_match_arms c.args.at
    c.as_slice-arm-items.result.now c.none-branches.result c.args.faults.now
    c.none-branches.ensures

pub arms::judge_match_arms-overflow_add-at : goal.arms::judge_match_arms-overflow_add-at
arms::judge_match_arms-overflow_add-at t c =
    omega (arith, c.loop-arm.invariant.counted, ap trees_of_match_arms c.as_slice-arm-items.ensures)

pub arms::judge_match_arms-judge_match_arm-known-requires : goal.arms::judge_match_arms-judge_match_arm-known-requires
arms::judge_match_arms-judge_match_arm-known-requires t c = (
  omega (
    arith,
    c.decreases,
    c.loop-arm.invariant.counted,
    ap trees_of_match_arms
        c.as_slice-arm-items.ensures,
    match_left c.as_slice-arm-items.result.now c.loop-arm.arm-index
        c.arm-item.result (omega arith) c.arm-item.is,
  ),
  omega (
    arith,
    c.loop-arm.invariant.counted,
    ap trees_of_match_arms c.as_slice-arm-items.ensures,
    match_left c.as_slice-arm-items.result.now c.loop-arm.arm-index c.arm-item.result
        (omega arith) c.arm-item.is,
  ),
)

pub arms::judge_match_arms-with-branches-requires : goal.arms::judge_match_arms-with-branches-requires
arms::judge_match_arms-with-branches-requires t c =
    omega (
      arith,
      c.loop-arm.invariant.counted,
      ap trees_of_match_arms c.as_slice-arm-items.ensures,
      match_left c.as_slice-arm-items.result.now c.loop-arm.arm-index c.arm-item.result
          (omega arith) c.arm-item.is,
      c.judge_match_arm-known.ensures.trees,
      trees_of_known
          c.args.around.now c.arm-item.result.body
          (payload_here c.args.around.now c.arm-item.result ∷ (scope_of c.args.scope.now)),
    )

pub arms::judge_match_arms-loop-arm-preserved : goal.arms::judge_match_arms-loop-arm-preserved
arms::judge_match_arms-loop-arm-preserved t c =
    arms_go_on (match_faults c.args.around.now (scope_of c.args.scope.now))
    (match_types c.args.around.now (scope_of c.args.scope.now)) trees_of_match_arms c.args.at
    c.as_slice-arm-items.result.now
    (drop (c.loop-arm.arm-index + 1) c.as_slice-arm-items.result.now) c.arm-item.result
    c.loop-arm.branches c.with-branches.result 3
    c.judge_match_arm-known.result c.args.faults.now c.loop-arm.faults
    c.judge_match_arm-known.new.faults
    (subst (λ rest. ArmsSoFar (match_faults c.args.around.now (scope_of c.args.scope.now))
    (match_types c.args.around.now (scope_of c.args.scope.now)) trees_of_match_arms c.args.at
    c.as_slice-arm-items.result.now rest c.loop-arm.branches c.args.faults.now
    c.loop-arm.faults)
    (drop_next c.as_slice-arm-items.result.now c.loop-arm.arm-index c.arm-item.result (omega arith)
    c.arm-item.is) c.loop-arm.invariant)
    (ap (λ type. type ∷ match_types c.args.around.now (scope_of c.args.scope.now)
    (drop (c.loop-arm.arm-index + 1) c.as_slice-arm-items.result.now))
    (sym c.judge_match_arm-known.ensures.of_type))
    (match_trees c.args.around.now (scope_of c.args.scope.now) c.arm-item.result
    (drop (c.loop-arm.arm-index + 1) c.as_slice-arm-items.result.now)
    c.judge_match_arm-known.result c.judge_match_arm-known.ensures.trees)
    (match_noted c.args.around.now (scope_of c.args.scope.now)
    (c.args.at + c.loop-arm.branches.trees) c.arm-item.result
    (drop (c.loop-arm.arm-index + 1) c.as_slice-arm-items.result.now)
    c.judge_match_arm-known.result
    c.loop-arm.faults c.judge_match_arm-known.new.faults c.judge_match_arm-known.ensures.faults
    c.judge_match_arm-known.ensures.trees)
    c.with-branches.ensures

pub arms::judge_match_arms-returns-clause-branches : goal.arms::judge_match_arms-returns-clause-branches
arms::judge_match_arms-returns-clause-branches t c =
    subst (λ arms. IsBranches (match_types c.args.around.now (scope_of c.args.scope.now) arms)
    (trees_of_match_arms arms) c.loop-arm.branches)
    c.as_slice-arm-items.ensures
    (arms_branches (match_faults c.args.around.now (scope_of c.args.scope.now))
    (match_types c.args.around.now (scope_of c.args.scope.now)) trees_of_match_arms c.args.at
    c.as_slice-arm-items.result.now c.loop-arm.branches c.args.faults.now c.loop-arm.faults refl
    refl
    (subst (λ rest. ArmsSoFar (match_faults c.args.around.now (scope_of c.args.scope.now))
    (match_types c.args.around.now (scope_of c.args.scope.now)) trees_of_match_arms c.args.at
    c.as_slice-arm-items.result.now rest c.loop-arm.branches c.args.faults.now
    c.loop-arm.faults)
    (drop_all c.loop-arm.arm-index c.as_slice-arm-items.result.now (omega arith))
    c.loop-arm.invariant))

pub arms::judge_match_arms-returns-clause-faults : goal.arms::judge_match_arms-returns-clause-faults
arms::judge_match_arms-returns-clause-faults t c =
    let ended : ArmsSoFar (match_faults c.args.around.now (scope_of c.args.scope.now))
    (match_types c.args.around.now (scope_of c.args.scope.now)) trees_of_match_arms c.args.at
    c.as_slice-arm-items.result.now [] c.loop-arm.branches c.args.faults.now c.loop-arm.faults =
    (subst (λ rest. ArmsSoFar (match_faults c.args.around.now (scope_of c.args.scope.now))
    (match_types c.args.around.now (scope_of c.args.scope.now)) trees_of_match_arms c.args.at
    c.as_slice-arm-items.result.now rest c.loop-arm.branches c.args.faults.now
    c.loop-arm.faults)
    (drop_all c.loop-arm.arm-index c.as_slice-arm-items.result.now (omega arith))
    c.loop-arm.invariant) in
    ended.noted ∙ ap (λ arms. least_with c.args.faults.now
    (match_faults c.args.around.now (scope_of c.args.scope.now) c.args.at arms))
    c.as_slice-arm-items.ensures
