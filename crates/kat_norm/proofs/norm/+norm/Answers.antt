use Rattle.std.proofs.Common.{ap, ◌≤◌, ◌∙◌, sym, subst, arith, map}
use Rattle.std.specs.Prelude.{sum}
use Rattle.std.proofs.lemmas.Result.{err_from_is_err_and}
use Rattle.kat_term.specs.declared.term.Term.TheViews.{out-Term}
use Rattle.kat_term.specs.Sizes.{nodes}
use Rattle.kat_rules.specs.RightSides.{AllHoldBelow, parts_of, HoldsBelow}
use Rattle.kat_rules.specs.Rules.{rule_of}
use Rattle.kat_norm.specs.Levels.{is_normal}
use Rattle.kat_norm.specs.Norm.{Done}
use Rattle.kat_norm.proofs.NormalLevels.{parts_stay, parts_normal, item_below, below_parts, right_levels}
use Rattle.kat_norm.proofs.NormSteps.{begins, begins_failing, within_nodes, item_nodes, next_so_far, next_failing}
use Rattle.kat_norm.proofs.norm.+norm.Goals as goal

pub norm_term-loop-current-init : goal.norm_term-loop-current-init
norm_term-loop-current-init t c = record {
  comes =
      begins (rule_of c.args.vars.now) c.args.left.now c.args.term.now c.in_ok-current.current c.norm_parts.new.left c.in_ok-current.ensures.normal;
  normal =
      parts_normal (rule_of c.args.vars.now) c.args.left.now
      (out-Term c.args.term.now) c.in_ok-current.current c.norm_parts.new.left c.in_ok-current.ensures.normal;
  spent = c.norm_parts.ensures.spent;
}

pub norm_term-returns-in_err-current-clause-normal : goal.norm_term-returns-in_err-current-clause-normal
norm_term-returns-in_err-current-clause-normal t c =
    let p =
    err_from_is_err_and c.from_residual-in_err-current.result c.from_residual-in_err-current.ensures.1 in
    rw (p.1, p.2) (begins_failing
    (rule_of c.args.vars.now) c.args.left.now c.args.term.now c.in_err-current.field-0.0 c.in_err-current.ensures.normal)

pub norm_term-returns-in_err-current-2-clause-normal : goal.norm_term-returns-in_err-current-2-clause-normal
norm_term-returns-in_err-current-2-clause-normal t c =
    let p =
    err_from_is_err_and c.from_residual-in_err-current-2.result c.from_residual-in_err-current-2.ensures.1 in
    rw (p.1, p.2) (next_failing
    (rule_of c.args.vars.now) c.args.left.now c.args.term.now c.loop-current.current c.in-Some.right c.loop-current.left c.in_err-current-2.field-0.0
    c.loop-current.invariant (sym c.in_ok-right.ensures
    ∙ c.in-Some.is) c.in_err-current-2.ensures.normal)

pub norm_term-loop-current-preserved : goal.norm_term-loop-current-preserved
norm_term-loop-current-preserved t c =
    next_so_far (rule_of c.args.vars.now) c.args.left.now c.args.term.now c.loop-current.current c.in-Some.right c.in_ok-current-2.current c.loop-current.left c.norm_right.new.left
    c.loop-current.invariant (sym c.in_ok-right.ensures
    ∙ c.in-Some.is) c.in_ok-current-2.ensures.normal c.norm_right.ensures.more

pub norm_terms-norm_term-requires : goal.norm_terms-norm_term-requires
norm_terms-norm_term-requires t c =
    let less : nodes c.term-item.result ≤ sum (map nodes c.args.terms.now) =
    subst (λ u. nodes u ≤ sum (map nodes c.args.terms.now)) (sym c.term-item.is)
    (item_nodes c.args.terms.now c.loop-term.term-index c.term-item.result c.loop-term-test.true) in
    let spent = c.loop-term.invariant.spent in
    let normal : HoldsBelow (is_normal (rule_of c.args.vars.now)) c.args.levels c.term-item.result =
    subst (λ u. HoldsBelow (is_normal (rule_of c.args.vars.now)) c.args.levels u)
    (sym c.term-item.is)
    (item_below (is_normal
    (rule_of c.args.vars.now)) c.args.levels c.args.terms.now c.loop-term.term-index c.term-item.result c.loop-term-test.true c.requires) in
    (omega (arith, less), normal)

pub norm_right-norm_parts-requires : goal.norm_right-norm_parts-requires
norm_right-norm_parts-requires t c =
    let levels : HoldsBelow (is_normal (rule_of c.args.vars.now)) c.levels_of.result c.args.right =
    right_levels c.right_sides_are_shallow.ensures c.args.vars.now c.args.term.now c.args.right c.levels_of.result c.requires.rule c.requires.parts
    c.in_ok-within_limits.ensures c.levels_of.ensures.is in (
      omega (arith, within_nodes c.args.right c.in_ok-within_limits.ensures),
      below_parts (is_normal
          (rule_of c.args.vars.now)) c.levels_of.result c.args.right c.levels_of.ensures.some levels,
    )

pub norm_parts-returns-then-levels-eq0-clause-normal :
    goal.norm_parts-returns-then-levels-eq0-clause-normal
norm_parts-returns-then-levels-eq0-clause-normal t c =
    let rule = rule_of c.args.vars.now in
    let normal : AllHoldBelow (is_normal rule) 0 (parts_of c.args.term.now) =
    subst (λ k. AllHoldBelow (is_normal rule) k (parts_of c.args.term.now))
    c.if-levels-eq0.true c.requires in
    parts_stay rule c.args.left.now c.args.term.now normal
    ∙ ap (λ u. Done u c.args.left.now) (sym c.in_ok-copy_term.ensures)
