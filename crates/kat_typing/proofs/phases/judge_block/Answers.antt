-- The faults of a block are noted step by step.
use Rattle.std.proofs.Common.{◌≡◌, ◌+◌, ◌&&◌, nat_le, [], refl, ap, ◌∙◌, arith}
use Rattle.kat_ast.specs.Assertions.{trees_of_assertion}
use Rattle.kat_syntax.specs.Limits.{most_within}
use Rattle.kat_syntax.specs.declared.type_rule.TypeRule.TheVariants.{WithinOutside}
use Rattle.kat_syntax.specs.TypeRules.{least_with, unless}
use Rattle.kat_syntax.specs.TypingExpressions as typing
use Rattle.kat_syntax.specs.TypingDeclarations.{assertion_at}
use Rattle.kat_expr_types.specs.declared.setting.Standing.TheVariants.{WithKept, InChange}
use Rattle.kat_expr_types.specs.Scopes.{scope_of}
use Rattle.kat_typing.proofs.Judging.{noted_both, base_scope, assertion_noted, truth_noted}
use Rattle.kat_typing.proofs.phases.judge_block.Goals as goal

pub returns : goal.returns
returns c =
    let around = c.args.around.now in
    let block = c.args.block.now in
    let within_at = 5 + trees_of_assertion block.entry in
    let place : c.judge_assertion-within_at.result ≡ trees_of_assertion block.entry =
    c.judge_assertion-within_at.ensures.trees in
    noted_both c.args.faults.now c.judge_assertion-within_at.new.faults _
    (assertion_at around typing.WithKept [] 5 block.entry) _
    (assertion_noted c.new-at_entry.result around WithKept [] c.new-at_entry.ensures.around
    c.new-at_entry.ensures.standing
    (ap scope_of c.new-at_entry.ensures.scope ∙ base_scope _ ∙ c.in_ok-base.ensures)
    block.entry 5 5 c.args.faults.now c.judge_assertion-within_at.new.faults refl
    c.judge_assertion-within_at.ensures.judged.noted)
    (noted_both c.judge_assertion-within_at.new.faults c.unless.new.self _
    (unless (nat_le 1 block.within && nat_le block.within most_within)
    (within_at + 2) WithinOutside) _
    (c.unless.ensures
    ∙ ap (λ b. least_with c.judge_assertion-within_at.new.faults
    (unless b (5 + c.judge_assertion-within_at.result + 2) WithinOutside)) c.is_within.ensures
    ∙ ap (λ n. least_with c.judge_assertion-within_at.new.faults
    (unless (nat_le 1 block.within && nat_le block.within most_within)
    (5 + n + 2) WithinOutside)) place)
    (truth_noted c.new-in_change.result around InChange [] c.new-in_change.ensures.around
    c.new-in_change.ensures.standing
    (ap scope_of c.new-in_change.ensures.scope ∙ base_scope _ ∙ c.in_ok-base.ensures)
    block.change _ (within_at + 5) c.unless.new.self c.judge_truth.new.faults
    (omega (arith, place)) c.judge_truth.ensures.faults))
