use Rattle.std.proofs.Common.{[], refl, ap, ◌∙◌, not}
use Rattle.kat_syntax.specs.declared.type_rule.TypeRule.TheVariants.{NotOnce}
use Rattle.kat_syntax.specs.TypeRules.{unless}
use Rattle.kat_syntax.specs.TypingExpressions as typing
use Rattle.kat_syntax.specs.TypingDeclarations.{assertion_at, is_second, is_untrusted}
use Rattle.kat_expr_types.specs.declared.setting.Standing.TheVariants.{WithKept}
use Rattle.kat_expr_types.specs.Scopes.{scope_of}
use Rattle.kat_typing.proofs.Judging.{noted_both, base_scope, assertion_noted}
use Rattle.kat_typing.proofs.once.judge_untrusted.Goals as goal

pub returns : goal.returns
returns c =
    let around = c.args.around.now in
    noted_both c.args.faults.now c.judge_assertion.new.faults c.judge_once.new.faults
    (assertion_at around typing.WithKept [] 2 c.args.holds.now)
    (unless (not (is_second is_untrusted around)) 0 NotOnce)
    (assertion_noted c.new-setting.result around WithKept []
    c.new-setting.ensures.around c.new-setting.ensures.standing
    (ap scope_of c.new-setting.ensures.scope ∙ base_scope _ ∙ c.in_ok-base.ensures)
    c.args.holds.now 2 2 c.args.faults.now c.judge_assertion.new.faults refl
    c.judge_assertion.ensures.judged.noted)
    c.judge_once.ensures
