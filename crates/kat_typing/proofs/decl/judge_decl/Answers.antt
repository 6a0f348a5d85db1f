-- The faults of the names, of the limits, and then the others.
use Rattle.std.proofs.Common.{ap, ◌∙◌}
use Rattle.std.proofs.lemmas.Result.{on_ok_weaker}
use Rattle.kat_syntax.specs.declared.type_rule.TypeRule.TheVariants.{TooMany}
use Rattle.kat_syntax.specs.TypeRules.{least_with, unless}
use Rattle.kat_syntax.specs.TypingDeclarations.{taken_names, own_names, is_in_limits, inner_faults}
use Rattle.kat_typing.proofs.Judging.{noted_both}
use Rattle.kat_typing.proofs.decl.judge_decl.Goals as goal

pub returns : goal.returns
returns c =
    let around = c.args.around.now in
    let decl = c.args.decl.now in
    on_ok_weaker c.judge_inner.result (λ inner.
    noted_both c.args.faults.now c.judge_names.new.faults c.judge_inner.new.faults
    (taken_names around (own_names around decl)) _
    c.judge_names.ensures
    (noted_both c.judge_names.new.faults c.unless.new.self c.judge_inner.new.faults
    (unless (is_in_limits around decl) 0 TooMany) (inner_faults around decl)
    (c.unless.ensures
    ∙ ap (λ b. least_with c.judge_names.new.faults (unless b 0 TooMany)) c.is_in_limits.ensures)
    inner)) c.judge_inner.ensures
