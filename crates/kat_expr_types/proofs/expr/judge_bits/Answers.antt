-- Bits are known by their layer, their faults noted in two steps.
use Rattle.std.proofs.Common.{ap, ◌∙◌, ◌+◌, ◌^◌, nat_lt}
use Rattle.kat_value.specs.Widths.{is_width}
use Rattle.kat_ast.specs.declared.expr.Expr.TheVariants as expr
use Rattle.kat_ast.specs.declared.expr.Expr.TheOpen.{Bits}
use Rattle.kat_ast.specs.declared.expr.Expr.TheViews.{outs-Bits}
use Rattle.kat_syntax.specs.declared.type_rule.TypeRule.TheVariants.{NoWidth, LiteralLarge}
use Rattle.kat_syntax.specs.TypeRules.{least_with, unless}
use Rattle.kat_expr_types.specs.Judging.{standing_of}
use Rattle.kat_expr_types.specs.Scopes.{scope_of}
use Rattle.kat_expr_types.proofs.Noting.{noted_both}
use Rattle.kat_expr_types.proofs.Layers.{told_at}
use Rattle.kat_expr_types.proofs.expr.judge_bits.Goals as goal

pub returns : goal.returns
returns c = λ s.
    let w = c.args.width in
    let n = c.args.number in
    let at = c.args.at in
    told_at s.around.now (standing_of s.standing) (scope_of s.scope.now) (expr.Bits w n)
    (Bits w n) at
    c.new.result c.args.faults.now c.unless-2.new.self (outs-Bits w n)
    (record {
      trees = cc;
      type = cc;
      faults = noted_both c.args.faults.now (unless (is_width w) (at + 2) NoWidth)
          (unless (nat_lt n (2 ^ w)) (at + 3) LiteralLarge)
          (c.unless.ensures ∙ ap (λ b. least_with c.args.faults.now (unless b (at + 2) NoWidth))
          c.is_width.ensures.value)
          (c.unless-2.ensures ∙ ap (λ b. least_with c.unless.new.self
          (unless b (at + 3) LiteralLarge)) c.is_below.ensures);
    })
