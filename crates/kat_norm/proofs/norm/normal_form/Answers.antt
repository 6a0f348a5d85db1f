use Rattle.std.proofs.lemmas.Result.{err_from_is_err_and}
use Rattle.kat_rules.specs.Rules.{rule_of}
use Rattle.kat_norm.specs.Levels.{is_normal}
use Rattle.kat_norm.proofs.NormalLevels.{all_levels, deep_within}
use Rattle.kat_norm.proofs.NormSteps.{all_rules, result_too_large, whole_done, whole_failing, whole_too_large}
use Rattle.kat_norm.proofs.norm.normal_form.Goals as goal

pub returns-in_err-within_limits : goal.returns-in_err-within_limits
returns-in_err-within_limits c =
    let p = err_from_is_err_and c.from_residual.result c.from_residual.ensures.1 in
    rw (p.1, p.2) (whole_too_large
    (rule_of c.args.vars.now) c.args.term.now c.in_err-within_limits.field-0.0 c.in_err-within_limits.ensures)

pub returns-in_err-normal : goal.returns-in_err-normal
returns-in_err-normal c =
    let p =
    err_from_is_err_and c.from_residual-in_err-normal.result c.from_residual-in_err-normal.ensures.1 in
    rw (p.1, p.2) (whole_failing
    (rule_of c.args.vars.now) 1000000 c.args.term.now c.in_err-normal.field-0.0 all_rules c.in_ok-within_limits.ensures c.in_err-normal.ensures.normal)

pub returns-in_err-within_limits-2 : goal.returns-in_err-within_limits-2
returns-in_err-within_limits-2 c =
    let p =
    err_from_is_err_and c.from_residual-in_err-within_limits-2.result c.from_residual-in_err-within_limits-2.ensures.1 in
    rw (p.1, p.2)
    (result_too_large (rule_of c.args.vars.now) 1000000 c.args.term.now c.in_ok-normal.normal c.norm_term.new.left c.in_err-within_limits-2.field-0.0
    all_rules c.in_ok-within_limits.ensures c.in_ok-normal.ensures.normal c.in_err-within_limits-2.ensures)

pub returns : goal.returns
returns c =
    whole_done (rule_of c.args.vars.now) 1000000 c.args.term.now c.in_ok-normal.normal c.norm_term.new.left
    all_rules c.in_ok-within_limits.ensures c.in_ok-normal.ensures.normal c.in_ok-within_limits-2.ensures

pub norm_term-requires : goal.norm_term-requires
norm_term-requires c =
    deep_within (is_normal
    (rule_of c.args.vars.now)) 512 c.args.term.now all_levels c.in_ok-within_limits.ensures
